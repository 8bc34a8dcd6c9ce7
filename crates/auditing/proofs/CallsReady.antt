-- The calls of a line on a machine whose tasks are ready for them. Others cite `line_made`: where those that are released have no gap and those that are
-- finished are open, the calls are all taken, and what they do (`LineMade`). LineCalls.antt goes the other way, from calls that were taken to what they
-- found.
use Prim.Native.Nat.{ℕ, suc, ◌+◌, ◌<◌}
use native.Mathlib.Omega.{arith}
use mathlib.Core.Path.{◌≡◌, refl, ◌∙◌}
use mathlib.Core.Bool.{Bool, true, false}
use mathlib.Core.List.{List, [], ◌∷◌, ◌++◌}
use lib.ListN.{get_or}
use Rattle.tasks.specs.declared.table.Table.{Table}
use Rattle.tasks.specs.Outcome.{is_done}
use Rattle.job.specs.declared.job.Job.{Job}
use Rattle.job.specs.Job.{closed_job}
use Rattle.machine.specs.Machine.{job_at}
use Rattle.machine.specs.Calls.{step}
use Rattle.machine.specs.Play.{machine_after}
use Rattle.machine.specs.declared.machine.Machine.{Machine}
use Rattle.machine.specs.declared.call.Call.{Call}
use Rattle.auditing.specs.Line.{release_at, finish_at, calls_from, all_taken}
use Rattle.auditing.proofs.CallsAppended.{taken_append, machine_append}
use Rattle.auditing.proofs.SoundRun.{Running, Made, whole_job, release_made, finish_made}
use Rattle.auditing.proofs.LineCalls.{with_release, with_finish, released_jobs, finished_jobs}

-- some calls are taken, and the machine still runs the table
record AllMade (t : Table) (cores : ℕ) (m : Machine) (calls : List Call) : Type 0 where
  taken : all_taken m calls ≡ true
  running : Running t cores (machine_after m calls)

-- a task of the table of whose job this holds
pub record Ready (t : Table) (ready : Job → Type 0) (m : Machine) (i : ℕ) : Type 0 where
  pub inside : i < t.count
  pub is_ready : ready (job_at m i)

module _
    (t : Table)
    (cores : ℕ)
    (call : ℕ → Call)
    (ready : Job → Type 0)
    (does : ℕ → Job → Job)
    (makes : (m : Machine) → Running t cores m → (i : ℕ) → i < t.count → ready (job_at m i) → Made t cores m i (does i (job_at m i)) (step m (call i)))
  where
    all_made :
        (named : List Bool) (i : ℕ) (m : Machine) → Running t cores m → ((k : ℕ) → get_or named k false ≡ true → Ready t ready m (i + k))
        → AllMade t cores m (calls_from call i named)
    unfolding calls_from all_taken machine_after is_done
    all_made [] i m r each = record { taken = refl; running = r }
    all_made (true ∷ others) i m r each =
        let e : i + 0 ≡ i = omega arith in
        let at_i : Ready t ready m i = rw e at (each 0 refl) in
        let first = makes m r i at_i.inside at_i.is_ready in
        let rest =
        all_made others (suc i) (step m (call i)).machine first.running
        (λ k named.
        let next : i + suc k ≡ suc i + k = omega arith in
        let at-k : Ready t ready m (suc i + k) = rw next at (each (suc k) named) in
        let same = first.others (suc i + k) (λ e. omega arith) in
        record { inside = at-k.inside; is_ready = rw same at-k.is_ready }) in
        record { taken = rw first.accepted rest.taken; running = rest.running }
    all_made (false ∷ others) i m r each =
        all_made others (suc i) m r (λ k named. let next : i + suc k ≡ suc i + k = omega arith in rw next at (each (suc k) named))

-- what a release and a finish find
abbrev pub Free : Job → Type 0
Free j = j.gap ≡ 0

abbrev pub IsOpen : Job → Type 0
IsOpen j = j.«open» ≡ true

-- the calls were taken, and what they did to each job
pub record LineMade (t : Table) (cores : ℕ) (released finished : List Bool) (m : Machine) (calls : List Call) : Type 0 where
  pub taken : all_taken m calls ≡ true
  pub running : Running t cores (machine_after m calls)
  pub jobs : (i : ℕ) → job_at (machine_after m calls) i ≡ with_finish finished i (with_release t released i (job_at m i))

-- a task that a line finishes is of the table, and open after the releases
pub record Ended (t : Table) (released : List Bool) (m : Machine) (i : ℕ) : Type 0 where
  pub inside : i < t.count
  pub was_open : IsOpen (with_release t released i (job_at m i))

module _
    (t : Table)
    (cores : ℕ)
    (released finished : List Bool)
    (m : Machine)
    (r : Running t cores m)
    (releases : (i : ℕ) → get_or released i false ≡ true → Ready t Free m i)
    (finishes : (i : ℕ) → get_or finished i false ≡ true → Ended t released m i)
  where
    from_0 : (i : ℕ) → 0 + i ≡ i
    from_0 i = omega arith

    release_calls : List Call
    release_calls = calls_from (release_at t) 0 released

    all_released_lem : AllMade t cores m release_calls
    unfolding release_calls
    all_released_lem =
        all_made t cores (release_at t) Free (λ i j. whole_job t i) (release_made t cores) released 0 m r
        (λ i named. rw (from_0 i) (releases i named))

    jobs_between : (i : ℕ) → job_at (machine_after m release_calls) i ≡ with_release t released i (job_at m i)
    unfolding release_calls
    jobs_between = released_jobs released t m r.table_is r.all_jobs all_released_lem.taken

    all_finished : AllMade t cores (machine_after m release_calls) (calls_from finish_at 0 finished)
    all_finished =
        all_made t cores finish_at IsOpen (λ i j. closed_job j) (finish_made t cores) finished 0 (machine_after m release_calls) all_released_lem.running
        (λ i named.
        let ended = finishes i named in
        rw (from_0 i) (record { inside = ended.inside; is_ready = rw (jobs_between i) ended.was_open }))

    pub line_made : LineMade t cores released finished m (calls_from (release_at t) 0 released ++ calls_from finish_at 0 finished)
    unfolding release_calls
    line_made =
        let between = machine_after m release_calls in
        let after = machine_append m release_calls (calls_from finish_at 0 finished) in
        record {
          taken = taken_append m release_calls (calls_from finish_at 0 finished) ∙ rw all_released_lem.taken all_finished.taken;
          running = rw after all_finished.running;
          jobs = λ i. rw (after, ← jobs_between i) (finished_jobs finished between all_released_lem.running.all_jobs all_finished.taken i);
        }
