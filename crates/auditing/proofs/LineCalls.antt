-- What the releases and the finishes of a line do, one for each task that a value names, where all are taken. Others cite: of calls each of which leaves
-- every job but its own task's (`OneJob`), as both do (`release_one`, `finish_one`), `alike_after` and `named_called` (`CalledAt`); what an accepted one
-- found, `release_opened` and `finish_closed`; and what they make of each job, `released_jobs` (`with_release`) and `finished_jobs` (`with_finish`).
use Prim.Native.Nat.{ℕ, zero, suc, ◌+◌, ◌-◌, ◌<◌}
use native.Mathlib.Omega.{arith}
use mathlib.Core.Path.{◌≡◌, refl, ap, ◌∙◌}
use mathlib.Core.Bool.{Bool, true, false, cond}
use mathlib.Core.List.{List, [], ◌∷◌}
use lib.ListN.{length, get_or, length-set}
use Rattle.laws.proofs.CaseSplits.{by_test, not_both, clash}
use Rattle.laws.proofs.Booleans.{and_left, and_right}
use Rattle.tasks.specs.declared.table.Table.{Table}
use Rattle.tasks.specs.Outcome.{is_done}
use Rattle.tasks.specs.Limits.{max_tasks}
use Rattle.job.specs.declared.job.Job.{Job}
use Rattle.job.specs.Job.{released_job, closed_job}
use Rattle.machine.specs.Machine.{task_at, job_at, with_job}
use Rattle.machine.specs.Calls.{step}
use Rattle.machine.specs.Play.{machine_after}
use Rattle.machine.specs.declared.machine.Machine.{Machine}
use Rattle.machine.specs.declared.call.Call.{Call}
use Rattle.machine.specs.declared.call.Call.TheVariants.{Release, Finish}
use Rattle.machine.proofs.State.{job_set, job_other}
use Rattle.machine.proofs.CallCases.{FinishTaken, after_release, after_finish, by_call}
use Rattle.machine.proofs.CallKinds.{Opened, by_kind}
use Rattle.machine.proofs.JobSteps.{released_job_lem}
use Rattle.auditing.specs.Line.{release_at, finish_at, calls_from, all_taken}
use Rattle.auditing.proofs.SoundRun.{task_of, whole_job}

-- m' has the table of m, and records for as many jobs
pub record Alike (m m' : Machine) : Type 0 where
  pub same_table : m'.table ≡ m.table
  pub same_long : length m'.jobs ≡ length m.jobs

alike_self : (m : Machine) → Alike m m
alike_self m = record { same_table = refl; same_long = refl }

alike_then : {m m' m'' : Machine} → Alike m m' → Alike m' m'' → Alike m m''
alike_then first later = record { same_table = later.same_table ∙ first.same_table; same_long = later.same_long ∙ first.same_long }

-- m' is m but for the job of the task at index i
pub record OneJob (m m' : Machine) (i : ℕ) : Type 0 where
  pub alike : Alike m m'
  pub others_stay : (k : ℕ) → (k ≡ i → ⊥) → job_at m' k ≡ job_at m k

-- among some calls that led from m to m' this one was taken, and no other changed the job of the task at index k
pub record CalledAt (m m' : Machine) (call : Call) (k : ℕ) : Type 0 where
  pub found : Machine
  pub alike : Alike m found
  pub same_job : job_at found k ≡ job_at m k
  pub done : is_done (step found call).outcome ≡ true
  pub job_after_lem : job_at m' k ≡ job_at (step found call).machine k

-- calls each of which leaves every job but that of its own task
module _
    (call : ℕ → Call)
    (one : (m : Machine) (i : ℕ) → is_done (step m (call i)).outcome ≡ true → OneJob m (step m (call i)).machine i)
  where
    -- the first of some calls is taken, and so are the others
    first_done : (m : Machine) (i : ℕ) (others : List Bool) → all_taken m (calls_from call i (true ∷ others)) ≡ true → is_done (step m (call i)).outcome ≡ true
    unfolding all_taken calls_from
    first_done m i others all = and_left (is_done (step m (call i)).outcome) _ all

    others_done :
        (m : Machine) (i : ℕ) (others : List Bool) → all_taken m (calls_from call i (true ∷ others)) ≡ true
        → all_taken (step m (call i)).machine (calls_from call (suc i) others) ≡ true
    unfolding all_taken calls_from
    others_done m i others all = and_right (is_done (step m (call i)).outcome) _ all

    pub alike_after :
        (named : List Bool) (i : ℕ) (m : Machine) → all_taken m (calls_from call i named) ≡ true → Alike m (machine_after m (calls_from call i named))
    unfolding machine_after calls_from
    alike_after [] i m all = alike_self m
    alike_after (true ∷ others) i m all =
        alike_then (one m i (first_done m i others all)).alike (alike_after others (suc i) (step m (call i)).machine (others_done m i others all))
    alike_after (false ∷ others) i m all = alike_after others (suc i) m all

    -- the job of a task before the first that a call may be of
    lower_stays :
        (named : List Bool) (i : ℕ) (m : Machine) → all_taken m (calls_from call i named) ≡ true
        → (k : ℕ) → k < i → job_at (machine_after m (calls_from call i named)) k ≡ job_at m k
    unfolding machine_after calls_from
    lower_stays [] i m all k below = refl
    lower_stays (true ∷ others) i m all k below =
        lower_stays others (suc i) (step m (call i)).machine (others_done m i others all) k (omega arith)
        ∙ (one m i (first_done m i others all)).others_stay k (λ e. omega arith)
    lower_stays (false ∷ others) i m all k below = lower_stays others (suc i) m all k (omega arith)

    -- the job of a task that is not named: k is its index, and j its place among the flags
    unnamed_from :
        (named : List Bool) (i : ℕ) (m : Machine) → all_taken m (calls_from call i named) ≡ true
        → (k j : ℕ) → k ≡ i + j → get_or named j false ≡ false → job_at (machine_after m (calls_from call i named)) k ≡ job_at m k
    unfolding machine_after calls_from
    unnamed_from [] i m all k j place off = refl
    unnamed_from (true ∷ others) i m all k zero place off = not_both true refl off
    unnamed_from (true ∷ others) i m all k (suc j) place off =
        unnamed_from others (suc i) (step m (call i)).machine (others_done m i others all) k j (omega arith) off
        ∙ (one m i (first_done m i others all)).others_stay k (λ e. omega arith)
    unnamed_from (false ∷ others) i m all k zero place off = lower_stays others (suc i) m all k (omega arith)
    unnamed_from (false ∷ others) i m all k (suc j) place off = unnamed_from others (suc i) m all k j (omega arith) off

    -- the call of a task that is named
    named_from :
        (named : List Bool) (i : ℕ) (m : Machine) → all_taken m (calls_from call i named) ≡ true
        → (k j : ℕ) → k ≡ i + j → get_or named j false ≡ true → CalledAt m (machine_after m (calls_from call i named)) (call k) k
    unfolding machine_after calls_from
    named_from [] i m all k j place on = not_both false on refl
    named_from (true ∷ others) i m all k zero place on =
        let here : k ≡ i = omega arith in
        rw here
        (record {
          found = m;
          alike = alike_self m;
          same_job = refl;
          done = first_done m i others all;
          job_after_lem = lower_stays others (suc i) (step m (call i)).machine (others_done m i others all) i (omega arith);
        })
    named_from (true ∷ others) i m all k (suc j) place on =
        let first = one m i (first_done m i others all) in
        let later = named_from others (suc i) (step m (call i)).machine (others_done m i others all) k j (omega arith) on in
        record {
          found = later.found;
          alike = alike_then first.alike later.alike;
          same_job = later.same_job ∙ first.others_stay k (λ e. omega arith);
          done = later.done;
          job_after_lem = later.job_after_lem;
        }
    named_from (false ∷ others) i m all k zero place on = not_both false on refl
    named_from (false ∷ others) i m all k (suc j) place on = named_from others (suc i) m all k j (omega arith) on

    module _ (named : List Bool) (m : Machine) (all : all_taken m (calls_from call 0 named) ≡ true) (k : ℕ) where
      unnamed_stays : get_or named k false ≡ false → job_at (machine_after m (calls_from call 0 named)) k ≡ job_at m k
      unnamed_stays off = unnamed_from named 0 m all k k (omega arith) off

      pub named_called : get_or named k false ≡ true → CalledAt m (machine_after m (calls_from call 0 named)) (call k) k
      named_called on = named_from named 0 m all k k (omega arith) on

-- an accepted release
pub release_opened :
    (m : Machine) (number need : ℕ) → is_done (step m (Release number need)).outcome ≡ true
    → Opened m (step m (Release number need)).machine number need
unfolding is_done
release_opened m number need done =
    by_kind m (λ call answer. is_done answer.outcome ≡ true → call ≡ Release number need → Opened m answer.machine number need)
    (λ call why told d e. not_both false d refl)
    (λ call m' silent d. silent.opened number need)
    (λ k ran assigned taken d e. clash cc)
    (Release number need)
    done
    refl

-- an accepted finish of this task made the machine m'
pub record Closed (m m' : Machine) (number : ℕ) : Type 0 where
  pub taken : FinishTaken m number
  pub after : m' ≡ after_finish m number

pub finish_closed : (m : Machine) (number : ℕ) → is_done (step m (Finish number)).outcome ≡ true → Closed m (step m (Finish number)).machine number
unfolding is_done
finish_closed m number done =
    by_call m (λ call answer. is_done answer.outcome ≡ true → call ≡ Finish number → Closed m answer.machine number)
    (λ call why told d e. not_both false d refl)
    (λ n need taken d e. clash cc)
    (λ n taken d e. let same : n ≡ number = cc in rw (← same) (record { taken = taken; after = refl }))
    (λ k ran assigned taken d e. clash cc)
    (λ t taken d e. clash cc)
    (λ t taken d e. clash cc)
    (Finish number)
    done
    refl

pub release_one : (t : Table) (m : Machine) (i : ℕ) → is_done (step m (release_at t i)).outcome ≡ true → OneJob m (step m (release_at t i)).machine i
unfolding release_at after_release with_job
release_one t m i done =
    let opened = release_opened m (suc i) (task_of t i).budget done in
    rw opened.after
    (record {
      alike = record { same_table = refl; same_long = length-set m.jobs (suc i - 1) _ };
      others_stay = λ k ne. job_other m (suc i - 1) _ k (λ e. ne (omega arith));
    })

pub finish_one : (m : Machine) (i : ℕ) → is_done (step m (finish_at i)).outcome ≡ true → OneJob m (step m (finish_at i)).machine i
unfolding finish_at after_finish with_job
finish_one m i done =
    let closed = finish_closed m (suc i) done in
    rw closed.after
    (record {
      alike = record { same_table = refl; same_long = length-set m.jobs (suc i - 1) _ };
      others_stay = λ k ne. job_other m (suc i - 1) _ k (λ e. ne (omega arith));
    })

-- a job after the release that a line may have of its task, and after the finish
unfoldable pub with_release : Table → (released : List Bool) → ℕ → Job → Job
with_release t released i j = cond (get_or released i false) (whole_job t i) j

unfoldable pub with_finish : (finished : List Bool) → ℕ → Job → Job
with_finish finished i j = cond (get_or finished i false) (closed_job j) j

-- what one call makes of its own task's job
module _ (m : Machine) (long : length m.jobs ≡ max_tasks) (i : ℕ) where
  release_job : (t : Table) → m.table ≡ t → is_done (step m (release_at t i)).outcome ≡ true → job_at (step m (release_at t i)).machine i ≡ whole_job t i
  unfolding whole_job release_at task_at
  release_job t same done =
      let need = (task_of t i).budget in
      let opened = release_opened m (suc i) need done in
      let e : suc i - 1 ≡ i = omega arith in
      rw opened.after
      (rw e at (released_job_lem m long (suc i) need opened.taken) ∙ ap (λ (table : Table). released_job (task_of table i) need) same)

  finish_job : is_done (step m (finish_at i)).outcome ≡ true → job_at (step m (finish_at i)).machine i ≡ closed_job (job_at m i)
  unfolding finish_at after_finish
  finish_job done =
      let closed = finish_closed m (suc i) done in
      let e : suc i - 1 ≡ i = omega arith in
      rw (closed.after, e) (job_set m i (closed_job (job_at m i)) (omega (arith, closed.taken.task.index)))

pub released_jobs :
    (named : List Bool) (t : Table) (m : Machine) → m.table ≡ t → length m.jobs ≡ max_tasks → all_taken m (calls_from (release_at t) 0 named) ≡ true
    → (i : ℕ) → job_at (machine_after m (calls_from (release_at t) 0 named)) i ≡ with_release t named i (job_at m i)
unfolding with_release
released_jobs named t m same long all i =
    by_test (get_or named i false)
    (λ on.
    let at = named_called (release_at t) (release_one t) named m all i on in
    rw on (at.job_after_lem ∙ release_job at.found (at.alike.same_long ∙ long) i t (at.alike.same_table ∙ same) at.done))
    (λ off. rw off (unnamed_stays (release_at t) (release_one t) named m all i off))

pub finished_jobs :
    (named : List Bool) (m : Machine) → length m.jobs ≡ max_tasks → all_taken m (calls_from finish_at 0 named) ≡ true
    → (i : ℕ) → job_at (machine_after m (calls_from finish_at 0 named)) i ≡ with_finish named i (job_at m i)
unfolding with_finish
finished_jobs named m long all i =
    by_test (get_or named i false)
    (λ on.
    let at = named_called finish_at finish_one named m all i on in
    rw on (at.job_after_lem ∙ finish_job at.found (at.alike.same_long ∙ long) i at.done ∙ ap closed_job at.same_job))
    (λ off. rw off (unnamed_stays finish_at finish_one named m all i off))
