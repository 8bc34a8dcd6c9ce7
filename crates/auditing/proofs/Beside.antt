-- The machine that a log is of, beside the one that audits it. Between two slots the first has made releases and finishes that the second makes only at the
-- next line. Others cite: `Beside`; `beside_fresh`, at a start and after a slot; and `beside_release`, `beside_finish` and `beside_offer`.
use Prim.Native.Nat.{ℕ, ◌<◌}
use native.Mathlib.Omega.{arith}
use mathlib.Core.Path.{◌≡◌, sym, ap, ◌∙◌}
use mathlib.Core.Bool.{Bool, true, false}
use mathlib.Core.List.{List}
use lib.ListN.{length, get_or, set, length-set, length-replicate}
use lib.Seq.{get_or-set_same, get_or-set_other}
use Rattle.laws.proofs.CaseSplits.{by_test, by_equal, not_both}
use Rattle.laws.proofs.Replaced.{replicate_entry}
use Rattle.tasks.specs.declared.table.Table.{Table}
use Rattle.tasks.specs.Limits.{max_tasks}
use Rattle.tasks.proofs.Range.{range_of}
use Rattle.job.specs.declared.job.Job.{Job}
use Rattle.job.specs.Job.{closed_job, released_job}
use Rattle.machine.specs.Machine.{job_at}
use Rattle.machine.specs.declared.machine.Machine.{Machine}
use Rattle.machine.specs.declared.answer.Answer.{Answer}
use Rattle.machine.proofs.SoundLaws.{sound_free}
use Rattle.auditing.specs.OwnLog.{Since, nothing_since}
use Rattle.auditing.proofs.SoundRun.{Running, Made, whole_job, task_of, running_fits, inside_own}
use Rattle.auditing.proofs.LineCalls.{with_release, with_finish}
use Rattle.auditing.proofs.CallsReady.{Ready, Free, Ended}

-- the machine r of the log and the machine a of the audit, where this was released and finished since the slot before
pub record Beside (t : Table) (cores : ℕ) (r a : Machine) (s : Since) : Type 0 where
  pub real : Running t cores r
  pub audit : Running t cores a
  pub all_released_lem : length s.released ≡ max_tasks
  pub all_finished : length s.finished ≡ max_tasks
  pub jobs : (i : ℕ) → i < t.count → job_at r i ≡ with_finish s.finished i (with_release t s.released i (job_at a i))
  pub releases : (i : ℕ) → get_or s.released i false ≡ true → Ready t Free a i
  pub finishes : (i : ℕ) → get_or s.finished i false ≡ true → Ended t s.released a i

-- nothing was released or finished
pub beside_fresh :
    (t : Table) (cores : ℕ) (r a : Machine) → Running t cores r → Running t cores a → ((i : ℕ) → i < t.count → job_at r i ≡ job_at a i)
    → Beside t cores r a nothing_since
unfolding nothing_since with_release with_finish
beside_fresh t cores r a real audit same =
    let none : (i : ℕ) → get_or nothing_since.released i false ≡ false = λ i. replicate_entry max_tasks i false in
    record {
      real = real;
      audit = audit;
      all_released_lem = length-replicate max_tasks false;
      all_finished = length-replicate max_tasks false;
      jobs = λ i h. rw (none i) (same i h);
      releases = λ i e. not_both _ e (none i);
      finishes = λ i e. not_both _ e (none i);
    }

-- the flags of what was done, with one task more
module _ (named : List Bool) (i : ℕ) (there : i < length named) where
  named_here : get_or (set named i true) i false ≡ true
  named_here = get_or-set_same named i true false there

  -- what holds of that task and of those named before holds of all
  each_named_lem : (P : ℕ → Type 0) → P i → ((k : ℕ) → (k ≡ i → ⊥) → get_or named k false ≡ true → P k) → (k : ℕ) → get_or (set named i true) k false ≡ true → P k
  each_named_lem P here others k e =
      by_equal k i
      (λ same. rw same here)
      (λ ne. others k ne (sym (get_or-set_other named i k true false ne) ∙ e))

-- a job after what was done since the slot before, by the flags of its task
module _ (t : Table) (i : ℕ) (j : Job) where
  release_yes : (released : List Bool) → get_or released i false ≡ true → with_release t released i j ≡ whole_job t i
  unfolding with_release
  release_yes released e = rw e

  release_no : (released : List Bool) → get_or released i false ≡ false → with_release t released i j ≡ j
  unfolding with_release
  release_no released e = rw e

  finish_yes : (finished : List Bool) → get_or finished i false ≡ true → with_finish finished i j ≡ closed_job j
  unfolding with_finish
  finish_yes finished e = rw e

  finish_no : (finished : List Bool) → get_or finished i false ≡ false → with_finish finished i j ≡ j
  unfolding with_finish
  finish_no finished e = rw e

  -- a finish leaves the gap
  finish_gap : (finished : List Bool) → (with_finish finished i j).gap ≡ j.gap
  unfolding with_finish closed_job
  finish_gap finished = by_test (get_or finished i false) (λ e. rw e) (λ e. rw e)

-- these go by the flag of the task only
same_release :
    (t : Table) (one other : List Bool) (i : ℕ) (j : Job) → get_or one i false ≡ get_or other i false → with_release t one i j ≡ with_release t other i j
unfolding with_release
same_release t one other i j e = rw e

same_finish : (one other : List Bool) (i : ℕ) (j : Job) → get_or one i false ≡ get_or other i false → with_finish one i j ≡ with_finish other i j
unfolding with_finish
same_finish one other i j e = rw e

module _ (t : Table) (cores : ℕ) (r a : Machine) (s : Since) (b : Beside t cores r a s) (i : ℕ) (inside : i < t.count) where
  -- the index is within the flags
  there : i < max_tasks
  there = omega (arith, (running_fits t cores a b.audit).count_fits)

  -- whether it was finished or not
  gap_is : (job_at r i).gap ≡ (with_release t s.released i (job_at a i)).gap
  gap_is = rw (b.jobs i inside) (finish_gap t i (with_release t s.released i (job_at a i)) s.finished)

  -- A task without a gap was neither released nor finished since the slot before, and has none in the audit.
  module _ (free : (job_at r i).gap ≡ 0) where
    not_released : get_or s.released i false ≡ false
    unfolding whole_job released_job
    not_released =
        by_test (get_or s.released i false)
        (λ e.
        let range = range_of (task_of t i) ((running_fits t cores a b.audit).tasks_fit i inside) in
        let none : (task_of t i).period ≡ 0 = sym (ap (λ (j : Job). j.gap) (release_yes t i (job_at a i) s.released e)) ∙ sym gap_is ∙ free in
        absurd (omega arith))
        (λ e. e)

    audit_free : (job_at a i).gap ≡ 0
    audit_free = sym (ap (λ (j : Job). j.gap) (release_no t i (job_at a i) s.released not_released)) ∙ sym gap_is ∙ free

    not_finished : get_or s.finished i false ≡ false
    not_finished =
        by_test (get_or s.finished i false)
        (λ e.
        let opened : (job_at a i).«open» ≡ true = rw (release_no t i (job_at a i) s.released not_released) at (b.finishes i e).was_open in
        not_both _ opened (sound_free a b.audit.is_sound i (inside_own t cores a b.audit i inside) audit_free))
        (λ e. e)

    pub beside_release :
        (answer : Answer) → Made t cores r i (whole_job t i) answer
        → Beside t cores answer.machine a (record { released = set s.released i true; finished = s.finished })
    beside_release answer made =
        let old = s.released in
        let new = set old i true in
        let in-flags : i < length old = omega (arith, b.all_released_lem, there) in
        let other : (k : ℕ) → (k ≡ i → ⊥) → get_or new k false ≡ get_or old k false = λ k ne. get_or-set_other old i k true false ne in
        record {
          real = made.running;
          audit = b.audit;
          all_released_lem = length-set old i true ∙ b.all_released_lem;
          all_finished = b.all_finished;
          jobs = λ k h.
              by_equal k i
              (λ same.
              rw (
                same,
                made.here,
                finish_no t i (with_release t new i (job_at a i)) s.finished not_finished,
                release_yes t i (job_at a i) new (named_here old i in-flags),
              ))
              (λ ne. rw (made.others k ne, same_release t new old k (job_at a k) (other k ne)) (b.jobs k h));
          releases = each_named_lem old i in-flags (Ready t Free a) (record { inside = inside; is_ready = audit_free }) (λ k ne e. b.releases k e);
          finishes = λ k e.
              by_equal k i
              (λ same. not_both (get_or s.finished i false) (rw same at e) not_finished)
              (λ ne.
              let ended = b.finishes k e in
              record { inside = ended.inside; was_open = rw (same_release t new old k (job_at a k) (other k ne)) ended.was_open });
        }

  -- An open task was not finished since the slot before.
  module _ (opened : (job_at r i).«open» ≡ true) where
    still_open : get_or s.finished i false ≡ false
    unfolding closed_job
    still_open =
        by_test (get_or s.finished i false)
        (λ e.
        not_both (job_at r i).«open» opened
        (rw (b.jobs i inside, finish_yes t i (with_release t s.released i (job_at a i)) s.finished e)))
        (λ e. e)

    pub beside_finish :
        (answer : Answer) → Made t cores r i (closed_job (job_at r i)) answer
        → Beside t cores answer.machine a (record { released = s.released; finished = set s.finished i true })
    beside_finish answer made =
        let old = s.finished in
        let new = set old i true in
        let in-flags : i < length old = omega (arith, b.all_finished, there) in
        let other : (k : ℕ) → (k ≡ i → ⊥) → get_or new k false ≡ get_or old k false = λ k ne. get_or-set_other old i k true false ne in
        let job : Job = with_release t s.released i (job_at a i) in
        let was : job_at r i ≡ job = b.jobs i inside ∙ finish_no t i job old still_open in
        record {
          real = made.running;
          audit = b.audit;
          all_released_lem = b.all_released_lem;
          all_finished = length-set old i true ∙ b.all_finished;
          jobs = λ k h.
              by_equal k i
              (λ same. rw (same, made.here, was, finish_yes t i job new (named_here old i in-flags)))
              (λ ne. rw (made.others k ne, same_finish new old k (with_release t s.released k (job_at a k)) (other k ne)) (b.jobs k h));
          releases = b.releases;
          finishes =
              each_named_lem old i in-flags (Ended t s.released a) (record { inside = inside; was_open = rw (← was) opened })
              (λ k ne e. b.finishes k e);
        }

-- what the first machine holds plays no part
pub beside_offer :
    (t : Table) (cores : ℕ) (r r' a : Machine) (s : Since) → Beside t cores r a s → Running t cores r' → ((i : ℕ) → job_at r' i ≡ job_at r i)
    → Beside t cores r' a s
beside_offer t cores r r' a s b real same =
    record {
      real = real;
      audit = b.audit;
      all_released_lem = b.all_released_lem;
      all_finished = b.all_finished;
      jobs = λ i h. same i ∙ b.jobs i h;
      releases = b.releases;
      finishes = b.finishes;
    }
