-- What a sound machine is. Others cite: `checked_fits`, of its table; `one_unsound`, and `make_sound`, from its table, cores, jobs, recorded cores and held task; `sound_checks` and `sound_passes`,
-- that its table and cores pass `checked`; `sound_count`, that it has 32 tasks at most; `sound_fits`, that its tasks are well formed; `sound_job`, that each job is sound; `sound_closed`, that a
-- closed task has no job; `sound_free`, that a task without a gap is closed; `sound_small`, that the left and budget of an open one are below 2^20;
-- `sound_cores`, that its recorded cores are sound; `sound_held`, that what it holds is; `held_fits`, that an offer of the held task passes; and `held_room`, that
-- there is room for it.
use Rattle.std.proofs.Common.{Ok, Some, is_err}
use Prim.Native.Nat.{ℕ, zero, suc, ◌≤◌, ◌<◌}
use mathlib.Core.Path.{◌≡◌, refl}
use mathlib.Core.Bool.{true, false, ◌&&◌}
use lib.ListN.{take}
use native.Mathlib.Omega.{arith}
use Rattle.laws.proofs.CaseSplits.{by_equal, by_test, not_both}
use Rattle.laws.proofs.Booleans.{and_left, and_right}
use Rattle.edzl.proofs.WellFormed.{WellFormed}
use Rattle.edzl.proofs.Invariant.{NoJob}
use Rattle.tasks.specs.declared.task.Task.{Task}
use Rattle.tasks.specs.declared.table.Table.{Table}
use Rattle.tasks.specs.Limits.{max_tasks}
use Rattle.tasks.specs.Check.{checked}
use Rattle.tasks.specs.Outcome.{is_done}
use Rattle.tasks.specs.TaskSet.{tasks_of}
use Rattle.tasks.proofs.Checked.{Passes, passes}
use Rattle.tasks.proofs.Range.{range_of}
use Rattle.tasks.proofs.OutcomeLaws.{by_outcome, done_where_true}
use Rattle.tasks.proofs.TaskSetLaws.{well_checked}
use Rattle.job.specs.Sound.{job_sound}
use Rattle.cores.specs.Record.{cores_sound}
use Rattle.job.proofs.RankLaws.{Small}
use Rattle.job.proofs.SoundLaws.{closed_numbers, open_numbers, free_closed}
use Rattle.machine.specs.Machine.{task_at, job_at}
use Rattle.machine.specs.Offer.{held_sound}
use Rattle.machine.specs.Sound.{jobs_sound, sound}
use Rattle.machine.specs.declared.machine.Machine.{Machine}
use Rattle.machine.proofs.State.{jobs_of}
use Rattle.machine.proofs.OfferLaws.{OfferFits, offer_fits}

-- a table that a start would not refuse has 32 tasks at most
pub checked_fits : (t : Table) (cores : ℕ) → is_err (checked t cores) ≡ false → t.count ≤ max_tasks
checked_fits t cores e =
    by_outcome (checked t cores) (λ done. (passes t cores done).count_fits) (λ why refused. not_both _ refl (rw refused at e))

each_sound : (m : Machine) (n : ℕ) → jobs_sound m n ≡ true → (i : ℕ) → i < n → job_sound (task_at m i) (job_at m i) ≡ true
unfolding jobs_sound
each_sound m zero e i h = absurd (omega arith)
each_sound m (suc n) e i h =
    by_equal i n
    (λ s. rw s (and_right (jobs_sound m n) _ e))
    (λ ne. each_sound m n (and_left _ _ e) i (omega arith))

-- one job that is not sound is enough
pub one_unsound : (m : Machine) (n i : ℕ) → job_sound (task_at m i) (job_at m i) ≡ false → i < n → jobs_sound m n ≡ false
one_unsound m n i e h =
    by_test (jobs_sound m n) (λ all. not_both (job_sound (task_at m i) (job_at m i)) (each_sound m n all i h) e) (λ none. none)

-- the other way round: every job is sound
all_sound : (m : Machine) (n : ℕ) → ((i : ℕ) → i < n → job_sound (task_at m i) (job_at m i) ≡ true) → jobs_sound m n ≡ true
unfolding jobs_sound
all_sound m zero each = refl
all_sound m (suc n) each = rw (all_sound m n (λ i h. each i (omega arith)), each n (omega arith))

pub make_sound :
    (m : Machine) → checked m.table m.cores ≡ Ok tt
    → ((i : ℕ) → i < m.table.count → job_sound (task_at m i) (job_at m i) ≡ true)
    → cores_sound (take m.table.count m.assigned) ≡ true
    → held_sound m.held m.table m.cores ≡ true
    → sound m ≡ true
unfolding sound is_done
make_sound m checks each placed fits = rw (checks, all_sound m m.table.count each, placed) fits

module _ (m : Machine) (ok : sound m ≡ true) where
  -- all but the held task, and all but that and the recorded cores
  before_held :
      (is_done (checked m.table m.cores) && jobs_sound m m.table.count && cores_sound (take m.table.count m.assigned)) ≡ true
  unfolding sound
  before_held = and_left _ (held_sound m.held m.table m.cores) ok

  before_cores : (is_done (checked m.table m.cores) && jobs_sound m m.table.count) ≡ true
  before_cores = and_left _ (cores_sound (take m.table.count m.assigned)) before_held

  pub sound_checks : checked m.table m.cores ≡ Ok tt
  sound_checks = done_where_true _ (and_left _ _ before_cores)

  pub sound_cores : cores_sound (take m.table.count m.assigned) ≡ true
  sound_cores = and_right (is_done (checked m.table m.cores) && jobs_sound m m.table.count) _ before_held

  pub sound_held : held_sound m.held m.table m.cores ≡ true
  unfolding sound
  sound_held =
      and_right (is_done (checked m.table m.cores) && jobs_sound m m.table.count && cores_sound (take m.table.count m.assigned)) _ ok

  pub held_fits : (t : Task) → m.held ≡ Some t → OfferFits m.table m.cores t
  unfolding held_sound
  held_fits t e = offer_fits m.table m.cores t (done_where_true _ (rw e at sound_held))

  pub held_room : (t : Task) → m.held ≡ Some t → m.table.count < max_tasks
  held_room t e = (held_fits t e).room

  pub sound_passes : Passes m.table m.cores
  sound_passes = passes m.table m.cores sound_checks

  pub sound_count : m.table.count ≤ max_tasks
  sound_count = sound_passes.count_fits

  pub sound_fits : WellFormed (tasks_of m.table)
  sound_fits = well_checked m.table m.cores sound_checks

  pub sound_job : (i : ℕ) → i < m.table.count → job_sound (task_at m i) (job_at m i) ≡ true
  sound_job = each_sound m m.table.count (and_right (is_done (checked m.table m.cores)) _ before_cores)

  pub sound_closed : (i : ℕ) → i < m.table.count → (job_at m i).«open» ≡ false → NoJob (jobs_of m) i
  unfolding jobs_of
  sound_closed i h c =
      let none = closed_numbers (task_at m i) (job_at m i) (sound_job i h) c in
      record { closed = c; left_none = none.left_none; budget_none = none.budget_none }

  pub sound_free : (i : ℕ) → i < m.table.count → (job_at m i).gap ≡ 0 → (job_at m i).«open» ≡ false
  sound_free i h = free_closed (task_at m i) (job_at m i) (sound_job i h)

  pub sound_small : (i : ℕ) → i < m.table.count → (job_at m i).«open» ≡ true → Small (job_at m i)
  unfolding task_at
  sound_small i h o =
      let numbers = open_numbers (task_at m i) (job_at m i) (sound_job i h) o in
      let range = range_of (task_at m i) (sound_passes.tasks_fit i h) in
      record { left_small = omega (arith, numbers, range); budget_small = omega (arith, numbers, range) }
