-- A machine that runs a table on some cores: sound, and with a record for each task. Others cite: `Running`, with `running_fits`, what holds of the table,
-- `same_task`, `inside_own`, `inside_table` and `running_with`; `whole_job`, the job that a release on the whole budget makes; `Made`, what an accepted call
-- that sets one job does, with `job_made`, `release_made` and `finish_made`; and `slot_made` and `assigned_job`, of a slot.
use Rattle.std.proofs.Common.{Ok}
use Prim.Native.Nat.{ℕ, suc, ◌-◌, ◌<◌}
use native.Mathlib.Omega.{arith}
use mathlib.Core.Path.{◌≡◌, refl, ap, ◌∙◌}
use mathlib.Core.Bool.{Bool, true}
use mathlib.Core.List.{List}
use lib.ListN.{length, get_or, replicate, length-set}
use borrow.Author.Tests.{le-leb}
use Rattle.laws.proofs.Replaced.{length_replaced}
use Rattle.tasks.specs.declared.task.Task.{Task}
use Rattle.tasks.specs.declared.table.Table.{Table}
use Rattle.tasks.specs.Limits.{max_tasks}
use Rattle.tasks.specs.Table.{zero_task}
use Rattle.tasks.proofs.Checked.{Passes}
use Rattle.job.specs.declared.job.Job.{Job}
use Rattle.job.specs.Job.{released_job, closed_job}
use Rattle.job.specs.Slot.{settled}
use Rattle.job.proofs.NeedLaws.{whole_in_range}
use Rattle.machine.specs.Machine.{task_at, job_at, with_job, in_table}
use Rattle.machine.specs.Slot.{passed, after_slot}
use Rattle.machine.specs.Cores.{with_assigned}
use Rattle.machine.specs.Sound.{sound}
use Rattle.machine.specs.Calls.{done, release, finish, slot_with, step}
use Rattle.machine.specs.declared.machine.Machine.{Machine}
use Rattle.machine.specs.declared.call.Call.{Call}
use Rattle.machine.specs.declared.answer.Answer.{Answer}
use Rattle.machine.proofs.State.{job_set, job_other}
use Rattle.machine.proofs.SoundLaws.{sound_passes}
use Rattle.machine.proofs.SoundKept.{call_keeps, slot_with_keeps}
use Rattle.machine.proofs.SlotStep.{after_slot_job}
use Rattle.auditing.specs.Line.{release_at, finish_at}

pub record Running (t : Table) (cores : ℕ) (m : Machine) : Type 0 where
  pub is_sound : sound m ≡ true
  pub table_is : m.table ≡ t
  pub cores_are_lem : m.cores ≡ cores
  pub all_jobs : length m.jobs ≡ max_tasks

-- the task at an index, and its job after a release on its whole budget
abbrev pub task_of : Table → ℕ → Task
task_of t i = get_or t.tasks i zero_task

unfoldable pub whole_job : Table → ℕ → Job
whole_job t i = released_job (task_of t i) (task_of t i).budget

-- a call is taken and makes j of the job at index i
pub record Made (t : Table) (cores : ℕ) (m : Machine) (i : ℕ) (j : Job) (answer : Answer) : Type 0 where
  pub accepted : answer.outcome ≡ Ok tt
  pub running : Running t cores answer.machine
  pub here : job_at answer.machine i ≡ j
  pub others : (k : ℕ) → (k ≡ i → ⊥) → job_at answer.machine k ≡ job_at m k

module _ (t : Table) (cores : ℕ) (m : Machine) (r : Running t cores m) where
  pub running_fits : Passes t cores
  running_fits = rw (r.table_is, r.cores_are_lem) at (sound_passes m r.is_sound)

  -- a call that sets one job
  pub job_made : (call : Call) (i : ℕ) (j : Job) → i < t.count → step m call ≡ done (with_job m i j) → Made t cores m i j (step m call)
  unfolding done with_job
  job_made call i j inside is =
      let there : i < length m.jobs = omega (arith, r.all_jobs, running_fits.count_fits) in
      let kept : sound (step m call).machine ≡ true = (call_keeps m r.is_sound call).is_sound in
      rw is
      (record {
        accepted = refl;
        running = record {
          is_sound = rw is at kept;
          table_is = r.table_is;
          cores_are_lem = r.cores_are_lem;
          all_jobs = length-set m.jobs i j ∙ r.all_jobs;
        };
        here = job_set m i j there;
        others = λ k ne. job_other m i j k ne;
      })

  pub same_task : (i : ℕ) → task_at m i ≡ task_of t i
  unfolding task_at
  same_task i = rw r.table_is

  module _ (i : ℕ) (inside : i < t.count) where
    known : in_table m (suc i) ≡ true
    unfolding in_table
    known = rw (r.table_is, le-leb 1 (suc i) (omega arith), le-leb (suc i) t.count inside)

    release_is : (job_at m i).gap ≡ 0 → step m (release_at t i) ≡ done (with_job m i (whole_job t i))
    unfolding step release_at release whole_job
    release_is free =
        let e : suc i - 1 ≡ i = omega arith in
        rw (r.is_sound, known, e, same_task i, whole_in_range (task_of t i) (running_fits.tasks_fit i inside), free)

    pub release_made : (job_at m i).gap ≡ 0 → Made t cores m i (whole_job t i) (step m (release_at t i))
    release_made free = job_made (release_at t i) i (whole_job t i) inside (release_is free)

    finish_is : (job_at m i).«open» ≡ true → step m (finish_at i) ≡ done (with_job m i (closed_job (job_at m i)))
    unfolding step finish_at finish
    finish_is opened =
        let e : suc i - 1 ≡ i = omega arith in
        rw (r.is_sound, known, e, opened)

    pub finish_made : (job_at m i).«open» ≡ true → Made t cores m i (closed_job (job_at m i)) (step m (finish_at i))
    finish_made opened = job_made (finish_at i) i (closed_job (job_at m i)) inside (finish_is opened)

  -- another machine with the same table, cores and number of records
  pub running_with :
      (m' : Machine) → sound m' ≡ true → m'.table ≡ m.table → m'.cores ≡ m.cores → length m'.jobs ≡ length m.jobs → Running t cores m'
  running_with m' ok table cores jobs =
      record { is_sound = ok; table_is = table ∙ r.table_is; cores_are_lem = cores ∙ r.cores_are_lem; all_jobs = jobs ∙ r.all_jobs }

  pub inside_own : (i : ℕ) → i < t.count → i < m.table.count
  inside_own i h = omega (arith, ap (λ (table : Table). table.count) r.table_is)

  pub inside_table : (i : ℕ) → i < m.table.count → i < t.count
  inside_table i h = omega (arith, ap (λ (table : Table). table.count) r.table_is)

-- a slot with given runners is taken, and what it does to each job
pub record SlotMade (t : Table) (cores : ℕ) (m : Machine) (ran : List Bool) : Type 0 where
  pub accepted : (slot_with m ran).outcome ≡ Ok tt
  pub running : Running t cores (slot_with m ran).machine
  pub jobs : (i : ℕ) → i < t.count → job_at (slot_with m ran).machine i ≡ settled (passed m ran i)

-- whichever cores the slot records
pub assigned_job :
    (t : Table) (cores : ℕ) (m : Machine) → Running t cores m → (ran : List Bool) (assigned : List ℕ) (i : ℕ) → i < t.count
    → job_at (with_assigned (after_slot m ran) assigned) i ≡ settled (passed m ran i)
unfolding with_assigned job_at
assigned_job t cores m r ran assigned i h = after_slot_job m ran i (inside_own t cores m r i h)

pub slot_made : (t : Table) (cores : ℕ) (m : Machine) → Running t cores m → (ran : List Bool) → SlotMade t cores m ran
unfolding slot_with with_assigned after_slot
slot_made t cores m r ran =
    let ok = r.is_sound in
    record {
      accepted = rw ok;
      running =
          running_with t cores m r (slot_with m ran).machine (slot_with_keeps m ok ran).is_sound (rw ok) (rw ok)
          (rw ok (length_replaced (λ i. settled (passed m ran i)) m.jobs m.table.count));
      jobs = λ i h. rw ok (assigned_job t cores m r ran (replicate max_tasks 0) i h);
    }
