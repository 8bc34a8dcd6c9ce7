-- An accepted release, finish and commit are the theory's steps: `release_step`, `finish_step` and `join_step`. The job that a release opens is
-- `released_job_lem`, and the jobs after a commit are `old_job` and `new_job`.
use Prim.Native.Nat.{ℕ, ◌-◌, ◌<◌}
use mathlib.Core.Path.{◌≡◌}
use lib.ListN.{length, set, length-set, get_or-eq_default}
use lib.Seq.{get_or-set_same, get_or-set_other}
use native.Mathlib.Numerals.{add-one}
use native.Mathlib.Omega.{arith}
use Rattle.laws.proofs.CaseSplits.{by_order}
use Rattle.tasks.specs.declared.task.Task.{Task}
use Rattle.tasks.specs.declared.table.Table.{Table}
use Rattle.tasks.specs.Limits.{max_tasks}
use Rattle.tasks.specs.TaskSet.{first_tasks, tasks_of}
use Rattle.tasks.specs.Table.{zero_task, with_task}
use Rattle.edzl.proofs.Release.{Released}
use Rattle.edzl.proofs.Finish.{Finished}
use Rattle.edzl.proofs.WindowLaws.{SameTask}
use Rattle.edzl.proofs.Join.{Joined}
use Rattle.job.specs.Job.{fresh_job, closed_job, released_job}
use Rattle.machine.specs.Machine.{task_at, job_at}
use Rattle.machine.specs.declared.machine.Machine.{Machine}
use Rattle.machine.specs.Calls.{with_joined}
use Rattle.machine.proofs.State.{jobs_of, same_job, job_set, rest_same}
use Rattle.machine.proofs.CallCases.{ReleaseTaken, FinishTaken, after_release, after_finish}

module _ (m : Machine) (all_jobs : length m.jobs ≡ max_tasks) (number : ℕ) where
  pub released_job_lem :
      (need : ℕ) → ReleaseTaken m number need → job_at (after_release m number need) (number - 1) ≡ released_job (task_at m (number - 1)) need
  unfolding after_release
  released_job_lem need taken = job_set m (number - 1) (released_job (task_at m (number - 1)) need) (omega (arith, taken.task.index))

  pub release_step :
      (need : ℕ) → ReleaseTaken m number need → Released (tasks_of m.table) (number - 1) (jobs_of m) (jobs_of (after_release m number need))
  unfolding jobs_of tasks_of first_tasks after_release released_job task_at
  release_step need taken =
      let i : ℕ = number - 1 in
      let job = released_job_lem need taken in
      record {
        was_closed = taken.was_closed;
        was_free = taken.was_free;
        now_open = rw job;
        now_left = rw job;
        budget_some = rw job taken.needed.need_some;
        budget_fits = rw job taken.needed.need_fits;
        now_gap = rw job;
        rest = λ k h ne. rest_same m i _ k ne;
      }

  pub finish_step : FinishTaken m number → Finished (tasks_of m.table) (number - 1) (jobs_of m) (jobs_of (after_finish m number))
  unfolding jobs_of after_finish closed_job
  finish_step taken =
      let i : ℕ = number - 1 in
      let job : job_at (after_finish m number) i ≡ _ = job_set m i _ (omega (arith, taken.task.index)) in
      record {
        was_open = taken.was_open;
        ended = record { closed = rw job; left_none = rw job; budget_none = rw job };
        same_gap = rw job;
        rest = λ k h ne. rest_same m i _ k ne;
      }

-- a longer table has the tasks that it had
same_task : (t : Table) (k : Task) (i : ℕ) → i < t.count → SameTask (tasks_of t) (tasks_of (with_task t k)) i
unfolding tasks_of first_tasks with_task
same_task t k i h =
    let e = get_or-set_other t.tasks t.count i k zero_task (λ e. omega arith) in
    record { same_period = rw e; same_budget = rw e; same_deadline = rw e }

module _ (m : Machine) (t : Task) where
  pub old_job : (i : ℕ) → i < m.table.count → job_at (with_joined m t) i ≡ job_at m i
  unfolding with_joined job_at
  old_job i h = get_or-set_other m.jobs m.table.count i fresh_job fresh_job (λ e. omega arith)

  -- past the last job that is recorded, a fresh one is read too
  pub new_job : job_at (with_joined m t) m.table.count ≡ fresh_job
  unfolding with_joined job_at
  new_job =
      let n = m.table.count in
      by_order (length m.jobs) n
      (λ short. get_or-eq_default (set m.jobs n fresh_job) fresh_job (omega (arith, length-set m.jobs n fresh_job)))
      (λ long. get_or-set_same m.jobs n fresh_job fresh_job long)

  pub join_step : Joined (tasks_of m.table) (tasks_of (with_task m.table t)) (jobs_of m) (jobs_of (with_joined m t))
  unfolding jobs_of tasks_of first_tasks with_task fresh_job
  join_step =
      record {
        one_more = add-one m.table.count;
        same_tasks = λ i h. same_task m.table t i h;
        same_jobs = λ i h. same_job m (with_joined m t) i (old_job i h);
        new_job = record { closed = rw new_job; left_none = rw new_job; budget_none = rw new_job };
        new_gap = rw new_job;
      }
