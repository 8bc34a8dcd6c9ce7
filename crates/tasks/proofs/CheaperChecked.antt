-- A table that is cheaper than one that can be judged can be judged: `cheaper_checked`.
use Prim.Native.Nat.{ℕ, ◌-◌, ◌≤◌, ◌<◌}
use native.Mathlib.Omega.{arith}
use mathlib.Core.Path.{◌≡◌}
use mathlib.Core.Bool.{true}
use lib.ListN.{get_or}
use Rattle.laws.proofs.Steps.{rising_past}
use Rattle.tasks.specs.Task.{in_range}
use Rattle.tasks.specs.Table.{zero_task}
use Rattle.tasks.specs.TaskSet.{first_tasks, tasks_of}
use Rattle.tasks.specs.Check.{checked}
use Rattle.tasks.specs.Cheaper.{Cheaper}
use Rattle.tasks.specs.declared.table.Table.{Table}
use Rattle.std.proofs.Common.{Ok}
use Rattle.tasks.proofs.Checked.{passes, passed}
use Rattle.tasks.proofs.Range.{range_of, in_range_lem}

module _ (t : Table) (m : ℕ) (t' : Table) (m' : ℕ) (c : Cheaper t m t' m') where
  -- There are no more tasks: the last of them was at least as far behind.
  fewer : t'.count ≤ t.count
  unfolding tasks_of first_tasks
  fewer =
      let last = t'.count - 1 in
      let inside : last < t'.count = omega (arith, c.one_remains) in
      omega (arith, c.tasks.was_there last inside, rising_past c.tasks.was t'.count c.tasks.in_order last inside)

  module _ (can-be-judged : checked t m ≡ Ok tt) where
    task_in_range : (i : ℕ) → i < t'.count → in_range (get_or t'.tasks i zero_task) ≡ true
    unfolding tasks_of first_tasks
    task_in_range i h =
        let was = range_of (get_or t.tasks (c.tasks.was i) zero_task) ((passes t m can-be-judged).tasks_fit _ (c.tasks.was_there i h)) in
        let task = c.tasks.each i h in
        in_range_lem (get_or t'.tasks i zero_task)
        (record {
          budget_some = omega (arith, c.budget_some i h);
          budget_fits = omega (arith, task.same_deadline, task.budget_no_larger, was.budget_fits);
          deadline_fits = omega (arith, task.same_deadline, task.period_no_smaller, was.deadline_fits);
          period_fits = omega (arith, c.period_fits i h);
        })

    pub cheaper_checked : checked t' m' ≡ Ok tt
    cheaper_checked =
        let before = passes t m can-be-judged in
        passed t' m'
        (record {
          count_some = omega (arith, c.one_remains);
          count_fits = omega (arith, fewer, before.count_fits);
          tasks_fit = task_in_range;
          cores_some = omega (arith, c.cores_no_fewer, before.cores_some);
          cores_fit = omega (arith, c.cores_fit);
        })
