-- The invariant: the tasks from i on settle the answer.
use Rattle.std.proofs.Common.{◌-◌, ◌≡◌}
use Rattle.ranges.specs.Check.{tasks_checked}
use Rattle.ranges.proofs.check.check_tasks.Given as goal

abbrev pub invariant-loop-i : goal.invariant-loop-i
invariant-loop-i l = tasks_checked l.table.tasks 0 l.table.count ≡ tasks_checked l.table.tasks l.i (l.table.count - l.i)
