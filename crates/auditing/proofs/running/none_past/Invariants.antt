-- The invariant: the flags that are left settle the answer.
use Rattle.std.proofs.Common.{◌≡◌, ◌-◌}
use Rattle.tasks.specs.Limits.{max_tasks}
use Rattle.auditing.specs.Turn.{none_from, none_past}
use Rattle.auditing.proofs.running.none_past.Given as goal

abbrev pub invariant-loop-i : goal.invariant-loop-i
invariant-loop-i l = none_past l.ran l.count ≡ none_from l.ran l.i (max_tasks - l.i)
