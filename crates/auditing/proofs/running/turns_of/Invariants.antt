-- The invariant: what the tasks so far show.
use Rattle.std.proofs.Common.{◌≡◌}
use Rattle.auditing.specs.Turn.{turns_to}
use Rattle.auditing.proofs.running.turns_of.Given as goal

abbrev pub invariant-loop-i : goal.invariant-loop-i
invariant-loop-i l = l.turns ≡ turns_to l.machine l.ran l.i
