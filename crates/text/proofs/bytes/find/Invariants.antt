-- The invariant: the bytes so far are not the one looked for.
use Rattle.std.proofs.Common.{◌-◌, length}
use Rattle.text.proofs.Scan.{Passed}
use Rattle.text.proofs.bytes.find.Given as goal

abbrev pub invariant-loop-i : goal.invariant-loop-i
invariant-loop-i l = Passed l.byte l.text l.i

abbrev pub decreases-loop-i : goal.decreases-loop-i
decreases-loop-i l = length l.text - l.i
