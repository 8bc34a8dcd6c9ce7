-- The invariant: the array's first entries are done, and the rest of the line goes into the others.
use Rattle.text.proofs.FilledFromLine.{SoFar}
use Rattle.text.proofs.fields.fill_from_line.Given as goal

abbrev pub invariant-loop-i : goal.invariant-loop-i
invariant-loop-i l = SoFar l.limits.digits l.limits.largest l.line l.fn.numbers l.numbers l.rest l.i
