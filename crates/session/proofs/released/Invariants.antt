-- The invariant: the machine is that after the releases so far.
use Rattle.session.proofs.Playing.{Released}
use Rattle.session.proofs.released.Given as goal

abbrev pub invariant-loop-i : goal.invariant-loop-i
invariant-loop-i l = Released l.fn.machine l.table l.i l.machine
