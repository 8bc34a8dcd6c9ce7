-- The invariant: the entries from i on are still to come.
use Rattle.probe.proofs.Showing.{Showing}
use Rattle.probe.proofs.output.put_entries.Given as goal

abbrev pub invariant-loop-i : goal.invariant-loop-i
invariant-loop-i l = Showing l.fn.output l.machine l.output l.i
