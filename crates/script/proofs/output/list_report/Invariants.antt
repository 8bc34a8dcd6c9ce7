-- The invariant: the array's first numbers are the four and the cores of the runners so far.
use Rattle.script.proofs.ReportNumbers.{Listing}
use Rattle.script.proofs.output.list_report.Given as goal

abbrev pub invariant-loop-i : goal.invariant-loop-i
invariant-loop-i l = Listing l.initial.numbers l.report.ran l.report.assigned l.numbers l.n l.i
