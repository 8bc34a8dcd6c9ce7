-- The invariant: the bytes so far are not the end, and are digits that make the number.
use Rattle.text.specs.Lines.{before}
use Rattle.text.proofs.Scan.{Passed}
use Rattle.reader.proofs.ValueScan.{Digits}
use Rattle.reader.proofs.values.value_up_to.Given as goal

abbrev pub invariant-loop-i : goal.invariant-loop-i
invariant-loop-i l = record { passed : Passed l.end l.text l.i; digits : Digits (before l.end l.text) l.number l.i }
