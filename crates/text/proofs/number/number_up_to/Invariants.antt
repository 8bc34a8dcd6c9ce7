-- The invariant: the bytes so far are not the end, and are digits that make the number, which is not too large.
use Rattle.std.proofs.Common.{◌≡◌}
use Rattle.text.specs.Lines.{before}
use Rattle.text.proofs.Scan.{Passed}
use Rattle.text.proofs.NumberScan.{Scanned}
use Rattle.text.proofs.number.number_up_to.Given as goal

abbrev pub invariant-loop-byte : goal.invariant-loop-byte
invariant-loop-byte l = record {
  count : l.length ≡ l.byte-index;
  passed : Passed l.end l.text l.byte-index;
  scanned : Scanned l.limits.largest (before l.end l.text) l.number l.byte-index;
}
