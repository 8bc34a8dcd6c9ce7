-- What is printed are the lines of cases j and k: antt computes it. Others cite `case_lines_hold` and `printed_few`.
use Prim.Native.Nat.{◌≤◌}
use native.Mathlib.Omega.{arith}
use mathlib.Core.Path.{◌≡◌, refl}
use lib.ListN.{length}
use Rattle.text.specs.Number.{digits_of, decimal_text}
use Rattle.text.specs.Output.{further_numbers, numbers_line}
use Rattle.machine.proofs.Computing.{computing}
use Rattle.session.specs.Printed.{slot_line, slot_lines_from, releases, session, case_j, case_k, printed, room}
use Rattle.session.specs.CaseLines.{case_lines}

pub case_lines_hold : printed ≡ case_lines
unfolding computing digits_of decimal_text further_numbers numbers_line slot_line slot_lines_from releases session case_j case_k printed case_lines
case_lines_hold = refl

-- eleven lines of eight bytes
pub printed_few : length printed ≤ room
unfolding case_lines
printed_few = rw case_lines_hold (omega arith)
