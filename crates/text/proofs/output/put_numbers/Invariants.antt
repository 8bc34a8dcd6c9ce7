-- The invariant: whatever puts the other numbers from the next on, each after a space, has put all of them.
use Rattle.std.proofs.Common.{ℕ, List, drop}
use Rattle.text.specs.Output.{PutAt, further_numbers}
use Rattle.text.proofs.output.put_numbers.Given as goal

abbrev pub invariant-loop-number : goal.invariant-loop-number
invariant-loop-number l =
    (after : List ℕ) (r : ℕ) → PutAt l.output l.at (further_numbers (drop l.number-index l.others)) after r
    → PutAt l.initial.output l.initial.at (further_numbers l.others) after r
