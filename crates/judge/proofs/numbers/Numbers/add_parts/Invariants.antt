-- The invariant: the sums before k have their part added, and the others are as they were.
use Rattle.std.proofs.Common.{◌+◌, ◌≡◌, get_or}
use Rattle.laws.specs.Lists.{replaced}
use Rattle.judge.specs.Numbers.{set_of}
use Rattle.judge.specs.Parts.{part_with}
use Rattle.judge.proofs.numbers.Numbers.add_parts.Given as goal

abbrev pub invariant-loop-k : goal.invariant-loop-k
invariant-loop-k l = l.sums ≡ replaced l.k (λ j. get_or l.fn.sums j 0 + part_with (set_of l.self) l.i 0 j) l.fn.sums
