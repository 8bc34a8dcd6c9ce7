-- The invariant: the count so far.
use Rattle.std.proofs.Common.{◌≤◌, ◌≡◌, get_or}
use lib.Dec.{leb}
use Rattle.laws.specs.Sums.{sum_to, bit}
use Rattle.judge.specs.Numbers.{set_of}
use Rattle.judge.specs.Parts.{needed}
use Rattle.judge.proofs.numbers.Numbers.count_by_sums.Given as goal

abbrev pub invariant-loop-k : goal.invariant-loop-k
invariant-loop-k l = record {
  counted : l.urgent ≡ sum_to l.k (λ i. bit (leb (needed (set_of l.self) l.cores i) (get_or l.sums i 0)));
  at_most : l.urgent ≤ l.k;
}
