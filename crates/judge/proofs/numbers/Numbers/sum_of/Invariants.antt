-- The invariant: the own part, and the sum over the others before i.
use Rattle.std.proofs.Common.{◌+◌, ◌*◌, ◌≤◌, ◌≡◌, get_or}
use Rattle.laws.specs.Sums.{sum_to, others}
use Rattle.judge.specs.Numbers.{set_of}
use Rattle.judge.specs.Parts.{part_of, own_at}
use Rattle.judge.proofs.numbers.Numbers.sum_of.Given as goal

abbrev pub invariant-loop-i : goal.invariant-loop-i
invariant-loop-i l = record {
  sum_is : l.sum ≡ sum_to l.i (others l.k (part_of (set_of l.self) (λ j. get_or l.slacks j 0) l.k)) + own_at (set_of l.self) l.k;
  sum_small : l.sum ≤ l.i * 1_000_000 + 1_000_000;
}
