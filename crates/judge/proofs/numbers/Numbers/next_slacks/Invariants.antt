-- The invariant: the slacks before k are those of their sums, and the number of them that changed.
use Rattle.std.proofs.Common.{◌≤◌, ◌≡◌, get_or}
use mathlib.Core.Bool.{not}
use lib.Dec.{eqb}
use Rattle.laws.specs.Lists.{replaced}
use Rattle.laws.specs.Sums.{sum_to, bit}
use Rattle.judge.specs.Numbers.{set_of}
use Rattle.judge.specs.Parts.{slack_at}
use Rattle.judge.proofs.numbers.Numbers.next_slacks.Given as goal

abbrev pub invariant-loop-k : goal.invariant-loop-k
invariant-loop-k l = record {
  slacks_are : l.slacks ≡ replaced l.k (slack_at (set_of l.self) l.cores l.sums) l.fn.slacks;
  counted : l.changed ≡ sum_to l.k (λ j. bit (not (eqb (get_or l.fn.slacks j 0) (slack_at (set_of l.self) l.cores l.sums j))));
  at_most : l.changed ≤ l.k;
}
