-- `count_by_sums` meets its contract.
use Rattle.std.proofs.Common.{◌+◌, ◌≡◌, refl, get_or, arith, add-one}
use lib.Dec.{leb}
use borrow.Author.Tests.{le-leb, lt-leb}
use Rattle.laws.specs.Sums.{sum_to, bit}
use Rattle.laws.proofs.SumLaws.{bit_true, bit_false, bit_small}
use Rattle.judge.specs.Numbers.{set_of}
use Rattle.judge.specs.Parts.{needed}
use Rattle.judge.proofs.numbers.Numbers.count_by_sums.Goals as goal
use Rattle.judge.proofs.numbers.Numbers.count_by_sums.Goals.{then-cores-spare, else-cores-spare}

pub loop-k-init : goal.loop-k-init
unfolding sum_to
loop-k-init c = record { counted = refl; at_most = omega arith }

pub loop-k-preserved : goal.loop-k-preserved
unfolding sum_to
loop-k-preserved c =
    let a = c.args in
    let least = needed (set_of a.self.now) a.cores c.loop-k.k in
    let sum = get_or a.sums.now c.loop-k.k 0 in
    let counted : c.if-cores-spare.urgent ≡ c.loop-k.urgent + bit (leb least sum)
    = elim c.if-cores-spare.branch [
      | then-cores-spare w ↦ omega (arith, w.urgent-is, bit_true _ (le-leb least sum (omega arith)))
      | else-cores-spare w ↦ omega (arith, w.urgent-is, bit_false _ (lt-leb least sum (omega arith)))
    ] in
    record {
      counted = rw (add-one c.loop-k.k) (omega (arith, c.loop-k.invariant.counted, counted));
      at_most = omega (arith, c.loop-k.invariant.at_most, counted, bit_small (leb least sum));
    }
