-- `sum_of` meets its contract.
use Rattle.std.proofs.Common.{◌+◌, ◌≤◌, ◌≡◌, ◌∙◌, get_or, arith, add-one}
use Rattle.laws.specs.Sums.{sum_to, others}
use Rattle.edzl.specs.Window.{spare, window_sum}
use Rattle.laws.proofs.SumLaws.{others_at, others_off}
use Rattle.judge.specs.Numbers.{set_of}
use Rattle.judge.specs.Parts.{part_of}
use Rattle.judge.proofs.numbers.Numbers.sum_of.Goals as goal
use Rattle.judge.proofs.numbers.Numbers.sum_of.Goals.{then-i-k, else-i-k}

pub loop-i-init : goal.loop-i-init
unfolding sum_to
loop-i-init c =
    let own = c.args.self.now.in_range c.args.k c.requires in
    record { sum_is = omega arith; sum_small = omega (arith, own) }

pub loop-i-preserved : goal.loop-i-preserved
unfolding sum_to
loop-i-preserved c =
    let a = c.args in
    let i = c.loop-i.i in
    let f = part_of (set_of a.self.now) (λ j. get_or a.slacks.now j 0) a.k in
    let own = a.self.now.in_range a.k c.requires in
    let counted : (c.if-i-k.sum ≡ c.loop-i.sum + others a.k f i) × (c.if-i-k.sum ≤ c.loop-i.sum + 1_000_000)
    = elim c.if-i-k.branch [
      | then-i-k w ↦
          let part : w.divided_part-sum.result ≡ f i = w.divided_part-sum.ensures ∙ rw w.saturating_sub-window.ensures in
          (omega (arith, part, w.sum-is, others_off f w.if-i-k.true), omega (arith, w.sum-is, w.divided_part-sum.ensures, own))
      | else-i-k w ↦ (omega (arith, w.sum-is, others_at f w.if-i-k.false), omega (arith, w.sum-is))
    ] in
    record {
      sum_is = rw (add-one i) (omega (arith, c.loop-i.invariant.sum_is, counted.0));
      sum_small = omega (arith, c.loop-i.invariant.sum_small, counted.1);
    }

pub returns : goal.returns
unfolding window_sum spare
returns c =
    let e : c.loop-i.i ≡ c.args.self.now.count = omega arith in
    c.loop-i.invariant.sum_is ∙ rw e
