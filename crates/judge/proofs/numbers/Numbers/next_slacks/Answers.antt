-- `next_slacks` meets its contract.
use Rattle.std.proofs.Common.{ℕ, ◌+◌, ◌<◌, ◌≡◌, ◌∙◌, refl, sym, ap, get_or, arith, add-one}
use mathlib.Core.Bool.{not}
use lib.Dec.{eqb}
use borrow.Author.Tests.{eq-eqb, ne_eqb}
use Rattle.laws.specs.Lists.{replaced}
use Rattle.laws.proofs.Replaced.{replaced_more, replaced_at, replaced_past}
use Rattle.laws.specs.Sums.{sum_to, bit}
use Rattle.laws.proofs.SumLaws.{bit_true, bit_false, bit_small, sum_same}
use Rattle.judge.specs.Numbers.{set_of}
use Rattle.judge.specs.Parts.{slack_at}
use Rattle.judge.proofs.numbers.Numbers.next_slacks.Goals as goal
use Rattle.judge.proofs.numbers.Numbers.next_slacks.Goals.{then-slacks-k, else-slacks-k}

pub loop-k-init : goal.loop-k-init
unfolding replaced sum_to
loop-k-init c = record { slacks_are = refl; counted = refl; at_most = omega arith }

pub loop-k-preserved : goal.loop-k-preserved
unfolding sum_to
loop-k-preserved c =
    let a = c.args in
    let k = c.loop-k.k in
    let old = get_or a.slacks.now k 0 in
    let new = slack_at (set_of a.self.now) a.cores a.sums.now k in
    -- The slack of task k is still that before.
    let before : get_or c.loop-k.slacks k 0 ≡ old = rw c.loop-k.invariant.slacks_are (replaced_past _ _ 0 k k (omega arith)) in
    let counted : c.if-slacks-k.changed ≡ c.loop-k.changed + bit (not (eqb old new))
    = elim c.if-slacks-k.branch [
      | then-slacks-k w ↦
          omega (arith, w.changed-is, bit_true _ (ap not (ne_eqb old new (λ e. w.if-slacks-k.true (before ∙ e ∙ sym c.slack_of-slack.ensures)))))
      | else-slacks-k w ↦ omega (arith, w.changed-is, bit_false _ (ap not (eq-eqb old new (sym before ∙ w.if-slacks-k.false ∙ c.slack_of-slack.ensures))))
    ] in
    record {
      slacks_are = replaced_more _ _ _ c.loop-k.invariant.slacks_are c.slack_of-slack.ensures;
      counted = rw (add-one k) (omega (arith, c.loop-k.invariant.counted, counted));
      at_most = omega (arith, c.loop-k.invariant.at_most, counted, bit_small (not (eqb old new)));
    }

pub returns : goal.returns
returns c =
    let a = c.args in
    let e : c.loop-k.k ≡ a.self.now.count = omega arith in
    let is : (k : ℕ) → k < a.self.now.count → get_or c.loop-k.slacks k 0 ≡ slack_at (set_of a.self.now) a.cores a.sums.now k =
    λ k h. rw c.loop-k.invariant.slacks_are (replaced_at _ _ 0 c.loop-k.k k (omega arith) (omega arith)) in
    record {
      slacks = is;
      changed = c.loop-k.invariant.counted ∙ rw e (sum_same _ _ a.self.now.count (λ k h. rw (is k h)));
    }
