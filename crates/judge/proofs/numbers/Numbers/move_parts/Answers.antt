-- `move_parts` meets its contract.
use Rattle.std.proofs.Common.{◌≡◌, ◌∙◌, refl, get_or, arith}
use Rattle.laws.specs.Lists.{replaced}
use Rattle.laws.proofs.Replaced.{replaced_more, replaced_at, replaced_past}
use Rattle.judge.specs.Numbers.{set_of}
use Rattle.judge.specs.Parts.{part_with}
use Rattle.judge.proofs.numbers.Numbers.move_parts.Goals as goal

pub loop-k-init : goal.loop-k-init
unfolding replaced
loop-k-init c = refl

pub overflow_sub-sums : goal.overflow_sub-sums
overflow_sub-sums c =
    let k = c.loop-k.k in
    let a = c.args in
    let e = c.interfering-task.ensures in
    let old : c.part-old.result ≡ part_with (set_of a.self.now) a.i a.before k = c.part-old.ensures ∙ rw (e.period, e.budget, c.saturating_sub.ensures) in
    -- The sum of task k is still that before.
    let before : get_or c.loop-k.sums k 0 ≡ get_or a.sums.now k 0 = rw c.loop-k.invariant (replaced_past _ _ 0 k k (omega arith)) in
    rw (before, old) (c.requires.part_within k (omega arith))

pub overflow_add-sums : goal.overflow_add-sums
overflow_add-sums c =
    let k = c.loop-k.k in
    let before : get_or c.loop-k.sums k 0 ≡ get_or c.args.sums.now k 0 = rw c.loop-k.invariant (replaced_past _ _ 0 k k (omega arith)) in
    omega (arith, before, c.part-new.ensures, c.args.self.now.in_range k (omega arith), c.requires.small k (omega arith))

pub loop-k-preserved : goal.loop-k-preserved
loop-k-preserved c =
    let k = c.loop-k.k in
    let a = c.args in
    let e = c.interfering-task.ensures in
    let old : c.part-old.result ≡ part_with (set_of a.self.now) a.i a.before k = c.part-old.ensures ∙ rw (e.period, e.budget, c.saturating_sub.ensures) in
    let new : c.part-new.result ≡ part_with (set_of a.self.now) a.i a.slack k = c.part-new.ensures ∙ rw (e.period, e.budget, c.saturating_sub-in-loop-k.ensures) in
    let before : get_or c.loop-k.sums k 0 ≡ get_or a.sums.now k 0 = rw c.loop-k.invariant (replaced_past _ _ 0 k k (omega arith)) in
    replaced_more _ _ _ c.loop-k.invariant (rw (before, old, new))

pub returns : goal.returns
returns c = λ k h. rw c.loop-k.invariant (replaced_at _ _ 0 c.loop-k.k k (omega arith) (omega arith))
