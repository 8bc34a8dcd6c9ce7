-- `add_parts` meets its contract.
use Rattle.std.proofs.Common.{◌≡◌, ◌∙◌, refl, get_or, arith}
use native.Mathlib.Nat.{sub-zero}
use Rattle.laws.specs.Lists.{replaced}
use Rattle.laws.proofs.Replaced.{replaced_more, replaced_at, replaced_past}
use Rattle.judge.specs.Numbers.{set_of}
use Rattle.judge.specs.Parts.{part_with}
use Rattle.judge.proofs.numbers.Numbers.add_parts.Goals as goal

pub loop-k-init : goal.loop-k-init
unfolding replaced
loop-k-init c = refl

pub overflow_add-sums : goal.overflow_add-sums
overflow_add-sums c =
    let k = c.loop-k.k in
    -- The sum of task k has not been added to.
    let before : get_or c.loop-k.sums k 0 ≡ get_or c.args.sums.now k 0 = rw c.loop-k.invariant (replaced_past _ _ 0 k k (omega arith)) in
    omega (arith, before, c.part.ensures, c.args.self.now.in_range k (omega arith), c.requires.small k (omega arith))

pub loop-k-preserved : goal.loop-k-preserved
loop-k-preserved c =
    let k = c.loop-k.k in
    let set = set_of c.args.self.now in
    let before : get_or c.loop-k.sums k 0 ≡ get_or c.args.sums.now k 0 = rw c.loop-k.invariant (replaced_past _ _ 0 k k (omega arith)) in
    let e = c.interfering-task.ensures in
    let added : c.part.result ≡ part_with set c.args.i 0 k = c.part.ensures ∙ rw (e.period, e.budget, sub-zero (set.deadline k)) in
    replaced_more _ _ _ c.loop-k.invariant (rw (before, added))

pub returns : goal.returns
returns c = λ k h. rw c.loop-k.invariant (replaced_at _ _ 0 c.loop-k.k k (omega arith) (omega arith))
