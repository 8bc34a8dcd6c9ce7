-- `next_sums` meets its contract: the sums of few tasks with the new slacks; or, by the invariant, those of the loop.
use Rattle.std.proofs.Common.{ℕ, ◌≤◌, ◌≡◌, ◌∙◌, sym, ap, get_or, arith, add-one}
use native.Mathlib.Nat.{le_trans}
use Rattle.edzl.specs.Window.{spare}
use Rattle.laws.proofs.SumLaws.{sum_bound}
use Rattle.judge.specs.Numbers.{set_of}
use Rattle.judge.specs.Parts.{part_with}
use Rattle.judge.proofs.OwnPart.{sum_with_own}
use Rattle.judge.proofs.Listed.{well_listed}
use Rattle.judge.proofs.Mixed.{mixed_none, mixed_all, mixed_next, mixed_part}
use Rattle.judge.proofs.numbers.Numbers.next_sums.Goals as goal
use Rattle.judge.proofs.numbers.Numbers.next_sums.Goals.{then-before-i, else-before-i}

-- Few tasks: the own parts are known since no slack is above the spare.
pub returns-then-self-le-FEW_TASKS : goal.returns-then-self-le-FEW_TASKS
unfolding spare
returns-then-self-le-FEW_TASKS c =
    let a = c.args in
    let numbers = a.self.now in
    λ k h. c.sums_anew.ensures k h ∙ sym (sum_with_own (set_of numbers) (well_listed numbers) (λ i. get_or a.slacks.now i 0) k h (c.requires.slacks_fit k h))

pub loop-i-init : goal.loop-i-init
loop-i-init c =
    let a = c.args in
    let set = set_of a.self.now in
    λ k h. c.requires.sums_before k h ∙ sym (mixed_none a.before.now a.slacks.now (λ j slack. part_with set j slack k) set.count)

-- Each sum has the part of task i in it with its old slack.
pub move_parts-requires-clause-part_within : goal.move_parts-requires-clause-part_within
move_parts-requires-clause-part_within c =
    let a = c.args in
    let set = set_of a.self.now in
    λ k h. rw (c.loop-i.invariant k h) (mixed_part a.before.now a.slacks.now (λ j slack. part_with set j slack k) set.count c.loop-i.i (omega arith))

-- A sum over at most 32 tasks.
pub move_parts-requires-clause-small : goal.move_parts-requires-clause-small
move_parts-requires-clause-small c = λ k h.
    let range = c.args.self.now.in_range k h in
    rw (c.loop-i.invariant k h)
    (le_trans (sum_bound _ 1_000_000 c.args.self.now.count (λ j _. omega arith)) (omega (arith, c.args.self.now.few)))

pub loop-i-preserved : goal.loop-i-preserved
loop-i-preserved c = λ k h.
    let a = c.args in
    let i = c.loop-i.i in
    let set = set_of a.self.now in
    let part : ℕ → ℕ → ℕ = λ j slack. part_with set j slack k in
    let next = mixed_next a.before.now a.slacks.now part set.count i (omega arith) in
    let part_in : part i (get_or a.before.now i 0) ≤ get_or c.loop-i.sums k 0
    = rw (c.loop-i.invariant k h) (mixed_part a.before.now a.slacks.now part set.count i (omega arith)) in
    rw (add-one i)
    (elim c.if-before-i.branch [
      | then-before-i w ↦ rw w.sums-is (omega (arith, w.move_parts.ensures k h, c.loop-i.invariant k h, next, part_in))
      | else-before-i w ↦ rw w.sums-is (omega (arith, c.loop-i.invariant k h, next, ap (part i) w.if-before-i.false))
    ])

pub returns : goal.returns
returns c =
    let a = c.args in
    let set = set_of a.self.now in
    let e : c.loop-i.i ≡ set.count = omega arith in
    λ k h.
    c.loop-i.invariant k h
    ∙ rw e (mixed_all a.before.now a.slacks.now (λ j slack. part_with set j slack k) set.count)
