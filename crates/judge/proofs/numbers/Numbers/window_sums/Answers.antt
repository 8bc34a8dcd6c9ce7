-- `window_sums` meets its contract: the sums of few tasks without slacks; or, by the invariant, those of the loop.
use Rattle.std.proofs.Common.{ℕ, ◌+◌, ◌<◌, ◌≡◌, ◌∙◌, refl, ap, get_or, arith, add-one}
use native.Mathlib.Nat.{le_trans}
use lib.ListN.{replicate}
use Rattle.laws.proofs.Replaced.{replicate_entry}
use Rattle.laws.proofs.SumLaws.{sum_bound}
use Rattle.laws.specs.Sums.{sum_to}
use Rattle.edzl.specs.Window.{no_slack, window_sum}
use Rattle.edzl.proofs.WindowLaws.{same_task, sum_of_same}
use Rattle.judge.specs.Numbers.{set_of}
use Rattle.judge.specs.Parts.{own_at}
use Rattle.judge.proofs.OwnPart.{sum_with_own}
use Rattle.judge.proofs.Listed.{well_listed}
use Rattle.judge.proofs.numbers.Numbers.window_sums.Goals as goal

pub returns-then-self-le-FEW_TASKS : goal.returns-then-self-le-FEW_TASKS
unfolding no_slack
returns-then-self-le-FEW_TASKS c =
    let set = set_of c.args.self.now in
    let none : (k : ℕ) → k < set.count → window_sum set (λ i. get_or (replicate 32 0) i 0) k ≡ window_sum set no_slack k =
    sum_of_same set set refl (λ i h. same_task set i) no_slack (λ i. get_or (replicate 32 0) i 0) (λ i h. replicate_entry 32 i 0) 0
    in
    λ k h. c.sums_anew.ensures k h ∙ ap (λ (n : ℕ). n + own_at set k) (none k h)

pub loop-i-init : goal.loop-i-init
unfolding sum_to
loop-i-init c = c.requires

-- A sum over at most 32 tasks.
pub add_parts-requires-clause-small : goal.add_parts-requires-clause-small
add_parts-requires-clause-small c = λ k h.
    let range = c.args.self.now.in_range k h in
    rw (c.loop-i.invariant k h) (le_trans (sum_bound _ 1_000_000 c.loop-i.i (λ i _. omega arith)) (omega (arith, c.args.self.now.few)))

pub loop-i-preserved : goal.loop-i-preserved
unfolding sum_to no_slack
loop-i-preserved c = λ k h. rw (add-one c.loop-i.i) (omega (arith, c.add_parts.ensures k h, c.loop-i.invariant k h))

pub returns : goal.returns
unfolding no_slack
returns c =
    let numbers = c.args.self.now in
    let e : c.loop-i.i ≡ numbers.count = omega arith in
    λ k h. c.loop-i.invariant k h ∙ rw e (sum_with_own (set_of numbers) (well_listed numbers) no_slack k h (omega arith))
