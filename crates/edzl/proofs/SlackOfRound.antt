-- The rounds of the test against the rounds counted on past the last. Others cite `slack_of_round_lem`, that a task has the same slack after so many rounds of either;
-- and `none_left` and `reached`, that a sum of the last round reaches where the slack of round 64 is 0, and only there.
use Prim.Native.Nat.{ℕ, zero, suc, ◌+◌, ◌<◌}
use mathlib.Core.Path.{◌≡◌, refl, sym, ap, ◌∙◌}
use mathlib.Core.Bool.{Bool, true, false, not}
use native.Mathlib.Nat.{zero-add, add-zero}
use native.Mathlib.Omega.{arith}
use lib.Dec.{eqb}
use borrow.Author.Tests.{le-leb, leb-true, eqb-true}
use Rattle.laws.specs.Sums.{sum_to, bit}
use Rattle.laws.proofs.CaseSplits.{by_test, not_both}
use Rattle.laws.proofs.SumLaws.{sum_others, bit_true}
use Rattle.edzl.specs.TaskSet.{TaskSet}
use Rattle.edzl.specs.Window.{spare}
use Rattle.edzl.specs.Slack.{of_task, reaches, new_slack, none_changes, rounds_from, all_rounds, slack_of_round}
use Rattle.edzl.proofs.WindowLaws.{same_task, sum_of_same}
use Rattle.edzl.proofs.SlackLaws.{new_none, none_reaches}
use Rattle.edzl.proofs.SlackRounds.{round_after, slack_after, sum_next, slack_next, last_round}

module _ (tasks : TaskSet) (m : ℕ) where
  -- No slack changes from round r to the next.
  abbrev Unchanged : (r : ℕ) → Type 0
  Unchanged r = (i : ℕ) → i < tasks.count → slack_after tasks m (suc r) i ≡ slack_after tasks m r i

  -- Then none changes in the round after.
  still_unchanged : (r : ℕ) → Unchanged r → Unchanged (suc r)
  still_unchanged r same i h =
      slack_next tasks m (suc r) i h
      ∙ ap (new_slack m (spare tasks i))
      (sum_of_same tasks tasks refl (λ j l. same_task tasks j) (slack_after tasks m r) (slack_after tasks m (suc r)) same m i h)
      ∙ sym (slack_next tasks m r i h)

  -- Nor in any later one.
  stands : (more r : ℕ) → Unchanged r → (i : ℕ) → i < tasks.count → slack_after tasks m (r + more) i ≡ slack_after tasks m r i
  stands zero r same i h = rw (add-zero r)
  stands (suc more) r same i h =
      let e : r + suc more ≡ suc r + more = omega arith in
      rw e (stands more (suc r) (still_unchanged r same) i h ∙ same i h)

  -- What it says that the number of slacks that changed is 0.
  none_changed : (r : ℕ) → none_changes tasks (round_after tasks m r).slacks (round_after tasks m (suc r)).slacks ≡ true → Unchanged r
  unfolding none_changes slack_after
  none_changed r none i h =
      let changed : ℕ → ℕ = λ k. bit (not (eqb (of_task (round_after tasks m r).slacks k) (of_task (round_after tasks m (suc r)).slacks k))) in
      by_test (eqb (slack_after tasks m r i) (slack_after tasks m (suc r) i))
      (λ same. sym (eqb-true _ _ same))
      (λ differs.
      let one : changed i ≡ 1 = rw differs (bit_true true refl) in
      absurd (omega (arith, eqb-true (sum_to tasks.count changed) 0 none, sum_others changed i tasks.count h)))

  -- From a round on, as many more as are left or fewer: the slacks are those of the round that is so many later.
  from_round : (more r : ℕ) (ended : Bool) →
      (ended ≡ true → Unchanged r) →
      (i : ℕ) → i < tasks.count →
      of_task (rounds_from tasks m more ended (round_after tasks m r)).slacks i ≡ slack_after tasks m (r + more) i
  unfolding rounds_from round_after slack_after
  from_round zero r ended same i h = rw (add-zero r)
  from_round (suc more) r true same i h = sym (stands (suc more) r (same refl) i h)
  from_round (suc more) r false same i h =
      let e : r + suc more ≡ suc r + more = omega arith in
      rw e (from_round more (suc r) _ (λ none. still_unchanged r (none_changed r none)) i h)

  -- The slacks of a round of the test are those of the round of its number, counted on past the last.
  pub slack_of_round_lem : (r i : ℕ) → i < tasks.count → slack_of_round tasks m r i ≡ slack_after tasks m r i
  unfolding slack_of_round round_after
  slack_of_round_lem r i h = rw (zero-add r) at (from_round r 0 false (λ e. not_both false e refl) i h)

  all_at_64 : (k : ℕ) → k < tasks.count → of_task (all_rounds tasks m).slacks k ≡ slack_after tasks m 64 k
  unfolding slack_of_round all_rounds
  all_at_64 = slack_of_round_lem 64

  by_its_sum : (r k : ℕ) → k < tasks.count →
      of_task (round_after tasks m (suc r)).slacks k ≡ new_slack m (spare tasks k) (of_task (round_after tasks m (suc r)).sums k)
  unfolding slack_after
  by_its_sum r k h = slack_next tasks m r k h ∙ ap (new_slack m (spare tasks k)) (sym (sum_next tasks m r k h))

  -- The slack of round 64 is what the sum of the last round gives.
  last_slack : (k : ℕ) → k < tasks.count → slack_after tasks m 64 k ≡ new_slack m (spare tasks k) (of_task (all_rounds tasks m).sums k)
  last_slack k h = sym (all_at_64 k h) ∙ rw (last_round tasks m).is (by_its_sum (last_round tasks m).before k h)

  -- So a sum of the last round reaches where that slack is 0, and only there.
  pub none_left : (k : ℕ) → k < tasks.count → reaches m (spare tasks k) (of_task (all_rounds tasks m).sums k) ≡ true → slack_after tasks m 64 k ≡ 0
  unfolding reaches
  none_left k h yes-reaches = last_slack k h ∙ new_none m _ _ (leb-true _ _ yes-reaches)

  pub reached : (k : ℕ) → k < tasks.count → slack_after tasks m 64 k ≡ 0 → reaches m (spare tasks k) (of_task (all_rounds tasks m).sums k) ≡ true
  unfolding reaches
  reached k h none = le-leb _ _ (none_reaches m _ _ (sym (last_slack k h) ∙ none))
