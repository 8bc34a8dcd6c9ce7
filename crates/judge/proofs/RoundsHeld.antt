-- What the arrays of the code hold after a round of the slack test: `AtRound`. Others cite `after_round`, by which a round leads to the next, with `Computed`,
-- `none_before`, `first_sum`, `first_on` and `next_sum`; `still_on`, where another round follows; and `last_held`, where none does.
use Prim.Native.Nat.{ℕ, zero, suc, ◌+◌, ◌-◌, ◌<◌}
use native.Mathlib.Omega.{arith}
use mathlib.Core.Path.{◌≡◌, refl, sym, ap, ◌∙◌}
use mathlib.Core.Bool.{Bool, true, false, not}
use mathlib.Core.List.{List}
use mathlib.Core.Logic.{◌⊎◌, ⊎_elim}
use lib.Dec.{eqb}
use lib.ListN.{get_or}
use borrow.Author.Tests.{eq-eqb, ne_eqb}
use Rattle.edzl.specs.TaskSet.{TaskSet}
use Rattle.laws.specs.Sums.{sum_to, bit}
use Rattle.edzl.specs.Window.{spare, no_slack, window_sum}
use Rattle.edzl.specs.Slack.{none_changes, rounds_from, all_rounds}
use Rattle.edzl.proofs.WellFormed.{WellFormed}
use Rattle.laws.proofs.SumLaws.{sum_same}
use Rattle.edzl.proofs.SlackRounds.{round_after, slack_after, sum_next, slack_next, slacks_fit, made_is, round_one, slack_start}
use Rattle.judge.specs.Parts.{part_of, own_at, slack_at, SumsWithOwn, LastSumsWithOwn}
use Rattle.judge.proofs.OwnPart.{sum_with_own}

-- After round r + 1: the slacks before it are those of round r, the sums are those of the round, each with the own part, and the slacks are the round's; the
-- rounds go on if some slack changed.
pub record AtRound (tasks : TaskSet) (m r : ℕ) (before sums slacks : List ℕ) (changed : ℕ) : Type 0 where
  pub before_are : (k : ℕ) → k < tasks.count → get_or before k 0 ≡ slack_after tasks m r k
  pub sums_are : SumsWithOwn tasks (slack_after tasks m r) sums
  pub slacks_are : (k : ℕ) → k < tasks.count → get_or slacks k 0 ≡ slack_after tasks m (suc r) k
  pub goes_on : all_rounds tasks m ≡ rounds_from tasks m (64 - suc r) (eqb changed 0) (round_after tasks m (suc r))

-- What the code computes in a round from the slacks `old`: the sums, the slacks, and how many of them changed.
pub record Computed (tasks : TaskSet) (m : ℕ) (slack : ℕ → ℕ) (old sums slacks : List ℕ) (changed : ℕ) : Type 0 where
  pub sums_are : SumsWithOwn tasks slack sums
  pub slacks_are : (k : ℕ) → k < tasks.count → get_or slacks k 0 ≡ slack_at tasks m sums k
  pub changed_is : changed ≡ sum_to tasks.count (λ k. bit (not (eqb (get_or old k 0) (get_or slacks k 0))))

module _ (tasks : TaskSet) (m : ℕ) where
  -- The rounds go on from round r, which left the slacks `old`.
  module _ (r : ℕ) (r-below : r < 64) (old sums slacks : List ℕ) (changed : ℕ) where
    module _ (old-are : (k : ℕ) → k < tasks.count → get_or old k 0 ≡ slack_after tasks m r k) where
      module _ (computed : Computed tasks m (slack_after tasks m r) old sums slacks changed) where
        slacks_next : (k : ℕ) → k < tasks.count → get_or slacks k 0 ≡ slack_after tasks m (suc r) k
        unfolding spare
        slacks_next k h =
            let e : get_or sums k 0 - own_at tasks k ≡ window_sum tasks (slack_after tasks m r) k =
            omega (arith, computed.sums_are k h)
            in
            computed.slacks_are k h ∙ rw e (sym (slack_next tasks m r k h))

        -- The test for another round is that of the definition.
        changed_next : eqb changed 0 ≡ none_changes tasks (round_after tasks m r).slacks (round_after tasks m (suc r)).slacks
        unfolding none_changes slack_after
        changed_next =
            rw computed.changed_is
            (ap (λ (n : ℕ). eqb n 0) (sum_same _ _ tasks.count (λ k h. rw (old-are k h, slacks_next k h))))

        pub after_round :
            all_rounds tasks m ≡ rounds_from tasks m (64 - r) false (round_after tasks m r) → AtRound tasks m r old sums slacks changed
        unfolding rounds_from round_after
        after_round goes_on =
            let e : 64 - r ≡ suc (64 - suc r) = omega arith in
            record { before_are = old-are; sums_are = computed.sums_are; slacks_are = slacks_next; goes_on = goes_on ∙ rw (e, changed_next) }

  -- Before the first round the slacks are 0, and the sums of the window test are those of the round.
  pub none_before : (k : ℕ) → k < tasks.count → 0 ≡ slack_after tasks m 0 k
  none_before k h = sym (slack_start tasks m k h)

  pub first_sum : (k : ℕ) → k < tasks.count → window_sum tasks no_slack k ≡ window_sum tasks (slack_after tasks m 0) k
  first_sum k h = sym (round_one tasks m k h) ∙ sum_next tasks m 0 k h

  pub first_on : all_rounds tasks m ≡ rounds_from tasks m 64 false (round_after tasks m 0)
  unfolding all_rounds round_after
  first_on = refl

  -- The sums of the next round, with the own parts, from the slacks of round r.
  pub next_sum : WellFormed tasks → (r : ℕ) (slacks : List ℕ) →
      ((i : ℕ) → i < tasks.count → get_or slacks i 0 ≡ slack_after tasks m r i) →
      (k : ℕ) →
      k < tasks.count →
      sum_to tasks.count (part_of tasks (λ i. get_or slacks i 0) k)
      ≡ window_sum tasks (slack_after tasks m r) k + own_at tasks k
  next_sum well r slacks slacks_are k h =
      sum_same _ _ tasks.count (λ i l. rw (slacks_are i l))
      ∙ sum_with_own tasks well (slack_after tasks m r) k h (slacks_fit tasks m r k h)

  module _ (r : ℕ) (before sums slacks : List ℕ) (changed : ℕ) (held : AtRound tasks m r before sums slacks changed) where
    pub still_on : (changed ≡ 0 → ⊥) → all_rounds tasks m ≡ rounds_from tasks m (64 - suc r) false (round_after tasks m (suc r))
    still_on some = held.goes_on ∙ rw (ne_eqb changed 0 some)

    -- Where none changed, or after 64 rounds, round r + 1 is the last.
    ended : (changed ≡ 0) ⊎ (suc r ≡ 64) → all_rounds tasks m ≡ round_after tasks m (suc r)
    unfolding rounds_from
    ended = ⊎_elim
        (λ none. held.goes_on ∙ rw (eq-eqb changed 0 none) (stays (64 - suc r)))
        (λ cut.
        let e : 64 - suc r ≡ 0 = omega arith in
        held.goes_on ∙ rw e (out (eqb changed 0)))
      where
        stays : (more : ℕ) → rounds_from tasks m more true (round_after tasks m (suc r)) ≡ round_after tasks m (suc r)
        stays zero = refl
        stays (suc more) = refl

        out : (end : Bool) → rounds_from tasks m 0 end (round_after tasks m (suc r)) ≡ round_after tasks m (suc r)
        out end = refl

    -- Then these are the rounds made and the sums of the last round.
    pub last_held : (changed ≡ 0) ⊎ (suc r ≡ 64) → (suc r ≡ (all_rounds tasks m).made) × LastSumsWithOwn tasks m sums
    last_held end =
        let e = ended end in (
          rw e (sym (made_is tasks m (suc r))),
          λ k h. held.sums_are k h ∙ rw e (ap (λ (n : ℕ). n + own_at tasks k) (sym (sum_next tasks m r k h))),
        )
