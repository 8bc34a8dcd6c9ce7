-- The tests where the sum of a task counts the task itself. In its own window, which its slack shortens, a task interferes by its budget, so its own
-- part is known and stands on both sides of the test. Others cite `sum_with_own`; and of how many such sums reach what they must, `count_with_own`, and with
-- it `urgent_by_sums`, that the window test counts them, and `window_by_sums` and `admits_by_sums`, whether the slack test admits.
use Prim.Native.Nat.{ℕ, ◌+◌, ◌-◌, ◌*◌, ◌≤◌, ◌<◌}
use native.Mathlib.Omega.{arith}
use mathlib.Core.Path.{◌≡◌, ap}
use mathlib.Core.Bool.{true}
use mathlib.Core.List.{List}
use lib.Dec.{leb}
use lib.ListN.{get_or}
use borrow.Author.Tests.{le-leb}
use Rattle.edzl.specs.TaskSet.{TaskSet}
use Rattle.edzl.specs.Window.{spare, no_slack, window_sum, may_turn_urgent, count_urgent, admitted}
use Rattle.edzl.specs.Slack.{of_task, reaches, all_rounds, count_reaching, slack_admits}
use Rattle.edzl.proofs.SlackRounds.{window_admits}
use Rattle.laws.specs.Sums.{sum_to, bit}
use Rattle.edzl.proofs.WellFormed.{WellFormed}
use Rattle.laws.proofs.Tests.{same_leb}
use Rattle.edzl.proofs.InterferenceLaws.{first_period}
use Rattle.laws.proofs.SumLaws.{sum_same, sum_others}
use Rattle.judge.specs.Parts.{part_of, own_at, needed, count_by_sums, WithOwn, SumsWithOwn, LastSumsWithOwn}

module _ (tasks : TaskSet) (well : WellFormed tasks) where
  own : (slack : ℕ → ℕ) (k : ℕ) → k < tasks.count → slack k ≤ spare tasks k → part_of tasks slack k k ≡ own_at tasks k
  unfolding WellFormed spare
  own slack k h fits-slack =
      let fits = well k h in
      rw (first_period (tasks.period k) (tasks.budget k) (omega arith) (omega arith) (tasks.deadline k - slack k) (omega arith)) (omega arith)

  -- The sum over all tasks is that over the others, and the own part.
  pub sum_with_own : (slack : ℕ → ℕ) (k : ℕ) →
      k < tasks.count →
      slack k ≤ spare tasks k →
      sum_to tasks.count (part_of tasks slack k) ≡ window_sum tasks slack k + own_at tasks k
  unfolding window_sum spare
  sum_with_own slack k h fits-slack = omega (arith, sum_others (part_of tasks slack k) k tasks.count h, own slack k h fits-slack)

-- The test on sums with the own part counts as that on sums without.
pub count_with_own : (tasks : TaskSet) (m : ℕ) (sums : List ℕ) (others : ℕ → ℕ) →
    WithOwn tasks others sums →
    count_by_sums tasks m sums ≡ sum_to tasks.count (λ k. bit (leb (m * spare tasks k) (others k)))
unfolding spare
count_with_own tasks m sums others are =
    sum_same _ _ tasks.count (λ k h.
    ap bit
    (same_leb (needed tasks m k) (get_or sums k 0) (m * (tasks.deadline k - tasks.budget k)) (others k)
    (λ l. omega (arith, are k h))
    (λ l. omega (arith, are k h))))

module _ (tasks : TaskSet) (m : ℕ) (sums : List ℕ) where
  pub urgent_by_sums : SumsWithOwn tasks no_slack sums → count_by_sums tasks m sums ≡ count_urgent tasks no_slack m
  unfolding count_urgent may_turn_urgent
  urgent_by_sums are = count_with_own tasks m sums (window_sum tasks no_slack) are

  -- What the window test admits, the slack test admits.
  pub window_by_sums : WellFormed tasks → SumsWithOwn tasks no_slack sums → count_by_sums tasks m sums ≤ m → slack_admits tasks m ≡ true
  unfolding admitted
  window_by_sums well are few =
      window_admits tasks m well (le-leb (count_urgent tasks no_slack m) m (rw (urgent_by_sums are) at few))

  pub admits_by_sums : LastSumsWithOwn tasks m sums → leb (count_by_sums tasks m sums) m ≡ slack_admits tasks m
  unfolding slack_admits count_reaching reaches
  admits_by_sums are = ap (λ (c : ℕ). leb c m) (count_with_own tasks m sums (of_task (all_rounds tasks m).sums) are)
