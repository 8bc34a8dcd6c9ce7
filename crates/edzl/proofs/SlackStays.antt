-- Why a cheaper set of tasks stays admitted by the slack test (document 02, change 8): `slack_stays`, with `slack_no_smaller`, of each round, and
-- `reaching_no_larger`, of the last one. Both sets are compared at round 64, each counted on past its last: one that is cut there might go on to change.
use Prim.Native.Nat.{ℕ, ◌≤◌, ◌<◌}
use mathlib.Core.Path.{◌≡◌}
use mathlib.Core.Bool.{true}
use native.Mathlib.Omega.{arith}
use borrow.Author.Tests.{le-leb, leb-true}
use Rattle.laws.proofs.SumLaws.{sum_picked, bit_monotone}
use Rattle.edzl.specs.TaskSet.{TaskSet}
use Rattle.edzl.specs.Window.{spare}
use Rattle.edzl.specs.Slack.{of_task, reaches, all_rounds, slack_of_round, count_reaching, slack_admits}
use Rattle.edzl.specs.Cheaper.{CheaperTasks}
use Rattle.edzl.proofs.WellFormed.{WellFormed}
use Rattle.edzl.proofs.SlackRounds.{slacks_cheaper}
use Rattle.edzl.proofs.SlackOfRound.{slack_of_round_lem, none_left, reached}

module _ (dearer cheaper : TaskSet) (well : WellFormed dearer) (c : CheaperTasks dearer cheaper) (m m' : ℕ) (cores : m ≤ m') where
  -- In each round no slack of a remaining task falls.
  pub slack_no_smaller : (r i : ℕ) → i < cheaper.count → slack_of_round dearer m r (c.was i) ≤ slack_of_round cheaper m' r i
  slack_no_smaller r i h =
      rw (slack_of_round_lem dearer m r (c.was i) (c.was_there i h), slack_of_round_lem cheaper m' r i h)
      (slacks_cheaper dearer cheaper well c m m' cores r i h)

  reaches_was : (i : ℕ) → i < cheaper.count →
      reaches m' (spare cheaper i) (of_task (all_rounds cheaper m').sums i) ≡ true →
      reaches m (spare dearer (c.was i)) (of_task (all_rounds dearer m).sums (c.was i)) ≡ true
  reaches_was i h yes-reaches =
      reached dearer m (c.was i) (c.was_there i h)
      (omega (arith, none_left cheaper m' i h yes-reaches, slacks_cheaper dearer cheaper well c m m' cores 64 i h))

  -- No more sums of the last round reach.
  pub reaching_no_larger : count_reaching cheaper m' (all_rounds cheaper m').sums ≤ count_reaching dearer m (all_rounds dearer m).sums
  unfolding count_reaching
  reaching_no_larger =
      sum_picked _ _ c.was cheaper.count dearer.count c.was_there c.in_order (λ i h. bit_monotone _ _ (reaches_was i h))

  -- The slack test: what it admits, it admits when it is cheaper.
  pub slack_stays : slack_admits dearer m ≡ true → slack_admits cheaper m' ≡ true
  unfolding slack_admits
  slack_stays yes-admitted =
      le-leb (count_reaching cheaper m' (all_rounds cheaper m').sums) m'
      (omega (arith, reaching_no_larger, leb-true (count_reaching dearer m (all_rounds dearer m).sums) m yes-admitted))
