-- What a verdict of the slack test says of the test. Others cite `slack_outcome`, that its refusals are those of `checked`, and `slack_judged_is`, what it says where
-- there is none; and `rounds_small`.
use Prim.Native.Nat.{ℕ, ◌≤◌}
use native.Mathlib.Omega.{arith}
use mathlib.Core.Path.{◌≡◌}
use Rattle.tasks.specs.declared.table.Table.{Table}
use Rattle.std.proofs.Common.{Ok}
use Rattle.tasks.specs.Check.{checked}
use Rattle.tasks.specs.TaskSet.{tasks_of}
use Rattle.tasks.proofs.OutcomeLaws.{by_outcome}
use Rattle.edzl.specs.Slack.{all_rounds}
use Rattle.edzl.proofs.SlackRounds.{made_is, last_round}
use Rattle.judge.specs.SlackJudge.{refused_by_slack, slack_judged_after, slack_judged}

module _ (t : Table) (m : ℕ) where
  pub slack_outcome : (slack_judged t m).outcome ≡ checked t m
  unfolding slack_judged slack_judged_after refused_by_slack
  slack_outcome = by_outcome (checked t m) (λ e. rw e) (λ why e. rw e)

  pub slack_judged_is : checked t m ≡ Ok tt → slack_judged t m ≡ slack_judged_after (Ok tt) t m
  unfolding slack_judged
  slack_judged_is e = rw e

  made_small : (all_rounds (tasks_of t) m).made ≤ 64
  made_small = let last = last_round (tasks_of t) m in rw (last.is, made_is) (omega (arith, last.below))

  -- at most 64 rounds are made
  pub rounds_small : (slack_judged t m).rounds ≤ 64
  unfolding slack_judged slack_judged_after refused_by_slack
  rounds_small = by_outcome (checked t m) (λ e. rw e made_small) (λ why e. rw e (omega arith))
