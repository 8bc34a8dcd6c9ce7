-- The verdict of the slack test on a table: document 02, change 6. Its rounds and its admission are those of `all_rounds` and `slack_admits`.
use Rattle.std.specs.Prelude.{ℕ, Bool, false, Result, Ok, Err}
use Rattle.edzl.specs.Slack.{all_rounds, slack_admits}
use Rattle.tasks.specs.declared.table.Table.{Table}
use Rattle.tasks.specs.declared.refusals.Refusal.{Refusal}
use Rattle.tasks.specs.Outcome.{Outcome}
use Rattle.tasks.specs.Check.{checked}
use Rattle.tasks.specs.TaskSet.{tasks_of}
use Rattle.judge.specs.declared.slack.SlackVerdict.{SlackVerdict}

-- what the slack test gives: whether it was carried out, "the rounds made", and whether the table is admitted
pub record SlackValues : Type 0 where
  pub outcome : Outcome
  pub rounds : ℕ
  pub admits : Bool

-- "Its refusals are those of judging, with 0 rounds.", and a refused table is not admitted
unfoldable pub refused_by_slack : Refusal → SlackValues
refused_by_slack why = record { outcome = Err why; rounds = 0; admits = false }

-- the values of a slack verdict or of a refusal
unfoldable pub slack_values_of : Result SlackVerdict Refusal → SlackValues
slack_values_of (Ok verdict) = record { outcome = Ok tt; rounds = verdict.rounds; admits = verdict.admitted }
slack_values_of (Err why) = refused_by_slack why

-- a table on m cores, after the refusals of judging were tried
unfoldable pub slack_judged_after : Outcome → Table → (m : ℕ) → SlackValues
slack_judged_after (Ok _) t m =
    record { outcome = Ok tt; rounds = (all_rounds (tasks_of t) m).made; admits = slack_admits (tasks_of t) m }
slack_judged_after (Err why) t m = refused_by_slack why

-- what the slack test of a table on m cores gives
unfoldable pub slack_judged : Table → (m : ℕ) → SlackValues
slack_judged t m = slack_judged_after (checked t m) t m

-- the admission alone, without the rounds: whether the test was carried out, and whether the table is admitted
pub record AdmissionValues : Type 0 where
  pub outcome : Outcome
  pub admits : Bool

-- the values of an admission, which is whether the table is admitted, or a refusal
unfoldable pub admission_values_of : Result Bool Refusal → AdmissionValues
admission_values_of (Ok admitted) = record { outcome = Ok tt; admits = admitted }
admission_values_of (Err why) = record { outcome = Err why; admits = false }

-- "Joins and the C entry go by this test from now on", by change 10 offers
unfoldable pub admission : Table → (m : ℕ) → AdmissionValues
admission t m = let verdict = slack_judged t m in record { outcome = verdict.outcome; admits = verdict.admits }
