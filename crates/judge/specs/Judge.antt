-- The verdict of the window test on a table: document 01, "The window test" and "Why a call is not carried out".
use Rattle.std.specs.Prelude.{ℕ, Bool, false, Result, Ok, Err}
use Rattle.edzl.specs.Window.{no_slack, count_urgent, admitted}
use Rattle.tasks.specs.declared.table.Table.{Table}
use Rattle.tasks.specs.declared.refusals.Refusal.{Refusal}
use Rattle.tasks.specs.Outcome.{Outcome}
use Rattle.tasks.specs.Check.{checked}
use Rattle.tasks.specs.TaskSet.{tasks_of}
use Rattle.judge.specs.declared.Verdict.{Verdict}

-- what judging gives: whether it was carried out, COUNT, and whether the window test admits the table
pub record Values : Type 0 where
  pub outcome : Outcome
  pub count : ℕ
  pub admits : Bool

-- "a refused judging COUNT 0 and not admitted"
unfoldable pub refused_values : Refusal → Values
refused_values why = record { outcome = Err why; count = 0; admits = false }

-- "If an answer is an enum, a definition gives this paper's number and values for each of the enum's cases.": those of a verdict or a refusal
unfoldable pub values_of : Result Verdict Refusal → Values
values_of (Ok verdict) = record { outcome = Ok tt; count = verdict.count; admits = verdict.admitted }
values_of (Err why) = refused_values why

-- a table on m cores, after the refusals of judging were tried
unfoldable pub judged_after : Outcome → Table → (m : ℕ) → Values
judged_after (Ok _) t m =
    record { outcome = Ok tt; count = count_urgent (tasks_of t) no_slack m; admits = admitted (tasks_of t) m }
judged_after (Err why) t m = refused_values why

-- what judging a table on m cores gives. "Judging or starting a given table: 3, 6, then 5 task by task, then 7" (`checked`)
unfoldable pub judged : Table → (m : ℕ) → Values
judged t m = judged_after (checked t m) t m
