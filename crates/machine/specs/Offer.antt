-- The checks of an offer, on a table and m: document 02, change 10, "Offer runs join's checks", which are document 01's "Join: 5, 12, 13".
use Rattle.std.specs.Prelude.{ℕ, Bool, true, cond, not, leb, Ok, Err, Option, Some, None}
use Rattle.tasks.specs.declared.task.Task.{Task}
use Rattle.tasks.specs.declared.table.Table.{Table}
use Rattle.tasks.specs.Limits.{max_tasks}
use Rattle.tasks.specs.declared.refusals.Reason.TheVariants.{TaskOutOfRange, TableFull, NotAdmitted}
use Rattle.tasks.specs.Refusals.{refusal}
use Rattle.tasks.specs.Task.{in_range}
use Rattle.tasks.specs.Table.{with_task}
use Rattle.tasks.specs.Outcome.{Outcome, is_done, first_refusal}
use Rattle.judge.specs.SlackJudge.{AdmissionValues, admission_values_of, admission}

-- 5, then 12, then the verdict on the table with the task "added at the end", each as an admission, which the code's offer takes apart; "a join's 5, carries
-- 0"; change 6: "Joins .. go by this test"
unfoldable pub offer_verdict : Table → (cores : ℕ) → Task → AdmissionValues
offer_verdict t cores task =
    cond (not (in_range task)) (admission_values_of (Err (refusal TaskOutOfRange 0)))
    (cond (leb max_tasks t.count) (admission_values_of (Err (refusal TableFull 0))) (admission (with_task t task) cores))

-- the checks of an offer; "A join whose verdict is a refusal ends there with that refusal", and the last is 13
unfoldable pub offer_checked : Table → (cores : ℕ) → Task → Outcome
offer_checked t cores task =
    let verdict = offer_verdict t cores task in
    first_refusal verdict.outcome (cond verdict.admits (Ok tt) (Err (refusal NotAdmitted 0)))

-- "A machine whose held task the offer would refuse now by 5, 12 or 13 is unsound.", the other way round; where a start would refuse the table or m, the
-- machine is unsound already
unfoldable pub held_sound : Option Task → Table → (cores : ℕ) → Bool
held_sound None t cores = true
held_sound (Some task) t cores = is_done (offer_checked t cores task)
