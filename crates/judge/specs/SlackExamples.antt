-- Examples of document 02's change 6 on tables, as entries of a list of computed tests: `all_true` of crate laws is the test, and the theorem stands in
-- proofs/SlackExamplesHold.antt. Tasks are written T, C, D.
use Rattle.std.specs.Prelude.{ℕ, Bool, true, false, not, ◌&&◌, List, [], ◌∷◌, eqb, set, Ok, Err}
use Rattle.std.specs.Bool.{beq}
use Rattle.tasks.specs.declared.task.Task.{Task}
use Rattle.tasks.specs.declared.table.Table.{Table}
use Rattle.tasks.specs.Outcome.{Outcome, is_done}
use Rattle.tasks.specs.Refusals.{number_of}
use Rattle.tasks.specs.Table.{empty_table}
use Rattle.tasks.specs.Written.{task, table_of}
use Rattle.judge.specs.SlackJudge.{slack_judged}

-- the slack test makes so many rounds on a table and gives this verdict
unfoldable pub slack_on : Table → (cores rounds : ℕ) → (admits : Bool) → Bool
slack_on t cores rounds admits =
    let verdict = slack_judged t cores in
    is_done verdict.outcome && eqb verdict.rounds rounds && beq verdict.admits admits

-- the same of the table of these tasks
unfoldable pub slack_is : List Task → (cores rounds : ℕ) → (admits : Bool) → Bool
slack_is tasks cores rounds admits = slack_on (table_of tasks) cores rounds admits

-- an outcome is the refusal of this number and place
unfoldable pub is_refusal : Outcome → (number place : ℕ) → Bool
is_refusal (Ok _) number place = false
is_refusal (Err why) number place = eqb (number_of why.reason) number && eqb why.place place

-- the slack test is refused with this number and place, 0 rounds and no admission
unfoldable pub refused_is : Table → (cores number place : ℕ) → Bool
refused_is t cores number place =
    let verdict = slack_judged t cores in
    is_refusal verdict.outcome number place && eqb verdict.rounds 0 && not verdict.admits

-- document 002's four tasks
unfoldable pub four_tasks : List Task
four_tasks = task 2 1 2 ∷ task 2 1 2 ∷ task 7 1 7 ∷ task 8 3 8 ∷ []

-- verdicts of the slack test, and its refusals
unfoldable pub slack_examples : List Bool
slack_examples =
    -- document 002's four tasks on 2 cores; case g
    slack_is four_tasks 2 3 true ∷
    slack_is (task 10 9 10 ∷ task 10 6 10 ∷ task 5 2 5 ∷ []) 2 1 false ∷
    -- entries past the count play no part
    slack_on (record { count = 2; tasks = set (table_of (task 3 1 1 ∷ task 3 1 3 ∷ [])).tasks 2 (task 3 3 3) }) 1 2 true ∷
    -- the refusals of judging: 3, 6, 5 before 7, and 7
    refused_is (record { count = 33; tasks = (table_of (task 3 1 1 ∷ [])).tasks }) 1 3 33 ∷
    refused_is empty_table 1 6 0 ∷
    refused_is (table_of (task 2 1 2 ∷ task 2 3 2 ∷ [])) 17 5 2 ∷
    refused_is (table_of (task 2 1 2 ∷ [])) 0 7 0 ∷
    refused_is (table_of (task 2 1 2 ∷ [])) 17 7 0 ∷
    []
