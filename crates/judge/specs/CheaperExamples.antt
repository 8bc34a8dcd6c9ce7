-- Examples of document 02's change 8 on tables, as entries of a list of computed tests: `all_true` of crate laws is the test, and the theorem stands in
-- proofs/CheaperExamplesHold.antt. Tasks are written T, C, D, and named by their index, from 0.
use Rattle.std.specs.Prelude.{ℕ, Bool, true, false, ◌&&◌, List, [], ◌∷◌, eqb, length, take}
use Rattle.std.specs.Bool.{beq}
use Rattle.laws.specs.Examples.{same_numbers}
use Rattle.tasks.specs.declared.table.Table.{Table}
use Rattle.tasks.specs.Outcome.{is_done}
use Rattle.tasks.specs.Numbers.{periods_of}
use Rattle.tasks.specs.Written.{task, table_of}
use Rattle.tasks.specs.Trimmed.{with_budget, with_period, without_task, chosen_table}
use Rattle.judge.specs.Judge.{judged}
use Rattle.judge.specs.SlackExamples.{slack_on, is_refusal, four_tasks}

-- the window test has this COUNT on a table and gives this verdict
unfoldable pub window_on : Table → (cores count : ℕ) → (admits : Bool) → Bool
window_on t cores count admits =
    let verdict = judged t cores in
    is_done verdict.outcome && eqb verdict.count count && beq verdict.admits admits

-- judging is refused with this number and place
unfoldable pub judging_refused : Table → (cores number place : ℕ) → Bool
judging_refused t cores number place = is_refusal (judged t cores).outcome number place

-- a table has so many tasks, and its first entries have these periods
unfoldable pub periods_are : Table → (count : ℕ) → List ℕ → Bool
periods_are t count periods = eqb t.count count && same_numbers (take (length periods) (periods_of t.tasks)) periods

-- document 01's table
unfoldable pub example_table : Table
example_table = table_of (task 4 1 4 ∷ task 6 2 5 ∷ task 10 6 8 ∷ [])

-- a task that is always counted, with another one, and a third that on 1 core only the slack test has room for
unfoldable pub room_by_slack : Table
room_by_slack = table_of (task 4 1 1 ∷ task 4 1 4 ∷ task 5 1 5 ∷ [])

-- tables after each sentence of change 8, those for which it goes too far, and tables with a longer deadline
unfoldable pub cheaper_examples : List Bool
cheaper_examples =
    -- document 01's table on 2 cores, with one core more, and on the most
    window_on example_table 2 1 true ∷
    window_on example_table 3 0 true ∷
    window_on example_table 16 0 true ∷
    -- its third budget one lower, and down to 1
    window_on (with_budget example_table 2 5) 2 0 true ∷
    window_on (with_budget example_table 2 1) 2 0 true ∷
    -- its second period one higher, and up to the limit
    window_on (with_period example_table 1 7) 2 1 true ∷
    window_on (with_period example_table 1 1_000_000) 2 1 true ∷
    -- its second task removed: the third moves up
    periods_are (without_task example_table 1) 2 (4 ∷ 10 ∷ 0 ∷ []) ∷
    window_on (without_task example_table 1) 2 0 true ∷
    -- the same as a choice; flags past the tasks play no part, and a task without a flag is not chosen
    periods_are (chosen_table example_table (true ∷ false ∷ true ∷ true ∷ [])) 2 (4 ∷ 10 ∷ 0 ∷ []) ∷
    periods_are (chosen_table example_table (false ∷ true ∷ [])) 1 (6 ∷ 0 ∷ []) ∷
    -- a task without spare, which always counts, has some when its budget is lowered
    window_on (table_of (task 5 5 5 ∷ [])) 1 1 true ∷
    window_on (with_budget (table_of (task 5 5 5 ∷ [])) 0 4) 1 0 true ∷
    -- document 002's four tasks, which on 2 cores only the slack test admits; after each of these both do
    window_on (table_of four_tasks) 2 3 false ∷
    slack_on (table_of four_tasks) 2 3 true ∷
    window_on (with_budget (table_of four_tasks) 3 2) 2 2 true ∷
    slack_on (with_budget (table_of four_tasks) 3 2) 2 3 true ∷
    window_on (with_period (table_of four_tasks) 2 1_000_000) 2 2 true ∷
    slack_on (with_period (table_of four_tasks) 2 1_000_000) 2 2 true ∷
    window_on (without_task (table_of four_tasks) 0) 2 1 true ∷
    slack_on (without_task (table_of four_tasks) 0) 2 3 true ∷
    -- three that only the slack test admits before and after
    window_on room_by_slack 1 2 false ∷
    slack_on room_by_slack 1 3 true ∷
    window_on (with_period room_by_slack 2 6) 1 2 false ∷
    slack_on (with_period room_by_slack 2 6) 1 3 true ∷
    -- too far: a budget of 0, a period above the limit, 17 cores, no task left
    judging_refused (with_budget example_table 2 0) 2 5 3 ∷
    judging_refused (with_period example_table 1 1_000_001) 2 5 2 ∷
    judging_refused example_table 17 7 0 ∷
    judging_refused (without_task (table_of (task 5 5 5 ∷ [])) 0) 1 6 0 ∷
    judging_refused (chosen_table example_table (false ∷ false ∷ false ∷ [])) 2 6 0 ∷
    -- "Deadlines are not included, since a longer one also widens the window.": by the window test one loses an admission on 1 core, and one gains one
    window_on (table_of (task 4 1 1 ∷ task 4 1 4 ∷ task 5 1 4 ∷ [])) 1 1 true ∷
    window_on (table_of (task 4 1 1 ∷ task 4 1 4 ∷ task 5 1 5 ∷ [])) 1 2 false ∷
    window_on (table_of (task 2 1 1 ∷ task 4 1 3 ∷ [])) 1 2 false ∷
    window_on (table_of (task 2 1 1 ∷ task 4 1 4 ∷ [])) 1 1 true ∷
    -- and by the slack test
    slack_on (table_of (task 8 2 8 ∷ task 4 1 1 ∷ task 8 1 4 ∷ [])) 1 3 true ∷
    slack_on (table_of (task 8 2 8 ∷ task 4 1 1 ∷ task 8 1 5 ∷ [])) 1 2 false ∷
    slack_on (table_of (task 5 2 4 ∷ task 3 1 1 ∷ [])) 1 1 false ∷
    slack_on (table_of (task 5 2 5 ∷ task 3 1 1 ∷ [])) 1 2 true ∷
    []
