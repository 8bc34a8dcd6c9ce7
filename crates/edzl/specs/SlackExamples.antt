-- Examples of the rounds of document 02's change 6 on plain numbers, as entries of a list of computed tests: `all_true` of crate laws is the test, and the
-- theorem stands in proofs/SlackExamplesHold.antt. Tasks are written T, C, D.
use Rattle.std.specs.Prelude.{ℕ, Bool, true, false, not, ◌&&◌, List, [], ◌∷◌, eqb, get_or, length}
use Rattle.std.specs.Bool.{beq}
use Rattle.laws.specs.Examples.{same_numbers}
use Rattle.edzl.specs.TaskSet.{TaskSet}
use Rattle.edzl.specs.Window.{admitted}
use Rattle.edzl.specs.Slack.{all_rounds, slack_admits}

-- the three numbers of a task
pub record TaskNumbers : Type 0 where
  pub period : ℕ
  pub budget : ℕ
  pub deadline : ℕ

-- a task by its three numbers
unfoldable pub plain_task : (period budget deadline : ℕ) → TaskNumbers
plain_task period budget deadline = record { period = period; budget = budget; deadline = deadline }

-- the set of these tasks
unfoldable pub set_of : List TaskNumbers → TaskSet
set_of tasks =
    record {
      count = length tasks;
      period = λ i. (get_or tasks i (plain_task 0 0 0)).period;
      budget = λ i. (get_or tasks i (plain_task 0 0 0)).budget;
      deadline = λ i. (get_or tasks i (plain_task 0 0 0)).deadline;
    }

-- the slack test makes so many rounds and gives this verdict
unfoldable pub plain_slack_is : List TaskNumbers → (m rounds : ℕ) → (admits : Bool) → Bool
plain_slack_is tasks m rounds admits = eqb (all_rounds (set_of tasks) m).made rounds && beq (slack_admits (set_of tasks) m) admits

-- the window test refuses the set
unfoldable pub window_refuses : List TaskNumbers → (m : ℕ) → Bool
window_refuses tasks m = not (admitted (set_of tasks) m)

-- the last round has these sums, and they give these slacks
unfoldable pub last_is : List TaskNumbers → (m : ℕ) → (sums slacks : List ℕ) → Bool
last_is tasks m sums slacks =
    let rounds = all_rounds (set_of tasks) m in same_numbers rounds.sums sums && same_numbers rounds.slacks slacks

-- document 002's four tasks
unfoldable pub plain_four_tasks : List TaskNumbers
plain_four_tasks = plain_task 2 1 2 ∷ plain_task 2 1 2 ∷ plain_task 7 1 7 ∷ plain_task 8 3 8 ∷ []

-- tasks that one round more than 64 would admit
unfoldable pub cut_tasks : List TaskNumbers
cut_tasks = plain_task 188 1 1 ∷ plain_task 157 31 94 ∷ plain_task 188 30 32 ∷ plain_task 188 32 188 ∷ []

-- rounds and verdicts of the slack test
unfoldable pub plain_slack_examples : List Bool
plain_slack_examples =
    -- document 002's four tasks on 2 cores, which the window test refuses
    plain_slack_is plain_four_tasks 2 3 true ∷
    window_refuses plain_four_tasks 2 ∷
    last_is plain_four_tasks 2 (3 ∷ 3 ∷ 11 ∷ 9 ∷ []) (0 ∷ 0 ∷ 1 ∷ 1 ∷ []) ∷
    -- case g
    plain_slack_is (plain_task 10 9 10 ∷ plain_task 10 6 10 ∷ plain_task 5 2 5 ∷ []) 2 1 false ∷
    -- "The table above" on 1 core, on 2 and on 3
    plain_slack_is (plain_task 4 1 4 ∷ plain_task 6 2 5 ∷ plain_task 10 6 8 ∷ []) 1 1 false ∷
    plain_slack_is (plain_task 4 1 4 ∷ plain_task 6 2 5 ∷ plain_task 10 6 8 ∷ []) 2 2 true ∷
    plain_slack_is (plain_task 4 1 4 ∷ plain_task 6 2 5 ∷ plain_task 10 6 8 ∷ []) 3 2 true ∷
    -- one task with no spare: its sum reaches at once
    plain_slack_is (plain_task 1 1 1 ∷ []) 1 1 true ∷
    plain_slack_is (plain_task 1 1 1 ∷ plain_task 1 1 1 ∷ []) 1 1 false ∷
    -- a round in which nothing changes is a round made
    plain_slack_is (plain_task 2 1 2 ∷ []) 1 2 true ∷
    plain_slack_is (plain_task 3 1 1 ∷ plain_task 3 1 3 ∷ []) 1 2 true ∷
    -- windows are those of the deadline, not of the period
    plain_slack_is (plain_task 3 1 1 ∷ plain_task 4 1 3 ∷ []) 1 2 true ∷
    -- the quotient is rounded down
    plain_slack_is (plain_task 1 1 1 ∷ plain_task 2 1 2 ∷ []) 2 2 true ∷
    plain_slack_is (plain_task 1 1 1 ∷ plain_task 3 1 1 ∷ plain_task 3 1 3 ∷ []) 2 2 true ∷
    plain_slack_is (plain_task 3 1 1 ∷ plain_task 3 1 1 ∷ plain_task 3 1 3 ∷ plain_task 4 1 4 ∷ []) 2 3 true ∷
    plain_slack_is (plain_task 6 1 1 ∷ plain_task 8 1 8 ∷ plain_task 6 1 1 ∷ plain_task 6 2 6 ∷ plain_task 3 1 3 ∷ []) 2 4 true ∷
    -- all slacks change at once
    plain_slack_is (plain_task 2 1 2 ∷ plain_task 3 1 3 ∷ []) 2 3 true ∷
    plain_slack_is (plain_task 3 1 3 ∷ plain_task 2 1 2 ∷ []) 2 3 true ∷
    plain_slack_is (plain_task 3 1 3 ∷ plain_task 4 1 4 ∷ []) 1 3 true ∷
    -- the smallest that only this test admits, in three orders
    plain_slack_is (plain_task 4 1 1 ∷ plain_task 4 1 4 ∷ plain_task 5 1 5 ∷ []) 1 3 true ∷
    window_refuses (plain_task 4 1 1 ∷ plain_task 4 1 4 ∷ plain_task 5 1 5 ∷ []) 1 ∷
    plain_slack_is (plain_task 5 1 5 ∷ plain_task 4 1 1 ∷ plain_task 4 1 4 ∷ []) 1 3 true ∷
    plain_slack_is (plain_task 4 1 4 ∷ plain_task 5 1 5 ∷ plain_task 4 1 1 ∷ []) 1 3 true ∷
    plain_slack_is (plain_task 5 1 1 ∷ plain_task 9 1 9 ∷ plain_task 8 1 3 ∷ plain_task 8 1 8 ∷ []) 1 5 true ∷
    -- a slack above another task's deadline leaves no window
    plain_slack_is (plain_task 4 1 2 ∷ plain_task 5 1 5 ∷ []) 1 4 true ∷
    plain_slack_is (plain_task 7 1 7 ∷ plain_task 6 1 3 ∷ plain_task 7 1 1 ∷ []) 1 4 true ∷
    plain_slack_is (plain_task 6 1 6 ∷ plain_task 6 1 3 ∷ plain_task 6 1 1 ∷ []) 1 3 true ∷
    -- refused, and would not be with larger slacks
    plain_slack_is (plain_task 3 1 3 ∷ plain_task 7 1 7 ∷ plain_task 7 1 1 ∷ []) 1 2 false ∷
    plain_slack_is (plain_task 5 1 1 ∷ plain_task 5 1 3 ∷ plain_task 5 1 5 ∷ []) 1 2 false ∷
    plain_slack_is (plain_task 4 1 1 ∷ plain_task 4 1 3 ∷ plain_task 4 1 4 ∷ []) 1 2 false ∷
    -- 63 rounds, and 64 without a cut
    plain_slack_is (plain_task 92 30 61 ∷ plain_task 122 31 122 ∷ []) 1 63 true ∷
    plain_slack_is (plain_task 94 31 62 ∷ plain_task 125 31 125 ∷ []) 1 64 true ∷
    -- cut after 64 rounds and admitted
    plain_slack_is (plain_task 95 31 63 ∷ plain_task 126 32 126 ∷ []) 1 64 true ∷
    -- cut and refused
    plain_slack_is (plain_task 99 31 65 ∷ plain_task 130 32 130 ∷ plain_task 130 1 1 ∷ plain_task 130 1 1 ∷ []) 1 64 false ∷
    -- cut and admitted by the sums of round 64, which one round fewer would refuse
    plain_slack_is (plain_task 187 2 2 ∷ plain_task 156 31 94 ∷ plain_task 187 29 33 ∷ plain_task 187 31 187 ∷ []) 1 64 true ∷
    -- cut and refused by the sums of round 64, which one round more would admit, and the sums that its slacks would give
    plain_slack_is cut_tasks 1 64 false ∷
    last_is cut_tasks 1 (0 ∷ 31 ∷ 2 ∷ 62 ∷ []) (0 ∷ 32 ∷ 0 ∷ 94 ∷ []) ∷
    []
