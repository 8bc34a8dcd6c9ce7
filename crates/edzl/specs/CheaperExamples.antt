-- An example of document 02's change 8 on plain numbers, as entries of a list of computed tests: `all_true` of crate laws is the test, and the theorem stands in
-- proofs/CheaperExamplesHold.antt. Tasks are written T, C, D.
use Rattle.std.specs.Prelude.{ℕ, ◌*◌, Bool, ◌&&◌, List, [], ◌∷◌, eqb}
use Rattle.edzl.specs.Window.{spare, no_slack, window_sum}
use Rattle.edzl.specs.SlackExamples.{TaskNumbers, plain_task, set_of}
use Rattle.edzl.specs.SumExamples.{count_is}

-- the sum of the third task in the window test, and m times its spare
unfoldable pub third_is : List TaskNumbers → (m sum goal : ℕ) → Bool
third_is tasks m sum goal = eqb (window_sum (set_of tasks) no_slack 2) sum && eqb (m * spare (set_of tasks) 2) goal

-- document 01's table with another budget of the third task
unfoldable pub with_third : (budget : ℕ) → List TaskNumbers
with_third budget = plain_task 4 1 4 ∷ plain_task 6 2 5 ∷ plain_task 10 budget 8 ∷ []

-- on 2 cores with the third budget 6, then 5: its sum rises, m times its spare rises more, and COUNT falls
unfoldable pub plain_cheaper_examples : List Bool
plain_cheaper_examples =
    third_is (with_third 6) 2 4 4 ∷
    count_is (with_third 6) 2 1 ∷
    third_is (with_third 5) 2 5 6 ∷
    count_is (with_third 5) 2 0 ∷
    []
