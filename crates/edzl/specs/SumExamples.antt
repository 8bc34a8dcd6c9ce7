-- Examples of large sums, for document 02's change 7, as entries of a list of computed tests: `all_true` of crate laws is the test, and the theorem stands in
-- proofs/SumExamplesHold.antt. Tasks are written T, C, D. A task 1,000,000, 1, 1,000,000 has the spare 999,999, the largest of all, and on 16 cores its sum is
-- compared with 15,999,984; a task 1, 1, 1 adds 999,999 to it, which is as much as a task can.
use Rattle.std.specs.Prelude.{ℕ, Bool, true, false, List, [], ◌∷◌, eqb, replicate}
use Rattle.edzl.specs.Window.{no_slack, window_sum, count_urgent}
use Rattle.edzl.specs.SlackExamples.{TaskNumbers, plain_task, set_of, plain_slack_is}

-- the sum of the first task in the window test
unfoldable pub first_sum_is : List TaskNumbers → (sum : ℕ) → Bool
first_sum_is tasks sum = eqb (window_sum (set_of tasks) no_slack 0) sum

-- COUNT of the window test
unfoldable pub count_is : List TaskNumbers → (m count : ℕ) → Bool
count_is tasks m count = eqb (count_urgent (set_of tasks) no_slack m) count

-- a task 1,000,000, 1, 1,000,000 with n tasks 1, 1, 1
unfoldable pub long_with : (n : ℕ) → List TaskNumbers
long_with n = plain_task 1_000_000 1 1_000_000 ∷ replicate n (plain_task 1 1 1)

-- the long task with 15 of them, and a task that adds 999,998
unfoldable pub one_below : List TaskNumbers
one_below = plain_task 1_000_000 1 1_000_000 ∷ plain_task 1_000_000 999_998 999_998 ∷ replicate 15 (plain_task 1 1 1)

-- the long task with 16 of them, and a task that adds 1
unfoldable pub one_above : List TaskNumbers
one_above = plain_task 1_000_000 1 1_000_000 ∷ plain_task 1_000_000 1 1 ∷ replicate 16 (plain_task 1 1 1)

-- sums below m·A_k of the first task, at it and above it, and the largest
unfoldable pub sum_examples : List Bool
sum_examples =
    -- 15 tasks 1, 1, 1: below m·A
    first_sum_is (long_with 15) 14_999_985 ∷
    count_is (long_with 15) 16 15 ∷
    plain_slack_is (long_with 15) 16 2 true ∷
    -- one below it
    first_sum_is one_below 15_999_983 ∷
    count_is one_below 16 16 ∷
    plain_slack_is one_below 16 2 true ∷
    -- 16: at it
    first_sum_is (long_with 16) 15_999_984 ∷
    count_is (long_with 16) 16 17 ∷
    plain_slack_is (long_with 16) 16 1 false ∷
    -- one above it
    first_sum_is one_above 15_999_985 ∷
    count_is one_above 16 18 ∷
    plain_slack_is one_above 16 1 false ∷
    -- 31: the largest sum
    first_sum_is (long_with 31) 30_999_969 ∷
    count_is (long_with 31) 16 32 ∷
    plain_slack_is (long_with 31) 16 1 false ∷
    []
