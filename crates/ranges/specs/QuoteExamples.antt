-- Worked examples of document 02's change 9, as entries of a list of computed tests: `all_true` of crate laws is the test, and the theorem stands in
-- proofs/QuoteExamplesHold.antt. Ranged tasks are written least and most period, least and most budget, deadline.
use Rattle.std.specs.Prelude.{ℕ, Bool, true, not, ◌&&◌, List, [], ◌∷◌, Ok, set, replicate}
use Rattle.std.specs.Bool.{beq}
use Rattle.tasks.specs.Outcome.{is_done}
use Rattle.tasks.specs.Written.{task}
use Rattle.judge.specs.SlackExamples.{slack_is, is_refusal}
use Rattle.ranges.specs.declared.task.RangedTask.{RangedTask}
use Rattle.ranges.specs.declared.table.RangedTable.{RangedTable}
use Rattle.ranges.specs.declared.Quote.{Quote}
use Rattle.ranges.specs.declared.Quote.TheVariants.{All, Some, None}
use Rattle.ranges.specs.Ranges.{empty_ranges}
use Rattle.ranges.specs.Quote.{QuoteValues, quote_values_of, quoted}
use Rattle.ranges.specs.Written.{ranged, fixed, ranges_of}

-- two quotes that were given say the same
unfoldable pub same_quote : QuoteValues → QuoteValues → Bool
same_quote v w = is_done v.outcome && is_done w.outcome && beq v.every w.every && beq v.any w.any

-- the quote of these ranges on so many cores is this answer
unfoldable pub quote_on : RangedTable → (cores : ℕ) → Quote → Bool
quote_on r cores answer = same_quote (quoted r cores) (quote_values_of (Ok answer))

-- the same of the ranged table of these tasks
unfoldable pub quote_is : List RangedTask → (cores : ℕ) → Quote → Bool
quote_is tasks cores answer = quote_on (ranges_of tasks) cores answer

-- it is refused with this number and place, and says of no table that it is admitted
unfoldable pub quote_refused_on : RangedTable → (cores number place : ℕ) → Bool
quote_refused_on r cores number place =
    let quote = quoted r cores in
    is_refusal quote.outcome number place && not quote.every && not quote.any

-- the same of the ranged table of these tasks
unfoldable pub quote_refused_is : List RangedTask → (cores number place : ℕ) → Bool
quote_refused_is tasks cores number place = quote_refused_on (ranges_of tasks) cores number place

-- document 01's table, the third budget 5 to 8 and the third period 8 to 10
unfoldable pub third_ranged : List RangedTask
third_ranged = fixed 4 1 4 ∷ fixed 6 2 5 ∷ ranged 8 10 5 8 8 ∷ []

-- the handbook's ranges
unfoldable pub handbook_ranges : List RangedTask
handbook_ranges = ranged 4 8 1 2 4 ∷ fixed 6 2 5 ∷ ranged 8 10 5 8 8 ∷ []

-- quotes, and refusals in their order
unfoldable pub quote_examples : List Bool
quote_examples =
    -- a task 3, 1, 3 (T, C, D) and one with C 1 and D 1 whose period is 1 to 3
    quote_is (fixed 3 1 3 ∷ ranged 1 3 1 1 1 ∷ []) 1 Some ∷
    quote_is (fixed 3 1 3 ∷ ranged 1 3 1 1 1 ∷ []) 2 All ∷
    -- its ends: the period 3 is one that is admitted on 1 core, and 2 is one that is not
    quote_is (fixed 3 1 3 ∷ fixed 3 1 1 ∷ []) 1 All ∷
    quote_is (fixed 3 1 3 ∷ ranged 1 2 1 1 1 ∷ []) 1 None ∷
    quote_is third_ranged 1 None ∷
    quote_is third_ranged 2 All ∷
    quote_is third_ranged 16 All ∷
    quote_is handbook_ranges 1 None ∷
    quote_is handbook_ranges 2 Some ∷
    quote_is handbook_ranges 3 All ∷
    -- ranges of one value each: document 01's table
    quote_is (fixed 4 1 4 ∷ fixed 6 2 5 ∷ fixed 10 6 8 ∷ []) 1 None ∷
    quote_is (fixed 4 1 4 ∷ fixed 6 2 5 ∷ fixed 10 6 8 ∷ []) 2 All ∷
    -- none is the window test's: the slack test admits the one table within, document 002's four tasks
    quote_is (fixed 2 1 2 ∷ fixed 2 1 2 ∷ fixed 7 1 7 ∷ fixed 8 3 8 ∷ []) 2 None ∷
    slack_is (task 2 1 2 ∷ task 2 1 2 ∷ task 7 1 7 ∷ task 8 3 8 ∷ []) 2 3 true ∷
    -- 32 tasks
    quote_is (replicate 32 (ranged 9 9 1 2 9)) 3 None ∷
    quote_is (replicate 32 (ranged 9 9 1 2 9)) 4 Some ∷
    -- the widest ranges of a deadline
    quote_is (ranged 1 1_000_000 1 1 1 ∷ ranged 1_000_000 1_000_000 1 1_000_000 1_000_000 ∷ []) 1 Some ∷
    -- entries past the count play no part
    quote_on (record { count = 1; tasks = set (ranges_of (fixed 5 5 5 ∷ [])).tasks 1 (ranged 9 1 9 1 0) }) 1 All ∷
    -- 3 and 6, also before 7
    quote_refused_on (record { count = 33; tasks = (ranges_of (fixed 5 5 5 ∷ [])).tasks }) 1 3 33 ∷
    quote_refused_on (record { count = 40; tasks = (ranges_of (fixed 5 5 5 ∷ [])).tasks }) 17 3 33 ∷
    quote_refused_on empty_ranges 1 6 0 ∷
    quote_refused_on empty_ranges 17 6 0 ∷
    -- 16 of a period and of a budget, and in one task before its 5
    quote_refused_is (fixed 5 5 5 ∷ ranged 6 5 1 1 5 ∷ []) 1 16 2 ∷
    quote_refused_is (fixed 5 5 5 ∷ ranged 5 5 2 1 5 ∷ []) 1 16 2 ∷
    quote_refused_is (ranged 5 4 6 0 5 ∷ []) 1 16 1 ∷
    -- 5 at the dearest corner alone: a budget above the deadline, a period below it
    quote_refused_is (fixed 5 5 5 ∷ ranged 5 9 1 6 5 ∷ []) 1 5 2 ∷
    quote_refused_is (fixed 5 5 5 ∷ ranged 4 9 1 5 5 ∷ []) 1 5 2 ∷
    -- at the cheapest corner alone: a budget of 0, a period above the limit
    quote_refused_is (fixed 5 5 5 ∷ ranged 5 9 0 5 5 ∷ []) 1 5 2 ∷
    quote_refused_is (fixed 5 5 5 ∷ ranged 5 1_000_001 1 5 5 ∷ []) 1 5 2 ∷
    -- task by task: the first task's 5 before the second one's 16, and the other way round
    quote_refused_is (ranged 5 9 0 5 5 ∷ ranged 6 5 1 1 5 ∷ []) 1 5 1 ∷
    quote_refused_is (ranged 6 5 1 1 5 ∷ ranged 5 9 0 5 5 ∷ []) 1 16 1 ∷
    -- 5 and 16 before 7, and 7
    quote_refused_is (ranged 5 9 0 5 5 ∷ []) 0 5 1 ∷
    quote_refused_is (ranged 6 5 1 1 5 ∷ []) 17 16 1 ∷
    quote_refused_is (fixed 5 5 5 ∷ []) 0 7 0 ∷
    quote_refused_is (fixed 5 5 5 ∷ []) 17 7 0 ∷
    []
