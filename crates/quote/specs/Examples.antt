-- Texts and what is printed for them, computed: the theorem stands in proofs/ExamplesHold.antt.
use Rattle.std.specs.Prelude.{ℕ, zero, suc, Bool, List, [], ◌∷◌, ◌++◌, replicate, Result, Ok, Err}
use Rattle.laws.specs.Examples.{same_numbers}
use Rattle.text.specs.Lines.{line_end, space}
use Rattle.text.specs.Output.{refused_line}
use Rattle.tasks.specs.Outcome.{Outcome, is_done}
use Rattle.tasks.specs.declared.refusals.Refusal.{Refusal}
use Rattle.ranges.specs.declared.table.RangedTable.{RangedTable}
use Rattle.judge.specs.SlackExamples.{is_refusal}
use Rattle.quote.specs.Names.{range_names}
use Rattle.quote.specs.Reading.{reading}
use Rattle.quote.specs.Printed.{printed}

-- these value lines after the names line
unfoldable pub ranges_text : List ℕ → List ℕ
ranges_text values = range_names ++ line_end ∷ values

-- the values of the handbook's ranges:
--     4 8 1 2 4
--     6 6 2 2 5
--     8 10 5 8 8
unfoldable pub handbook_values : List ℕ
handbook_values =
    52 ∷ 32 ∷ 56 ∷ 32 ∷ 49 ∷ 32 ∷ 50 ∷ 32 ∷ 52 ∷ 10
    ∷ 54 ∷ 32 ∷ 54 ∷ 32 ∷ 50 ∷ 32 ∷ 50 ∷ 32 ∷ 53 ∷ 10
    ∷ 56 ∷ 32 ∷ 49 ∷ 48 ∷ 32 ∷ 53 ∷ 32 ∷ 56 ∷ 32 ∷ 56 ∷ 10 ∷ []

-- what is printed for them:
--     CORES ANSWER
--     1 NONE
--     2 SOME
--     3 ALL
unfoldable pub handbook_output : List ℕ
handbook_output =
    67 ∷ 79 ∷ 82 ∷ 69 ∷ 83 ∷ 32 ∷ 65 ∷ 78 ∷ 83 ∷ 87 ∷ 69 ∷ 82 ∷ 10
    ∷ 49 ∷ 32 ∷ 78 ∷ 79 ∷ 78 ∷ 69 ∷ 10
    ∷ 50 ∷ 32 ∷ 83 ∷ 79 ∷ 77 ∷ 69 ∷ 10
    ∷ 51 ∷ 32 ∷ 65 ∷ 76 ∷ 76 ∷ 10 ∷ []

-- the first task breaks number 5 at its cheapest corner, and the second one's least period is above its most:
--     5 9 0 5 5
--     6 5 1 1 5
unfoldable pub five_then_sixteen : List ℕ
five_then_sixteen =
    53 ∷ 32 ∷ 57 ∷ 32 ∷ 48 ∷ 32 ∷ 53 ∷ 32 ∷ 53 ∷ 10
    ∷ 54 ∷ 32 ∷ 53 ∷ 32 ∷ 49 ∷ 32 ∷ 49 ∷ 32 ∷ 53 ∷ 10 ∷ []

-- a least above its most, which number 5 would refuse too:
--     5 4 6 0 5
unfoldable pub sixteen_before_five : List ℕ
sixteen_before_five = 53 ∷ 32 ∷ 52 ∷ 32 ∷ 54 ∷ 32 ∷ 48 ∷ 32 ∷ 53 ∷ 10 ∷ []

-- the first two names in the other order, and the values of the handbook:
--     MOST_PERIOD LEAST_PERIOD LEAST_BUDGET MOST_BUDGET DEADLINE
unfoldable pub other_order : List ℕ
other_order =
    77 ∷ 79 ∷ 83 ∷ 84 ∷ 95 ∷ 80 ∷ 69 ∷ 82 ∷ 73 ∷ 79 ∷ 68 ∷ 32
    ∷ 76 ∷ 69 ∷ 65 ∷ 83 ∷ 84 ∷ 95 ∷ 80 ∷ 69 ∷ 82 ∷ 73 ∷ 79 ∷ 68 ∷ 32
    ∷ 76 ∷ 69 ∷ 65 ∷ 83 ∷ 84 ∷ 95 ∷ 66 ∷ 85 ∷ 68 ∷ 71 ∷ 69 ∷ 84 ∷ 32
    ∷ 77 ∷ 79 ∷ 83 ∷ 84 ∷ 95 ∷ 66 ∷ 85 ∷ 68 ∷ 71 ∷ 69 ∷ 84 ∷ 32
    ∷ 68 ∷ 69 ∷ 65 ∷ 68 ∷ 76 ∷ 73 ∷ 78 ∷ 69 ∷ 10
    ∷ handbook_values

-- so many value lines
--     1 1 1 1 1
unfoldable pub plain_lines : (n : ℕ) → List ℕ
plain_lines zero = []
plain_lines (suc n) = 49 ∷ 32 ∷ 49 ∷ 32 ∷ 49 ∷ 32 ∷ 49 ∷ 32 ∷ 49 ∷ line_end ∷ plain_lines n

-- one such line, and then
--     2 1 1 1 1
unfoldable pub second_out_of_order : List ℕ
second_out_of_order = plain_lines 1 ++ 50 ∷ 32 ∷ 49 ∷ 32 ∷ 49 ∷ 32 ∷ 49 ∷ 32 ∷ 49 ∷ line_end ∷ []

--     1 1 1 2 1
unfoldable pub second_out_of_range : List ℕ
second_out_of_range = plain_lines 1 ++ 49 ∷ 32 ∷ 49 ∷ 32 ∷ 49 ∷ 32 ∷ 50 ∷ 32 ∷ 49 ∷ line_end ∷ []

--     1 1 1 1
unfoldable pub second_of_four : List ℕ
second_of_four = plain_lines 1 ++ 49 ∷ 32 ∷ 49 ∷ 32 ∷ 49 ∷ 32 ∷ 49 ∷ line_end ∷ []

--     1 1 1 1 1
-- without its byte 10
unfoldable pub second_unended : List ℕ
second_unended = plain_lines 1 ++ 49 ∷ 32 ∷ 49 ∷ 32 ∷ 49 ∷ 32 ∷ 49 ∷ 32 ∷ 49 ∷ []

-- what it says of a reading that it was carried out, or why not
unfoldable pub outcome_of : Result RangedTable Refusal → Outcome
outcome_of (Ok _) = Ok tt
outcome_of (Err why) = Err why

-- the outcome of reading a text
unfoldable pub read_outcome : List ℕ → Outcome
read_outcome text = outcome_of (reading text)

-- reading a text is refused with this number and place
unfoldable pub reading_refused : List ℕ → (number place : ℕ) → Bool
reading_refused text number place = is_refusal (read_outcome text) number place

-- what is printed, and each refusal of a reading with its place
unfoldable pub text_examples : List Bool
text_examples =
    same_numbers (printed (ranges_text handbook_values)) handbook_output ∷
    same_numbers (printed (ranges_text five_then_sixteen)) (refused_line 5) ∷
    same_numbers (printed (ranges_text sixteen_before_five)) (refused_line 16) ∷
    same_numbers (printed other_order) (refused_line 2) ∷
    -- 4,097 spaces, and no more than 4,096
    reading_refused (replicate 4_097 space) 1 0 ∷
    reading_refused (replicate 4_096 space) 2 0 ∷
    -- an empty text, and a names line that is not ended
    reading_refused [] 2 0 ∷
    reading_refused range_names 2 0 ∷
    -- 32 value lines, and one byte more
    is_done (read_outcome (ranges_text (plain_lines 32))) ∷
    reading_refused (ranges_text (plain_lines 32 ++ space ∷ [])) 3 33 ∷
    reading_refused (ranges_text second_of_four) 4 2 ∷
    reading_refused (ranges_text second_unended) 4 2 ∷
    reading_refused (ranges_text second_out_of_order) 16 2 ∷
    reading_refused (ranges_text second_out_of_range) 5 2 ∷
    reading_refused (ranges_text []) 6 0 ∷
    []
