-- What is printed for a text: docs/HANDBOOK.md, "Quotes over ranges".
use Rattle.std.specs.Prelude.{ℕ, min, cond, List, [], ◌∷◌, ◌++◌, Result, Ok, Err}
use Rattle.text.specs.Lines.{line_end, space}
use Rattle.text.specs.Number.{decimal_text}
use Rattle.text.specs.Output.{refused_line}
use Rattle.tasks.specs.Limits.{max_cores}
use Rattle.tasks.specs.Refusals.{number_of}
use Rattle.tasks.specs.declared.refusals.Refusal.{Refusal}
use Rattle.lines.specs.Printed.{lines_up_to}
use Rattle.ranges.specs.declared.table.RangedTable.{RangedTable}
use Rattle.ranges.specs.Quote.{QuoteValues, quoted}
use Rattle.quote.specs.Reading.{reading}

-- "the line `CORES ANSWER`", with its byte 10
unfoldable pub header : List ℕ
header = 67 ∷ 79 ∷ 82 ∷ 69 ∷ 83 ∷ 32 ∷ 65 ∷ 78 ∷ 83 ∷ 87 ∷ 69 ∷ 82 ∷ line_end ∷ []

-- "ALL" and byte 10
abbrev pub all_word : List ℕ
all_word = 65 ∷ 76 ∷ 76 ∷ line_end ∷ []

-- "SOME" and byte 10
abbrev pub some_word : List ℕ
some_word = 83 ∷ 79 ∷ 77 ∷ 69 ∷ line_end ∷ []

-- "NONE" and byte 10
abbrev pub none_word : List ℕ
none_word = 78 ∷ 79 ∷ 78 ∷ 69 ∷ line_end ∷ []

-- "ALL, SOME or NONE"
unfoldable pub answer_word : QuoteValues → List ℕ
answer_word v = cond v.every all_word (cond v.any some_word none_word)

-- "a line with m, one space and ALL, SOME or NONE"
unfoldable pub quote_line : RangedTable → (m : ℕ) → List ℕ
quote_line r m = decimal_text m ++ space ∷ answer_word (quoted r m)

-- "then for m = 1 up to the smaller of 16 and the number of tasks a line"; "A refused input prints as in `verdict`: `REFUSED n` alone."
unfoldable pub printed_after : Result RangedTable Refusal → List ℕ
printed_after (Ok r) = header ++ lines_up_to (quote_line r) (min max_cores r.count)
printed_after (Err why) = refused_line (number_of why.reason)

-- what is printed for a text
unfoldable pub printed : List ℕ → List ℕ
printed s = printed_after (reading s)
