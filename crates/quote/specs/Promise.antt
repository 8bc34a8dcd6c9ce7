-- That what is printed is true: document 02, change 9, "Each answer has to be true of every choice in the ranges", of the lines of quote.
use Rattle.std.specs.Prelude.{ℕ, ◌≤◌, ◌≡◌, List, ◌∷◌, ◌++◌, Ok}
use Rattle.text.specs.Lines.{space}
use Rattle.text.specs.Number.{decimal_text}
use Rattle.tasks.specs.Limits.{max_cores}
use Rattle.ranges.specs.declared.table.RangedTable.{RangedTable}
use Rattle.ranges.specs.declared.Quote.{Quote}
use Rattle.ranges.specs.Quote.{quote_values_of}
use Rattle.ranges.specs.Promise.{Says}
use Rattle.quote.specs.Reading.{reading}
use Rattle.quote.specs.Printed.{answer_word, quote_line}

-- the line of m cores has the word of an answer that is no refusal and is true of every table within the ranges
pub record TrueLine (r : RangedTable) (m : ℕ) : Type 0 where
  pub answer : Quote
  pub line_is : quote_line r m ≡ decimal_text m ++ space ∷ answer_word (quote_values_of (Ok answer))
  pub is_true : Says (Ok answer) r m

-- so it is of each line that is printed for ranges that were read
unfoldable pub PrintedTrue : Type 0
PrintedTrue = (s : List ℕ) (r : RangedTable) (m : ℕ) → reading s ≡ Ok r → 1 ≤ m → m ≤ max_cores → TrueLine r m
