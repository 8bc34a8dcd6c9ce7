-- A log of another dispatcher as text: document 02, change 11; lines, fields and numbers as in document 01, "The table as text".
use Rattle.std.specs.Prelude.{ℕ, List, [], ◌∷◌, Bool}
use Rattle.text.specs.Lines.{field}
use Rattle.text.specs.Words.{same_bytes}
use Rattle.text.specs.Number.{decimal}
use Rattle.text.specs.Fields.{are_numbers}
use Rattle.auditing.specs.declared.line.LogLine.{LogLine}

-- the bytes of "RELEASED FINISHED RAN": "Its log has the line", the names in this order
abbrev pub names_line : List ℕ
names_line =
    82 ∷ 69 ∷ 76 ∷ 69 ∷ 65 ∷ 83 ∷ 69 ∷ 68 ∷ 32 ∷ 70 ∷ 73 ∷ 78 ∷ 73 ∷ 83 ∷ 72 ∷ 69 ∷ 68 ∷ 32 ∷ 82 ∷ 65 ∷ 78 ∷ []

-- whether a line, which stands here without its byte 10, is the names line
unfoldable pub is_names_line : List ℕ → Bool
is_names_line l = same_bytes l names_line

-- "in 1 to 10 digits"
abbrev pub value_digits : ℕ
value_digits = 10

-- "a value above 4,294,967,295: number 18"
abbrev pub max_value : ℕ
max_value = 4_294_967_295

-- whether a line is "a line of three values", each "in 1 to 10 digits without a leading zero, spaced .. as in a table"
unfoldable pub is_value_line : List ℕ → Bool
is_value_line l = are_numbers value_digits max_value 3 l

-- the values of such a line
unfoldable pub values_of : List ℕ → LogLine
values_of l = record { released = decimal (field 0 l); finished = decimal (field 1 l); ran = decimal (field 2 l) }
