-- The names line: document 01, "The table as text".
use Rattle.std.specs.Prelude.{ℕ, List, [], ◌∷◌, Bool, cond, ◌&&◌, eqb, ltb}
use Rattle.text.specs.Lines.{first_is, field, field_count}
use Rattle.text.specs.Words.{same_bytes}
use Rattle.reader.specs.declared.names.Columns.{Columns}

-- the bytes of "PERIOD": "First a line with the names PERIOD, BUDGET and DEADLINE in any order"
abbrev pub period_name : List ℕ
period_name = 80 ∷ 69 ∷ 82 ∷ 73 ∷ 79 ∷ 68 ∷ []

-- the bytes of "BUDGET"
abbrev pub budget_name : List ℕ
budget_name = 66 ∷ 85 ∷ 68 ∷ 71 ∷ 69 ∷ 84 ∷ []

-- the bytes of "DEADLINE"
abbrev pub deadline_name : List ℕ
deadline_name = 68 ∷ 69 ∷ 65 ∷ 68 ∷ 76 ∷ 73 ∷ 78 ∷ 69 ∷ []

-- which of three fields, from 0, is the name; 3 where none is
unfoldable pub column_in : List ℕ → List ℕ → List ℕ → List ℕ → ℕ
column_in name first second third = cond (same_bytes first name) 0 (cond (same_bytes second name) 1 (cond (same_bytes third name) 2 3))

-- which of three fields is each name
unfoldable pub columns_in : List ℕ → List ℕ → List ℕ → Columns
columns_in first second third =
    record {
      period = column_in period_name first second third;
      budget = column_in budget_name first second third;
      deadline = column_in deadline_name first second third;
    }

-- whether each name is one of the three fields
unfoldable pub each_named : Columns → Bool
each_named c = ltb c.period 3 && ltb c.budget 3 && ltb c.deadline 3

-- the columns of a names line
unfoldable pub columns_of : List ℕ → Columns
columns_of l = columns_in (field 0 l) (field 1 l) (field 2 l)

-- whether a line has three fields, and each name is one of them: so "the three names once each"
unfoldable pub three_names : List ℕ → Bool
three_names l = eqb (field_count l) 3 && each_named (columns_of l)

-- whether a text begins with a names line, which is ended: else "2. The names line is missing, is not ended, or is not the three names once each."
unfoldable pub begins_with_names : List ℕ → Bool
begins_with_names s = first_is three_names s
