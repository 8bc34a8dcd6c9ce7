-- The names line of ranges: docs/HANDBOOK.md, "Quotes over ranges".
use Rattle.std.specs.Prelude.{ℕ, List, [], ◌∷◌, ◌++◌}
use Rattle.text.specs.Lines.{space}
use Rattle.reader.specs.Names.{period_name, budget_name, deadline_name}

-- the bytes of "LEAST_"
abbrev pub least_prefix : List ℕ
least_prefix = 76 ∷ 69 ∷ 65 ∷ 83 ∷ 84 ∷ 95 ∷ []

-- the bytes of "MOST_"
abbrev pub most_prefix : List ℕ
most_prefix = 77 ∷ 79 ∷ 83 ∷ 84 ∷ 95 ∷ []

-- "LEAST_PERIOD MOST_PERIOD LEAST_BUDGET MOST_BUDGET DEADLINE": "the five names as above, in that order"
abbrev pub range_names : List ℕ
range_names =
    least_prefix ++ period_name ++ space ∷ most_prefix ++ period_name
    ++ space ∷ least_prefix ++ budget_name ++ space ∷ most_prefix ++ budget_name
    ++ space ∷ deadline_name
