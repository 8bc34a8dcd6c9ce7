-- The word of a script that is in no call and no table, beside CORES, which stands in script.
use Rattle.std.specs.Prelude.{ℕ, List, [], ◌∷◌}

-- "CALLS", a line of its own
abbrev pub calls_word : List ℕ
calls_word = 67 ∷ 65 ∷ 76 ∷ 76 ∷ 83 ∷ []
