-- The words of an audit's input and output that are in no log, no table and no call.
use Rattle.std.specs.Prelude.{ℕ, List, [], ◌∷◌}

-- "LOG", a line of its own
abbrev pub log_word : List ℕ
log_word = 76 ∷ 79 ∷ 71 ∷ []

-- "ACCEPTED", a line of its own
abbrev pub accepted_word : List ℕ
accepted_word = 65 ∷ 67 ∷ 67 ∷ 69 ∷ 80 ∷ 84 ∷ 69 ∷ 68 ∷ []

-- "OFFENDS" with its space, before n
abbrev pub offends_word : List ℕ
offends_word = 79 ∷ 70 ∷ 70 ∷ 69 ∷ 78 ∷ 68 ∷ 83 ∷ 32 ∷ []
