-- The words of a machine's lines.
use Rattle.std.specs.Prelude.{ℕ, List, [], ◌∷◌}

-- "MACHINE" with its space, before count and cores
abbrev pub machine_word : List ℕ
machine_word = 77 ∷ 65 ∷ 67 ∷ 72 ∷ 73 ∷ 78 ∷ 69 ∷ 32 ∷ []

-- "NONE", a line of its own
abbrev pub none_word : List ℕ
none_word = 78 ∷ 79 ∷ 78 ∷ 69 ∷ []

-- "HELD" with its space, before T C D
abbrev pub held_word : List ℕ
held_word = 72 ∷ 69 ∷ 76 ∷ 68 ∷ 32 ∷ []
