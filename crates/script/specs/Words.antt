-- The words of calls and of what is printed for them, but for `REFUSED`, which stands in text.
use Rattle.std.specs.Prelude.{ℕ, List, [], ◌∷◌}

-- "CORES" with its space, before m
abbrev pub cores_word : List ℕ
cores_word = 67 ∷ 79 ∷ 82 ∷ 69 ∷ 83 ∷ 32 ∷ []

-- "RELEASE" with its space, before i e
abbrev pub release_word : List ℕ
release_word = 82 ∷ 69 ∷ 76 ∷ 69 ∷ 65 ∷ 83 ∷ 69 ∷ 32 ∷ []

-- "FINISH" with its space, before i
abbrev pub finish_word : List ℕ
finish_word = 70 ∷ 73 ∷ 78 ∷ 73 ∷ 83 ∷ 72 ∷ 32 ∷ []

-- "OFFER" with its space, before T C D
abbrev pub offer_word : List ℕ
offer_word = 79 ∷ 70 ∷ 70 ∷ 69 ∷ 82 ∷ 32 ∷ []

-- "COMMIT", a line of its own
abbrev pub commit_word : List ℕ
commit_word = 67 ∷ 79 ∷ 77 ∷ 77 ∷ 73 ∷ 84 ∷ []

-- "SLOT" with its space, before k
abbrev pub slot_word : List ℕ
slot_word = 83 ∷ 76 ∷ 79 ∷ 84 ∷ 32 ∷ []

-- "DONE", a line of its own
abbrev pub done_word : List ℕ
done_word = 68 ∷ 79 ∷ 78 ∷ 69 ∷ []

-- "BAD LINE" with its space, before n
abbrev pub bad_line_word : List ℕ
bad_line_word = 66 ∷ 65 ∷ 68 ∷ 32 ∷ 76 ∷ 73 ∷ 78 ∷ 69 ∷ 32 ∷ []
