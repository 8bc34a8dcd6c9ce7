-- Lines of a text and fields of a line: document 01, "The table as text"; for all lines of a text docs/HANDBOOK.md, "Replaying calls".
use Rattle.std.specs.Prelude.{ℕ, zero, suc, List, [], ◌∷◌, Bool, true, false, cond, ◌&&◌, ◌||◌, eqb}

-- "each line ends with one byte 10"
abbrev pub line_end : ℕ
line_end = 10

-- "Fields are separated by one space"
abbrev pub space : ℕ
space = 32

-- whether the byte b is in a text
unfoldable pub has : ℕ → List ℕ → Bool
has b [] = false
has b (x ∷ s) = eqb x b || has b s

-- what stands before the first byte b of a text, or all of it where there is none: with byte 10 the first line
unfoldable pub before : ℕ → List ℕ → List ℕ
before b [] = []
before b (x ∷ s) = cond (eqb x b) [] (x ∷ before b s)

-- what stands after the first byte b of a text, or nothing where there is none: with byte 10 "the rest of the text"
unfoldable pub after : ℕ → List ℕ → List ℕ
after b [] = []
after b (x ∷ s) = cond (eqb x b) s (after b s)

-- whether the first line of a text is ended and is what it must be
unfoldable pub first_is : (must : List ℕ → Bool) → List ℕ → Bool
first_is must s = has line_end s && must (before line_end s)

-- whether nothing is left of a text
unfoldable pub is_empty : List ℕ → Bool
is_empty [] = true
is_empty (x ∷ s) = false

-- a byte put before the first of some lines: where no line follows, the byte is in none
unfoldable pub in_first : ℕ → List (List ℕ) → List (List ℕ)
in_first x [] = []
in_first x (l ∷ ls) = (x ∷ l) ∷ ls

-- the lines of a text, each without its byte 10; what stands after the last byte 10 is in none
unfoldable pub lines : List ℕ → List (List ℕ)
lines [] = []
lines (x ∷ s) = cond (eqb x line_end) ([] ∷ lines s) (in_first x (lines s))

-- what stands after the last byte 10, or all of the text where there is none: no line, as it is not ended
unfoldable pub unended : List ℕ → List ℕ
unended [] = []
unended (x ∷ s) = cond (has line_end (x ∷ s)) (unended s) (x ∷ s)

-- how many fields a line has: "separated by one space", so one more than its spaces
unfoldable pub field_count : List ℕ → ℕ
field_count [] = 1
field_count (x ∷ l) = cond (eqb x space) (suc (field_count l)) (field_count l)

-- the fields of a line, counted from 0: empty past the last
unfoldable pub field : ℕ → List ℕ → List ℕ
field zero l = before space l
field (suc k) l = field k (after space l)
