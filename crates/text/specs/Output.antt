-- A text put together in an array, one part after the other, and lines of numbers (document 01, "The table as text").
use Rattle.std.specs.Prelude.{ℕ, ◌+◌, min, max, ◌≡◌, List, [], ◌∷◌, ◌++◌, length, take, replicate}
use Rattle.std.proofs.lemmas.List.Edits.{sets}
use Rattle.text.specs.Lines.{line_end, space}
use Rattle.text.specs.Number.{decimal_text}
use Rattle.text.specs.declared.output.Output.{Output}

-- an array whose bytes from a place on are those of a text, as far as there is room: a byte stored past the end changes nothing
unfoldable pub overwritten : (array : List ℕ) (place : ℕ) (text : List ℕ) → List ℕ
overwritten array place text = sets array place text

-- how many bytes of an array are used, once so many more were put. Above the array's size it marks that some had no room: one more than the size,
-- or what it was where it was above the size already; and so it stays whatever is put later
unfoldable pub used_after : (size used more : ℕ) → ℕ
used_after size used more = min (used + more) (max used (size + 1))

-- what putting a text after the first `used` bytes does to an array, and what it answers
pub record PutAt (before : List ℕ) (used : ℕ) (text after : List ℕ) (r : ℕ) : Type 0 where
  pub array : after ≡ overwritten before used text
  pub count : r ≡ used_after (length before) used (length text)

-- an output of N bytes in which nothing was put yet
unfoldable pub fresh : (N : ℕ) → Output N
fresh N = record { bytes = replicate N 0; used = 0 }

-- an output after a text was put in it
unfoldable pub put : {N : ℕ} → Output N → (text : List ℕ) → Output N
put o text = record { bytes = overwritten o.bytes o.used text; used = used_after (length o.bytes) o.used (length text) }

-- what was put in an output is the text, and all of it had room
pub record Holds {N : ℕ} (text : List ℕ) (output : Output N) : Type 0 where
  pub holds : take output.used output.bytes ≡ text
  pub count : output.used ≡ length text

-- the numbers of a line after its first: a space before each, and byte 10 after the last
unfoldable pub further_numbers : List ℕ → List ℕ
further_numbers [] = line_end ∷ []
further_numbers (n ∷ ns) = space ∷ decimal_text n ++ further_numbers ns

-- a line of numbers, with a space between them as in document 01's examples; "Each printed line ends with byte 10"
unfoldable pub numbers_line : List ℕ → List ℕ
numbers_line [] = line_end ∷ []
numbers_line (n ∷ ns) = decimal_text n ++ further_numbers ns

-- the bytes of "REFUSED" and a space: "A refused table prints `REFUSED`, a space and the refusal number"
abbrev pub refused_word : List ℕ
refused_word = 82 ∷ 69 ∷ 70 ∷ 85 ∷ 83 ∷ 69 ∷ 68 ∷ 32 ∷ []

-- the line that tells a refusal number
unfoldable pub refused_line : (number : ℕ) → List ℕ
refused_line number = refused_word ++ numbers_line (number ∷ [])
