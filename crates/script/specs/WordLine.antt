-- Where a line that is one word stands (docs/HANDBOOK.md): after it the calls of a script, "a line `CALLS`", or a log, "a line `LOG`".
use Rattle.std.specs.Prelude.{ℕ, ◌+◌, List, [], ◌∷◌, cond, length, Result, Ok, Err}
use Rattle.text.specs.Lines.{lines}
use Rattle.text.specs.Words.{same_bytes}
use Rattle.script.specs.declared.word_line.WordLine.{WordLine}

-- where the first line that is the word stands among lines of which the first has the number n and begins at a place: what stands before it ends there,
-- what follows it starts after it, and the first line of that has the number after. Where no line is the word, it was expected on the line after the last
unfoldable pub word_line_from : (word : List ℕ) → (place n : ℕ) → List (List ℕ) → Result WordLine ℕ
word_line_from word place n [] = Err n
word_line_from word place n (l ∷ ls) =
    let next = place + length l + 1 in
    cond (same_bytes l word) (Ok (record { start = place; next = next; line = n + 1 })) (word_line_from word next (n + 1) ls)

-- the same in the text after the input's first line
unfoldable pub word_line : (word : List ℕ) → List ℕ → Result WordLine ℕ
word_line word s = word_line_from word 0 2 (lines s)
