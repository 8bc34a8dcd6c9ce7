-- The search for a line that is one word, in a text with another put after it. Others cite: `found_more`, that what is found in the first one is found in
-- both; `missing_late`, that what is missing in the first one is found in both only where that ends, or later; and `missing_line`, the number of a line that
-- is missing.
use Prim.Native.Nat.{ℕ, ◌+◌, ◌≤◌}
use native.Mathlib.Omega.{arith}
use mathlib.Core.Path.{◌≡◌, sym, ap}
use mathlib.Core.Bool.{false}
use mathlib.Core.List.{List, [], ◌∷◌, ◌++◌}
use Rattle.std.specs.Prelude.{Result, Ok, Err}
use lib.ListN.{length, length-append}
use Rattle.laws.proofs.CaseSplits.{by_test, by_cond, clash}
use Rattle.text.specs.Lines.{line_end, has, before, after, lines, unended}
use Rattle.text.specs.Words.{same_bytes}
use Rattle.text.proofs.LineLaws.{lines_more, lines_none, total}
use Rattle.text.proofs.WordLaws.{same_is}
use Rattle.text.proofs.Appended.{before_more, lines_append, unended_free, lines_length}
use Rattle.script.specs.WordLine.{word_line_from, word_line}
use Rattle.script.specs.declared.word_line.WordLine.{WordLine}

-- what is found is not missing, and nothing else is found
not_missing : {A : Type 0} (w : WordLine) (m : ℕ) → ◌≡◌ {A = Result WordLine ℕ} (Ok w) (Err m) → A
not_missing w m e = clash cc

same_place : (w w' : WordLine) → ◌≡◌ {A = Result WordLine ℕ} (Ok w) (Ok w') → w.start ≡ w'.start
same_place w w' e = let q : w ≡ w' = cc in ap (λ (x : WordLine). x.start) q

module _ (word : List ℕ) where
  -- some lines, and more after them
  found_front :
      (place n : ℕ) (ls more : List (List ℕ)) (w : WordLine) → word_line_from word place n ls ≡ Ok w
      → word_line_from word place n (ls ++ more) ≡ Ok w
  unfolding word_line_from
  found_front place n [] more w e = clash cc
  found_front place n (x ∷ ls) more w e =
      by_test (same_bytes x word)
      (λ b. rw b (rw b at e))
      (λ b. rw b (found_front (place + length x + 1) (n + 1) ls more w (rw b at e)))

  missing_front :
      (place n : ℕ) (ls more : List (List ℕ)) (m : ℕ) → word_line_from word place n ls ≡ Err m
      → word_line_from word place n (ls ++ more) ≡ word_line_from word (place + total ls) m more
  unfolding word_line_from total
  missing_front place n [] more m e =
      let q : n ≡ m = cc in
      let z : place + 0 ≡ place = omega arith in
      rw (q, z)
  missing_front place n (x ∷ ls) more m e =
      let z : place + (length x + 1 + total ls) ≡ place + length x + 1 + total ls = omega arith in
      by_test (same_bytes x word)
      (λ b. not_missing _ m (rw b at e))
      (λ b. rw (b, z) (missing_front (place + length x + 1) (n + 1) ls more m (rw b at e)))

  missing_from : (place n : ℕ) (ls : List (List ℕ)) (m : ℕ) → word_line_from word place n ls ≡ Err m → n ≤ m
  unfolding word_line_from
  missing_from place n [] m = λ e. let q : n ≡ m = cc in omega arith
  missing_from place n (x ∷ ls) m =
      by_cond (λ r. r ≡ Err m → n ≤ m) (same_bytes x word)
      (λ b e. clash cc)
      (λ b e. omega (arith, missing_from (place + length x + 1) (n + 1) ls m e))

  -- what is found stands where the lines begin, or after it
  found_from : (place n : ℕ) (ls : List (List ℕ)) (w : WordLine) → word_line_from word place n ls ≡ Ok w → place ≤ w.start
  unfolding word_line_from
  found_from place n [] w = λ e. clash cc
  found_from place n (x ∷ ls) w =
      by_cond (λ r. r ≡ Ok w → place ≤ w.start) (same_bytes x word)
      (λ b e. omega (arith, same_place _ w e))
      (λ b e. omega (arith, found_from (place + length x + 1) (n + 1) ls w e))

  -- a text whose first line begins with u: it is the word, and then u is no longer, or the word is found after it
  found_late :
      (u s : List ℕ) → has line_end u ≡ false → (place n : ℕ) (w : WordLine) → word_line_from word place n (lines (u ++ s)) ≡ Ok w
      → place + length u ≤ w.start + length word
  unfolding word_line_from
  found_late u s free place n w e =
      let line = before line_end (u ++ s) in
      let rest = lines (after line_end (u ++ s)) in
      let whole : length line ≡ length (u ++ before line_end s) = ap length (before_more line_end u s free) in
      let long : length u ≤ length line = omega (arith, length-append u (before line_end s)) in
      by_test (has line_end (u ++ s))
      (λ h.
      by_cond (λ r. r ≡ Ok w → place + length u ≤ w.start + length word) (same_bytes line word)
      (λ b e. omega (arith, same_place _ w e, ap length (same_is line word b)))
      (λ b e. omega (arith, found_from (place + length line + 1) (n + 1) rest w e))
      (rw (lines_more (u ++ s) h) at e))
      (λ h. not_missing w n (sym (rw (lines_none (u ++ s) h) at e)))

  module _ (s rest : List ℕ) where
    pub found_more : (w : WordLine) → word_line word s ≡ Ok w → word_line word (s ++ rest) ≡ Ok w
    unfolding word_line
    found_more w e = rw (lines_append s rest) (found_front 0 2 (lines s) (lines (unended s ++ rest)) w e)

    pub missing_late :
        (m : ℕ) (w : WordLine) → word_line word s ≡ Err m → word_line word (s ++ rest) ≡ Ok w → length s ≤ w.start + length word
    unfolding word_line
    missing_late m w e f =
        let g = rw (lines_append s rest, missing_front 0 2 (lines s) (lines (unended s ++ rest)) m e) at f in
        omega (arith, found_late (unended s) rest (unended_free s) (0 + total (lines s)) m w g, lines_length s)

  pub missing_line : (s : List ℕ) (m : ℕ) → word_line word s ≡ Err m → 2 ≤ m
  unfolding word_line
  missing_line s m e = missing_from 0 2 (lines s) m e
