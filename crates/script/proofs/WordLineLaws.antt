-- The search for a line that is one word. Others cite `Looking`, the state between two lines, with `looking_none` and `looking_more`; what the search gives where
-- it stops: `looked_all`, `not_ended_lem` and `looked_here`; `line_fits`, that a line lies within the text; and `found_within` with `Within`, where the line is
-- found.
use Prim.Native.Nat.{ℕ, ◌+◌, ◌≤◌, ◌<◌}
use native.Mathlib.Omega.{arith}
use mathlib.Core.Path.{◌≡◌, refl, sym, ap, subst, ◌∙◌}
use mathlib.Core.Bool.{true, false, cond}
use mathlib.Core.List.{List, [], ◌∷◌}
use Rattle.std.specs.Prelude.{Ok, Err}
use lib.ListN.{length, take, drop, drop_of_length-le}
use lib.Seq.{drop-drop}
use Rattle.laws.proofs.CaseSplits.{by_cond, clash}
use Rattle.laws.proofs.Parts.{from, from_drop, from_length}
use Rattle.text.specs.Lines.{line_end, has, before, after, lines}
use Rattle.text.specs.Words.{same_bytes}
use Rattle.text.proofs.Split.{Cut, cut, hasnt_of}
use Rattle.text.proofs.LineLaws.{lines_more, lines_none, total, total_lines}
use Rattle.script.specs.WordLine.{word_line_from, word_line}
use Rattle.script.specs.declared.word_line.WordLine.{WordLine}

-- the word is none of the lines before a place, where the line n begins
pub record Looking (word s : List ℕ) (place n : ℕ) : Type 0 where
  pub within : place ≤ length s
  pub few : n ≤ place + 2
  pub left : word_line word s ≡ word_line_from word place n (lines (drop place s))

pub looking_none : (word s : List ℕ) → Looking word s 0 2
unfolding word_line
looking_none word s = record { within = omega arith; few = omega arith; left = refl }

module _ (word s : List ℕ) (place n : ℕ) (p : Looking word s place n) where
  -- nothing is left of the text
  pub looked_all : length s ≤ place → Err n ≡ word_line word s
  unfolding word_line_from lines
  looked_all h = sym (p.left ∙ rw (drop_of_length-le s h))

  -- the next byte 10 of what is left
  module _ (r : ℕ) (e : r ≡ length (before line_end (from s place))) where
    pub not_ended_lem : length (from s place) ≤ r → Err n ≡ word_line word s
    unfolding word_line_from
    not_ended_lem h =
        let z : has line_end (from s place) ≡ false = hasnt_of line_end (from s place) (rw e at h) in
        sym (p.left ∙ rw (lines_none (drop place s) (rw (from_drop s place) at z)))

    module _ (h : r < length (from s place)) where
      pub line_fits : place + r + 1 ≤ length s
      line_fits = omega (arith, from_length s place)

      line : Cut line_end (drop place s) r
      line = cut line_end (drop place s) r (rw (from_drop s place) at e) (rw (from_drop s place) at h)

      rest : after line_end (drop place s) ≡ drop (place + r + 1) s
      rest =
          let q : place + r + 1 ≡ place + (r + 1) = omega arith in
          sym line.rest ∙ from_drop (drop place s) (r + 1) ∙ rw q (drop-drop (r + 1) place s)

      next_line :
          word_line word s
          ≡ cond (same_bytes (take r (from s place)) word) (Ok (record { start = place; next = place + r + 1; line = n + 1 }))
          (word_line_from word (place + r + 1) (n + 1) (lines (drop (place + r + 1) s)))
      unfolding word_line_from
      next_line =
          p.left
          ∙ rw (lines_more (drop place s) line.is, rest, ← line.front, from_drop s place)
          (rw (ap length line.front ∙ ap (λ (t : List ℕ). length (before line_end t)) (sym (from_drop s place)) ∙ sym e))

      pub looked_here : same_bytes (take r (from s place)) word ≡ true → Ok (record { start = place; next = place + r + 1; line = n + 1 }) ≡ word_line word s
      looked_here t = sym (next_line ∙ rw t)

      pub looking_more : same_bytes (take r (from s place)) word ≡ false → Looking word s (place + r + 1) (n + 1)
      looking_more t = record { within = line_fits; few = omega (arith, p.few); left = next_line ∙ rw t }

-- where the word is found among some lines: all within a text of n bytes
pub record Within (n : ℕ) (w : WordLine) : Type 0 where
  pub ends : w.start ≤ n
  pub starts : w.next ≤ n
  pub few : w.line ≤ n + 3

found_from :
    (word : List ℕ) (place n : ℕ) (ls : List (List ℕ)) (w : WordLine) → word_line_from word place n ls ≡ Ok w → n ≤ place + 2 → Within (place + total ls) w
unfolding word_line_from total
found_from word place n [] w e h = clash cc
found_from word place n (x ∷ ls) w e h =
    by_cond (λ r. r ≡ Ok w → Within (place + (length x + 1 + total ls)) w) (same_bytes x word)
    (λ b e.
    let q : record { start = place; next = place + length x + 1; line = n + 1 } ≡ w = cc in
    subst (Within _) q (record { ends = omega arith; starts = omega arith; few = omega arith }))
    (λ b e.
    let later = found_from word (place + length x + 1) (n + 1) ls w e (omega arith) in
    record { ends = omega (arith, later.ends); starts = omega (arith, later.starts); few = omega (arith, later.few) })
    e

pub found_within : (word s : List ℕ) (w : WordLine) → word_line word s ≡ Ok w → Within (length s) w
unfolding word_line
found_within word s w e =
    let found = found_from word 0 2 (lines s) w e (omega arith) in
    let m = total_lines s in
    record { ends = omega (arith, found.ends); starts = omega (arith, found.starts); few = omega (arith, found.few) }
