-- Lines of so many numbers. Others cite: `no_numbers`, `first_none`, `first_only` and `first_then`, whether a line is so many numbers by its first field;
-- `are_numbers_lem`, that a line of numbers is numbers with a space after each and one more, as `numbers_on`; `on_line` and `first_on`, of the
-- first number of a text's line; `unspaced`, and `no_line_end`, that no byte 10 is in a line of numbers.
use Prim.Native.Nat.{ℕ, zero, suc, ◌+◌}
use native.Mathlib.Omega.{arith}
use mathlib.Core.Path.{◌≡◌, refl, sym, ap, ◌∙◌}
use mathlib.Core.Bool.{Bool, true, false, ◌&&◌, and-false}
use mathlib.Core.List.{List}
use borrow.Author.Tests.{ne_eqb}
use lib.Dec.{eqb}
use lib.ListN.{length, length-append}
use Rattle.laws.proofs.CaseSplits.{by_test, not_both}
use Rattle.laws.proofs.Booleans.{and_left, and_right}
use Rattle.laws.proofs.Tests.{same_eqb}
use Rattle.text.specs.Lines.{line_end, space, has, before, after, field_count, field}
use Rattle.text.specs.Number.{is_digit, is_number}
use Rattle.text.specs.Fields.{each_number, are_numbers}
use Rattle.text.proofs.Split.{here, gone, has_after, inner, outer}
use Rattle.text.proofs.NumberLaws.{no_other}
use Rattle.text.proofs.FieldLaws.{count_one, count_more, count_positive}

module _ (k largest : ℕ) where
  -- so many numbers with a space after each, and one more
  unfoldable pub numbers_on : ℕ → List ℕ → Bool
  numbers_on zero l = is_number k largest l
  numbers_on (suc n) l = has space l && is_number k largest (before space l) && numbers_on n (after space l)

  spaced : (f : List ℕ) → has space f ≡ true → is_number k largest f ≡ false
  unfolding is_digit
  spaced f h = no_other k largest space refl f h

  pub unspaced : (f : List ℕ) → is_number k largest f ≡ true → has space f ≡ false
  unspaced f t = by_test (has space f) (λ h. not_both (is_number k largest f) t (spaced f h)) (λ h. h)

  -- a line of so many numbers: there is a first field, which is one, and the others stand after its space
  pub no_numbers : (l : List ℕ) → are_numbers k largest 0 l ≡ false
  unfolding are_numbers each_number
  no_numbers l = rw (ne_eqb (field_count l) 0 (λ e. omega (arith, count_positive l)))

  pub first_none : (n : ℕ) (l : List ℕ) → is_number k largest (before space l) ≡ false → are_numbers k largest (suc n) l ≡ false
  unfolding are_numbers each_number field
  first_none n l f = rw f (and-false (eqb (field_count l) (suc n)))

  pub first_only :
      (n : ℕ) (l : List ℕ) → has space l ≡ false → is_number k largest (before space l) ≡ true → are_numbers k largest (suc n) l ≡ eqb (suc n) 1
  unfolding are_numbers each_number field
  first_only zero l h t = rw (count_one l h, t)
  first_only (suc n) l h t = rw (count_one l h, ne_eqb 1 (suc (suc n)) (λ e. omega arith), ne_eqb (suc (suc n)) 1 (λ e. omega arith))

  pub first_then :
      (n : ℕ) (l : List ℕ) → has space l ≡ true → is_number k largest (before space l) ≡ true
      → are_numbers k largest (suc n) l ≡ are_numbers k largest n (after space l)
  unfolding are_numbers each_number field
  first_then n l h t =
      let c = field_count (after space l) in
      rw (count_more l h, t, same_eqb (suc c) (suc n) c n (λ e. omega arith) (λ e. omega arith))

  pub are_numbers_lem : (n : ℕ) (l : List ℕ) → are_numbers k largest (suc n) l ≡ numbers_on n l
  unfolding numbers_on
  are_numbers_lem zero l =
      by_test (is_number k largest (before space l))
      (λ t.
      by_test (has space l)
      (λ h. first_then 0 l h t ∙ no_numbers (after space l) ∙ sym (spaced l h))
      (λ h. first_only 0 l h t ∙ sym (rw (gone space l h) at t)))
      (λ f. first_none 0 l f ∙ sym (by_test (has space l) (spaced l) (λ h. rw (gone space l h) at f)))
  are_numbers_lem (suc n) l =
      by_test (is_number k largest (before space l))
      (λ t.
      by_test (has space l)
      (λ h. rw (first_then (suc n) l h t, h, t) (are_numbers_lem n (after space l)))
      (λ h. rw h (first_only (suc n) l h t ∙ ne_eqb (suc (suc n)) 1 (λ e. omega arith))))
      (λ f. rw (first_none (suc n) l f, f, and-false (has space l)))

  -- a byte 10 is in none of them
  ended : (n : ℕ) (l : List ℕ) → has line_end l ≡ true → numbers_on n l ≡ false
  unfolding numbers_on is_digit
  ended zero l h = no_other k largest line_end refl l h
  ended (suc n) l h =
      by_test (has space l)
      (λ p.
      by_test (has line_end (before space l))
      (λ q. rw (p, no_other k largest line_end refl (before space l) q))
      (λ q. rw (ended n (after space l) (has_after space line_end l refl p h q)) (and-false (has space l && is_number k largest (before space l)))))
      (λ p. rw p)

  pub no_line_end : (n : ℕ) (l : List ℕ) → has line_end l ≡ true → are_numbers k largest (suc n) l ≡ false
  no_line_end n l h = are_numbers_lem n l ∙ ended n l h

  -- the first of them, where the line is that of a text: it ends at a space before the byte 10
  pub on_line :
      (n : ℕ) (s : List ℕ)
      → numbers_on (suc n) (before line_end s) ≡ (has space s && is_number k largest (before space s) && numbers_on n (before line_end (after space s)))
  unfolding numbers_on is_digit
  on_line n s =
      by_test (has space (before line_end s))
      (λ h. let i = inner space line_end (λ e. omega (arith, e)) s h in rw (i.there, i.first, i.rest, h))
      (λ h.
      by_test (has space s)
      (λ p. rw (h, p, no_other k largest line_end refl (before space s) (outer space line_end (λ e. omega (arith, e)) s p h)))
      (λ p. rw (h, p)))

  -- what a first number says of the line and of the text
  pub record OnLine (n : ℕ) (s : List ℕ) : Type 0 where
    pub first : before space (before line_end s) ≡ before space s
    pub rest : after space (before line_end s) ≡ before line_end (after space s)
    pub count : length (before line_end s) ≡ length (before space s) + 1 + length (before line_end (after space s))
    pub next : numbers_on n (before line_end (after space s)) ≡ true

  pub first_on : (n : ℕ) (s : List ℕ) → numbers_on (suc n) (before line_end s) ≡ true → OnLine n s
  unfolding numbers_on
  first_on n s t =
      let l = before line_end s in
      let number = is_number k largest (before space l) in
      let h = and_left (has space l) number (and_left (has space l && number) (numbers_on n (after space l)) t) in
      let i = inner space line_end (λ e. omega (arith, e)) s h in
      record {
        first = sym i.first;
        rest = sym i.rest;
        count = omega (arith, simp length-append at (ap length (here space l h).whole), ap length i.first, ap length i.rest);
        next = rw i.rest (and_right (has space l && number) (numbers_on n (after space l)) t);
      }
