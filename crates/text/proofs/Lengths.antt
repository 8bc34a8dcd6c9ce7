-- How long a line of so many numbers is, `numbers_short`, and a line of a word and a number, `after_short`.
use Prim.Native.Nat.{ℕ, zero, suc, ◌+◌, ◌*◌, ◌≤◌}
use native.Mathlib.Omega.{arith}
use mathlib.Core.Path.{◌≡◌, ap}
use mathlib.Core.Bool.{true}
use mathlib.Core.List.{List}
use borrow.Author.Tests.{eqb-true}
use lib.Dec.{eqb}
use lib.ListN.{length, drop, length-append, length-drop}
use Rattle.laws.proofs.CaseSplits.{by_test, by_cond, clash}
use Rattle.laws.proofs.Booleans.{and_left, and_right}
use Rattle.text.specs.Lines.{space, has, before, after, field_count, field}
use Rattle.text.specs.Words.{begins_with}
use Rattle.text.specs.Number.{is_number, number_of, number_after}
use Rattle.text.specs.Fields.{each_number, are_numbers}
use Rattle.std.specs.Prelude.{Some}
use Rattle.text.proofs.Split.{here, gone}
use Rattle.text.proofs.NumberLaws.{number_short}
use Rattle.text.proofs.FieldLaws.{count_one, count_more, count_positive}

module _ (k largest : ℕ) where
  -- each of n fields has at most k digits and a byte after it, but for the last
  each_short : (n : ℕ) (l : List ℕ) → field_count l ≡ n → each_number k largest n l ≡ true → length l + 1 ≤ n * (k + 1)
  unfolding each_number field
  each_short zero l c t = absurd (omega (arith, count_positive l))
  each_short (suc n) l c t =
      let f = number_short k largest (before space l) (and_left (is_number k largest (before space l)) (each_number k largest n (after space l)) t) in
      by_test (has space l)
      (λ h.
      let r = and_right (is_number k largest (before space l)) (each_number k largest n (after space l)) t in
      let more = each_short n (after space l) (omega (arith, count_more l h)) r in
      omega (arith, simp length-append at (ap length (here space l h).whole)))
      (λ h.
      let z : n ≡ 0 = omega (arith, count_one l h) in
      rw z (omega (arith, ap length (gone space l h))))

  pub numbers_short : (n : ℕ) (l : List ℕ) → are_numbers k largest n l ≡ true → length l + 1 ≤ n * (k + 1)
  unfolding are_numbers
  numbers_short n l t =
      let count = eqb-true (field_count l) n (and_left (eqb (field_count l) n) (each_number k largest n l) t) in
      each_short n l count (and_right (eqb (field_count l) n) (each_number k largest n l) t)

  pub after_short : (w l : List ℕ) (n : ℕ) → number_after k largest w l ≡ Some n → length l ≤ length w + k
  unfolding number_after number_of
  after_short w l n =
      let f = drop (length w) l in
      by_cond (λ r. r ≡ Some n → length l ≤ length w + k) (begins_with w l)
      (λ b.
      by_cond (λ r. r ≡ Some n → length l ≤ length w + k) (is_number k largest f)
      (λ t e. omega (arith, number_short k largest f t, length-drop (length w) l))
      (λ t e. clash cc))
      (λ b e. clash cc)
