-- A line of three numbers is read as these again: `three_line`, what the line is without its byte 10, and `three_read`.
use Prim.Native.Nat.{ℕ, suc, ◌^◌, ◌≤◌, ◌<◌}
use native.Mathlib.Omega.{arith}
use mathlib.Core.Path.{◌≡◌, ◌∙◌}
use mathlib.Core.Bool.{true, false}
use mathlib.Core.List.{List, [], ◌∷◌, ◌++◌, append_assoc}
use Rattle.laws.proofs.CaseSplits.{by_test, not_both}
use Rattle.text.specs.Lines.{line_end, space, has, field}
use Rattle.text.specs.Number.{decimal, is_number, decimal_text}
use Rattle.text.specs.Fields.{are_numbers}
use Rattle.text.specs.Output.{further_numbers, numbers_line}
use Rattle.text.proofs.DigitLaws.{read_again}
use Rattle.text.proofs.TextRead.{text_number}
use Rattle.text.proofs.Split.{gone}
use Rattle.text.proofs.Joined.{has_joined, before_joined, after_joined}
use Rattle.text.proofs.NumbersOn.{numbers_on, unspaced, are_numbers_lem, no_line_end}

-- three numbers with a space between them
unfoldable pub three_text : (x y z : ℕ) → List ℕ
three_text x y z = decimal_text x ++ space ∷ (decimal_text y ++ space ∷ decimal_text z)

pub three_line : (x y z : ℕ) → numbers_line (x ∷ y ∷ z ∷ []) ≡ three_text x y z ++ line_end ∷ []
unfolding numbers_line further_numbers three_text
three_line x y z = simp append_assoc

-- a line that is these three numbers, and has no byte 10
pub record ThreeRead (k largest x y z : ℕ) (l : List ℕ) : Type 0 where
  pub are : are_numbers k largest 3 l ≡ true
  pub first : decimal (field 0 l) ≡ x
  pub second : decimal (field 1 l) ≡ y
  pub third : decimal (field 2 l) ≡ z
  pub unbroken : has line_end l ≡ false

-- where the largest number has at most j + 1 digits and 64 bits
module _ (j largest : ℕ) (few : largest < 10 ^ suc j) (small : largest < 2 ^ 64) where
  is_number_lem : (n : ℕ) → n ≤ largest → is_number (suc j) largest (decimal_text n) ≡ true
  is_number_lem n h = text_number j largest n (omega arith) (omega arith) h

  no_space : (n : ℕ) → n ≤ largest → has space (decimal_text n) ≡ false
  no_space n h = unspaced (suc j) largest (decimal_text n) (is_number_lem n h)

  -- a number, a space and so many numbers
  one_more :
      (n x : ℕ) (r : List ℕ) → x ≤ largest → numbers_on (suc j) largest n r ≡ true
      → numbers_on (suc j) largest (suc n) (decimal_text x ++ space ∷ r) ≡ true
  unfolding numbers_on
  one_more n x r h more =
      let f = decimal_text x in
      rw (has_joined space f r, before_joined space f r (no_space x h), after_joined space f r (no_space x h), is_number_lem x h) more

  read : (n : ℕ) → n ≤ largest → decimal (decimal_text n) ≡ n
  read n h = read_again n (omega arith)

  module _ (x y z : ℕ) (x_Fits : x ≤ largest) (y-fits : y ≤ largest) (z-fits : z ≤ largest) where
    last_two : List ℕ
    last_two = decimal_text y ++ space ∷ decimal_text z

    all_numbers : are_numbers (suc j) largest 3 (three_text x y z) ≡ true
    unfolding three_text numbers_on
    all_numbers =
        are_numbers_lem (suc j) largest 2 (three_text x y z)
        ∙ one_more 1 x _ x_Fits (one_more 0 y (decimal_text z) y-fits (is_number_lem z z-fits))

    pub three_read : ThreeRead (suc j) largest x y z (three_text x y z)
    unfolding three_text field last_two
    three_read =
        let fx = no_space x x_Fits in
        let fy = no_space y y-fits in
        let ax = after_joined space (decimal_text x) last_two fx in
        let ay = after_joined space (decimal_text y) (decimal_text z) fy in
        record {
          are = all_numbers;
          first = rw (before_joined space (decimal_text x) last_two fx) (read x x_Fits);
          second = rw (ax, before_joined space (decimal_text y) (decimal_text z) fy) (read y y-fits);
          third = rw (ax, ay, gone space (decimal_text z) (no_space z z-fits)) (read z z-fits);
          unbroken =
              by_test (has line_end (three_text x y z))
              (λ h. not_both _ all_numbers (no_line_end (suc j) largest 2 (three_text x y z) h))
              (λ h. h);
        }
