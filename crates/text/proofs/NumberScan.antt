-- The scan of a number's digits. Others cite its invariant `Scanned`, with `scanned_none` and `scanned_more`, and whether the field is a number at each way
-- out of the scan: `no_digit` and `too_large` within it; `empty`, `long` and `leading` after it; and `complete`, with `one_digit` and `other_digit`.
use Prim.Native.Nat.{ℕ, ◌+◌, ◌-◌, ◌*◌, ◌≤◌, ◌<◌}
use native.Mathlib.Numerals.{add-one}
use native.Mathlib.Omega.{arith}
use mathlib.Core.Path.{◌≡◌, refl, ◌∙◌}
use mathlib.Core.Bool.{true, false, not, ◌&&◌, and-false}
use mathlib.Core.List.{List, [], ◌∷◌}
use borrow.Author.Tests.{lt-ltb, le-ltb, le-leb, lt-leb, ne_eqb}
use lib.Dec.{eqb, leb}
use lib.ListN.{length, get_or, drop, drop_of_length-le}
use lib.Seq.{drop-cons}
use Rattle.text.specs.Number.{is_digit, all_digits, leading_zero, well_formed, decimal_from, decimal, is_number}
use Rattle.text.proofs.NumberLaws.{Numbered}

-- the first i bytes of f are digits that make n, which is not too large
pub record Scanned (largest : ℕ) (f : List ℕ) (n i : ℕ) : Type 0 where
  pub digits : all_digits f ≡ all_digits (drop i f)
  pub value : decimal f ≡ decimal_from n (drop i f)
  pub small : n ≤ largest

pub scanned_none : (largest : ℕ) (f : List ℕ) → Scanned largest f 0 0
unfolding decimal
scanned_none largest f = record { digits = refl; value = refl; small = omega arith }

-- more digits make no smaller number
grows : (n : ℕ) (f : List ℕ) → n ≤ decimal_from n f
unfolding decimal_from
grows n [] = omega arith
grows n (x ∷ f) = omega (arith, grows (n * 10 + (x - 48)) f)

module _ (f : List ℕ) where
  -- no leading zero: one digit, or a first digit that is not 0
  pub one_digit : length f ≤ 1 → leading_zero f ≡ false
  unfolding leading_zero
  one_digit l = rw (le-ltb 1 (length f) l) (and-false (eqb (get_or f 0 0) 48))

  pub other_digit : (get_or f 0 0 ≡ 48 → ⊥) → leading_zero f ≡ false
  unfolding leading_zero
  other_digit n = rw (ne_eqb (get_or f 0 0) 48 n)

-- the scan is at a byte
module _ (largest : ℕ) (f : List ℕ) (n i : ℕ) (p : Scanned largest f n i) (h : i < length f) where
  value_is : decimal f ≡ decimal_from (n * 10 + (get_or f i 0 - 48)) (drop (i + 1) f)
  unfolding decimal_from
  value_is = p.value ∙ rw (add-one, drop-cons f i 0 h)

  pub scanned_more : is_digit (get_or f i 0) ≡ true → n * 10 + (get_or f i 0 - 48) ≤ largest → Scanned largest f (n * 10 + (get_or f i 0 - 48)) (i + 1)
  unfolding all_digits
  scanned_more d l =
      record {
        digits = p.digits ∙ rw (add-one, drop-cons f i 0 h, d);
        value = value_is;
        small = l;
      }

module _ (k largest : ℕ) (f : List ℕ) where
  ill_formed : well_formed k f ≡ false → is_number k largest f ≡ false
  unfolding is_number
  ill_formed e = rw e

  pub empty : length f ≡ 0 → is_number k largest f ≡ false
  unfolding well_formed
  empty z = ill_formed (rw z)

  pub long : k < length f → is_number k largest f ≡ false
  unfolding well_formed
  long l = ill_formed (rw (lt-leb (length f) k l, and-false (leb 1 (length f))))

  pub leading : get_or f 0 0 ≡ 48 → 1 < length f → is_number k largest f ≡ false
  unfolding well_formed leading_zero
  leading z l = ill_formed (rw (z, lt-ltb 1 (length f) l, and-false (leb 1 (length f) && leb (length f) k)))

  module _ (n i : ℕ) (p : Scanned largest f n i) where
    -- what stops the scan at a byte
    module _ (h : i < length f) where
      pub no_digit : is_digit (get_or f i 0) ≡ false → is_number k largest f ≡ false
      unfolding well_formed all_digits
      no_digit d =
          let e : all_digits f ≡ false = p.digits ∙ rw (drop-cons f i 0 h, d) in
          ill_formed (rw (e, and-false (leb 1 (length f) && leb (length f) k && not (leading_zero f))))

      pub too_large : largest < n * 10 + (get_or f i 0 - 48) → is_number k largest f ≡ false
      unfolding is_number
      too_large l =
          let m = n * 10 + (get_or f i 0 - 48) in
          let e = lt-leb (decimal f) largest (rw (value_is largest f n i p h) (omega (arith, grows m (drop (i + 1) f)))) in
          rw (e, and-false (well_formed k f))

    -- the scan is at the end
    pub complete : length f ≤ i → 1 ≤ length f → length f ≤ k → leading_zero f ≡ false → Numbered k largest f n
    unfolding all_digits decimal_from well_formed is_number
    complete h l₁ l₂ z =
        let e : all_digits f ≡ true = p.digits ∙ rw (drop_of_length-le f h) in
        let v : decimal f ≡ n = p.value ∙ rw (drop_of_length-le f h) in
        record { is = rw (le-leb 1 (length f) l₁, le-leb (length f) k l₂, z, e, v, le-leb n largest p.small); value = v }
