-- The scan of a value's digits, which tells a leading zero by the number so far. Others cite its invariant `Digits`, with `digits_none` and
-- `digits_more`; whether the field is a value at each way out: `no_digits`, `no_digit`, `too_long`, `zero_leads` and `is_value_lem`; `sum_fits`, that a
-- number with a digit more is not too large; and `value_number`, that values are the numbers up to `largest`.
use Prim.Native.Nat.{ℕ, ◌+◌, ◌-◌, ◌*◌, ◌^◌, ◌≤◌, ◌<◌}
use native.Mathlib.Nat.{pow-le-pow_right, pow-suc}
use native.Mathlib.Numerals.{add-one}
use native.Mathlib.Omega.{arith}
use mathlib.Core.Path.{◌≡◌, sym, ◌∙◌}
use mathlib.Core.Bool.{true, false}
use mathlib.Core.List.{List}
use lib.Dec.{lit<}
use lib.ListN.{length, get_or}
use Rattle.laws.proofs.CaseSplits.{by_order}
use Rattle.text.specs.Number.{is_digit, leading_zero, is_number}
use Rattle.text.proofs.NumberLaws.{Numbered, digit, no_limit}
use Rattle.text.proofs.NumberScan as Scan
use Rattle.reader.specs.Value.{is_value}

-- the largest number of 7 digits
abbrev pub largest : ℕ
largest = 9999999

-- the first i bytes of f are digits that make n: where the first is 0, it is the only one, and n is 0 only then
pub record Digits (f : List ℕ) (n i : ℕ) : Type 0 where
  pub scanned : Scan.Scanned largest f n i
  pub few : i ≤ 7
  pub below : n < 10 ^ i
  pub zero_first : 0 < i → n ≡ 0 → get_or f 0 0 ≡ 48
  pub zero_alone : 0 < i → get_or f 0 0 ≡ 48 → (n ≡ 0) × (i ≡ 1)

pub digits_none : (f : List ℕ) → Digits f 0 0
digits_none f =
    record {
      scanned = Scan.scanned_none largest f;
      few = omega arith;
      below = omega arith;
      zero_first = λ h. absurd (omega arith);
      zero_alone = λ h. absurd (omega arith);
    }

-- a value is a number, since none of 7 digits is above the largest
pub value_number : (f : List ℕ) → is_number 7 largest f ≡ is_value f
unfolding is_value
value_number f = no_limit 7 largest (omega arith) f

module _ (f : List ℕ) where
  pub no_digits : length f ≡ 0 → is_value f ≡ false
  no_digits z = sym (value_number f) ∙ Scan.empty 7 largest f z

  module _ (n i : ℕ) (p : Digits f n i) where
    -- the scan is at a byte
    module _ (h : i < length f) where
      pub no_digit : is_digit (get_or f i 0) ≡ false → is_value f ≡ false
      no_digit d = sym (value_number f) ∙ Scan.no_digit 7 largest f n i p.scanned h d

      pub too_long : 7 ≤ i → is_value f ≡ false
      too_long l = sym (value_number f) ∙ Scan.long 7 largest f (omega arith)

      pub zero_leads : n ≡ 0 → 0 < i → is_value f ≡ false
      zero_leads z l = sym (value_number f) ∙ Scan.leading 7 largest f (p.zero_first l z) (omega arith)

      -- it is a digit, and one more is not too many
      module _ (d : is_digit (get_or f i 0) ≡ true) (l : i < 7) where
        next_below : n * 10 + (get_or f i 0 - 48) < 10 ^ (i + 1)
        next_below = rw (add-one i, pow-suc 10 i) (omega (arith, p.below, digit (get_or f i 0) d))

        pub sum_fits : n * 10 + (get_or f i 0 - 48) ≤ largest
        sum_fits =
            let few : i + 1 ≤ 7 = omega arith in
            omega (arith, next_below, pow-le-pow_right {n = 10} (lit< tt) few)

        pub digits_more : (n ≡ 0 → i ≡ 0) → Digits f (n * 10 + (get_or f i 0 - 48)) (i + 1)
        digits_more first =
            let g = digit (get_or f i 0) d in
            record {
              scanned = Scan.scanned_more largest f n i p.scanned h d sum_fits;
              few = omega arith;
              below = next_below;
              zero_first = λ _ z. let v : get_or f i 0 ≡ 48 = omega (arith, g.low) in rw (first (omega arith)) at v;
              zero_alone =
                  λ _ z.
                  by_order i 0
                  (λ o.
                  let e : i ≡ 0 = omega arith in
                  let v : get_or f i 0 ≡ 48 = rw e z in
                  omega (arith, v, rw e at p.below))
                  (λ o. absurd (omega (arith, first (p.zero_alone o z).0)));
            }

    -- the scan is at the end
    pub is_value_lem : length f ≡ i → 0 < i → Numbered 7 largest f n
    is_value_lem e l = Scan.complete 7 largest f n i p.scanned (omega arith) (omega arith) (omega (arith, p.few)) no_zero
      where
        no_zero : leading_zero f ≡ false
        no_zero =
            by_order i 1
            (λ o. Scan.one_digit f (omega arith))
            (λ o. Scan.other_digit f (λ z. omega (arith, p.zero_alone l z)))
