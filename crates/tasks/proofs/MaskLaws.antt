-- The mask of a list from its end, as the code goes: `Masked`, with `masked_none` and `masked_more`. How large a mask can be: `mask_below`, and
-- `masked_small` of the code's.
use Prim.Native.Nat.{ℕ, suc, ◌+◌, ◌-◌, ◌*◌, ◌^◌, ◌≤◌, ◌<◌}
use native.Mathlib.Nat.{pow-suc, pow-le-pow_right}
use native.Mathlib.Omega.{arith}
use mathlib.Core.Path.{◌≡◌, ap, ◌∙◌}
use mathlib.Core.Bool.{Bool, true, false}
use mathlib.Core.List.{List, [], ◌∷◌}
use mir.Val.{bool_byte}
use lib.Dec.{lit<}
use lib.ListN.{length, get_or, drop, length-drop, drop_of_length-le}
use lib.Seq.{drop-cons}
use Rattle.laws.proofs.Booleans.{bool_byte_lem}
use Rattle.laws.specs.Sums.{bit}
use Rattle.tasks.specs.Flags.{mask}

pub mask_below : (named : List Bool) → mask named < 2 ^ length named
unfolding mask bit
mask_below [] = omega arith
mask_below (true ∷ named) = omega (arith, pow-suc 2 (length named), mask_below named)
mask_below (false ∷ named) = omega (arith, pow-suc 2 (length named), mask_below named)

-- the sum so far is the mask of the entries from i on
pub record Masked (named : List Bool) (sum i : ℕ) : Type 0 where
  pub all : length named ≡ 32
  pub within : i ≤ 32
  pub sum_is : sum ≡ mask (drop i named)

pub masked_none : (named : List Bool) → length named ≡ 32 → Masked named 0 32
unfolding mask
masked_none named e =
    let h : length named ≤ 32 = omega arith in
    record { all = e; within = omega arith; sum_is = rw (drop_of_length-le named h) }

byte_bit : (b : Bool) → bool_byte b ≡ bit b
unfolding bit
byte_bit b = bool_byte_lem b

module _ (named : List Bool) (sum i : ℕ) (m : Masked named sum i) where
  pub masked_small : sum < 2 ^ 32
  masked_small =
      let few : length (drop i named) ≤ 32 = omega (arith, length-drop i named, m.all) in
      omega (arith, m.sum_is, mask_below (drop i named), pow-le-pow_right {n = 2} (lit< tt) few)

  pub masked_more : 0 < i → Masked named (bool_byte (get_or named (i - 1) false) + 2 * sum) (i - 1)
  unfolding mask
  masked_more h =
      let l : i - 1 < length named = omega (arith, m.all, m.within) in
      let e : suc (i - 1) ≡ i = omega arith in
      let d : drop (i - 1) named ≡ get_or named (i - 1) false ∷ drop i named =
      drop-cons named (i - 1) false l ∙ ap (λ (n : ℕ). get_or named (i - 1) false ∷ drop n named) e
      in
      record {
        all = m.all;
        within = omega (arith, m.within);
        sum_is = rw (d, ← m.sum_is, byte_bit (get_or named (i - 1) false));
      }
