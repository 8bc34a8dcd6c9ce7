-- Why a part is exact where its whole periods are guessed. The guess is the upper half of the window times the period's inverse: the quotient of the
-- two, or one less. Others cite `guessed` with `Guessed` and `half`.
use Prim.Native.Nat.{ℕ, suc, ◌+◌, ◌*◌, ◌-◌, ◌/◌, ◌%◌, ◌^◌, ◌≤◌, ◌<◌, min}
use mathlib.Core.Path.{◌≡◌, sym}
use native.Mathlib.Nat.{mul-le-mul_left, mul_comm, mul_left_comm, le_of_mul-le-mul_left, lt_of_mul-lt-mul_left}
use native.Mathlib.Nat.{div-add-mod', mod-lt}
use native.Mathlib.Omega.{arith}
use Rattle.laws.proofs.CaseSplits.{by_order}
use Rattle.edzl.specs.Window.{interference}
use Rattle.edzl.proofs.InterferenceLaws.{staircase}
use Rattle.judge.specs.Listed.{inverse_of}

-- What the lower half of a product is cut off by.
abbrev pub half : ℕ
half = 2 ^ 32

-- g whole periods T with the budget C in a window of L slots: what is left has at most one more, and the part beside the spare S is exact.
pub record Guessed (T C L S g : ℕ) : Type 0 where
  pub small : g ≤ L
  pub within : g * T ≤ L
  pub budgets : g * C ≤ g * T
  pub part_is : min (g * C + min C (L - g * T) + min C (L - g * T - T)) S ≡ min (interference T C L) S

-- The inverse times the period is below 2^32, by at most the period.
next_below : (T : ℕ) → 1 ≤ T → (T * inverse_of T < half) × (half ≤ T * inverse_of T + T)
next_below T t_some = omega (arith, div-add-mod' 4_294_967_295 T, mod-lt 4_294_967_295 t_some, mul_comm (inverse_of T) T)

module _ (T C L : ℕ) (t_some : 1 ≤ T) (c_fits : C ≤ T) (L-fits : L ≤ 1_000_000) where
  -- No more whole periods than fit, and at most one too few.
  record Near (g : ℕ) : Type 0 where
    pub low : g * T ≤ L
    pub high : L < g * T + (T + T)

  near : Near (L * inverse_of T / half)
  near =
      let E = inverse_of T in
      let g = L * E / half in
      let below = next_below T t_some in
      let cut : L * E ≡ g * half + L * E % half = sym (div-add-mod' (L * E) half) in
      let rest : L * E % half < half = mod-lt (L * E) (omega arith) in
      let swap : T * (L * E) ≡ L * (T * E) = mul_left_comm T L E in
      let product-low : g * half ≤ L * E = omega arith in
      let product_high : L * E + 1 ≤ g * half + half = omega arith in
      let times-E : T * E ≤ half = omega arith in
      let E-more : half ≤ T * E + T = omega arith in
      let L-small : L ≤ half = omega arith in
      record {
        low = le_of_mul-le-mul_left {k = half} (omega (arith, swap, mul-le-mul_left T product-low, mul-le-mul_left L times-E)) (omega arith);
        high =
            lt_of_mul-lt-mul_left half
            (omega (arith, swap, mul-le-mul_left T product_high, mul-le-mul_left L E-more, mul-le-mul_left T L-small));
      }

  pub guessed : (S E : ℕ) → E ≡ inverse_of T → Guessed T C L S (L * E / half)
  guessed S E e =
      rw e
      (let g = L * inverse_of T / half in
      let n = near in
      record {
        small = omega (arith, n.low, mul-le-mul_left g t_some);
        within = n.low;
        budgets = mul-le-mul_left g c_fits;
        part_is =
            by_order T (L - g * T)
            (λ full. omega (arith, n.low, n.high, staircase T C t_some c_fits (suc g) (L - g * T - T) L (omega (arith, n.low, n.high)) (omega (arith, n.low, n.high))))
            (λ part. omega (arith, n.low, staircase T C t_some c_fits g (L - g * T) L (omega (arith, n.low)) (omega arith)));
      })
