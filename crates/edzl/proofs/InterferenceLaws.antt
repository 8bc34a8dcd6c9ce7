-- The laws of interference. As a function of the window, for a task with 1 ≤ C ≤ T, others cite: `monotone`, `grows`, `period_more`,
-- `first_period`, `at_least`, `at_most`, and `staircase`, from which they come, the value by the whole periods and the rest. Of the other two numbers:
-- `budget_monotone`, `period_antitone`.
use Prim.Native.Nat.{ℕ, zero, suc, ◌+◌, ◌*◌, ◌-◌, ◌/◌, ◌%◌, ◌≤◌, ◌<◌, min}
use mathlib.Core.Path.{◌≡◌, sym}
use native.Mathlib.Nat.{le_refl, mul-le-mul_left, add-zero, add-suc, div-add-mod', div-eq_of_lt-le, mod-lt}
use native.Mathlib.Omega.{arith}
use Rattle.edzl.specs.Window.{interference}
use Rattle.laws.proofs.CaseSplits.{by_order}
use Rattle.laws.proofs.Steps.{by_steps}

module _ (T C : ℕ) (t_some : 1 ≤ T) (c_fits : C ≤ T) where
  -- The value where the quotient is known.
  at_quotient : (q r L : ℕ) → L ≡ q * T + r → L / T ≡ q → interference T C L ≡ q * C + min C r
  unfolding interference
  at_quotient q r L e d =
      let rest : L - q * T ≡ r = omega arith in
      rw (d, rest)

  -- The rest may be a whole period: both readings give one value, because C ≤ T.
  pub staircase : (q r L : ℕ) → L ≡ q * T + r → r ≤ T → interference T C L ≡ q * C + min C r
  staircase q r L e h =
      by_order T r
      (λ full.
      let e' : L ≡ suc q * T + 0 = omega arith in
      let d : L / T ≡ suc q = div-eq_of_lt-le T (omega arith) (omega arith) in
      omega (arith, at_quotient (suc q) 0 L e' d))
      (λ part. at_quotient q r L e (div-eq_of_lt-le T (omega arith) (omega arith)))

  -- One more slot in the window adds nothing or one.
  one_step : (L : ℕ) → (interference T C L ≤ interference T C (suc L)) × (interference T C (suc L) ≤ interference T C L + 1)
  one_step L =
      let q = L / T in
      let r = L % T in
      let e : L ≡ q * T + r = sym (div-add-mod' L T) in
      let h : r < T = mod-lt L t_some in
      omega (arith, staircase q r L e (omega arith), staircase q (suc r) (suc L) (omega arith) h)

  pub monotone : (K L : ℕ) → K ≤ L → interference T C K ≤ interference T C L
  monotone = by_steps (interference T C) (λ L. (one_step L).0)

  -- A window that is d slots longer adds at most d.
  pub grows : (d L : ℕ) → interference T C (L + d) ≤ interference T C L + d
  grows zero L = rw (add-zero L) (omega arith)
  grows (suc d) L = rw (add-suc L d) (omega (arith, grows d L, one_step (L + d)))

  -- A whole period adds a whole budget.
  pub period_more : (L : ℕ) → interference T C (L + T) ≡ interference T C L + C
  period_more L =
      let q = L / T in
      let r = L % T in
      let e : L ≡ q * T + r = sym (div-add-mod' L T) in
      let h : r < T = mod-lt L t_some in
      omega (arith, staircase q r L e (omega arith), staircase (suc q) r (L + T) (omega arith) (omega arith))

  pub first_period : (L : ℕ) → L ≤ T → interference T C L ≡ min C L
  first_period L h = omega (arith, staircase 0 L L (omega arith) h)

  pub at_least : (L : ℕ) → min C L ≤ interference T C L
  at_least L =
      by_order L T
      (λ h. omega (arith, first_period L h))
      (λ h. omega (arith, first_period T (le_refl T), monotone T L (omega arith)))

  -- A window holds no more slots than it has.
  pub at_most : (L : ℕ) → interference T C L ≤ L
  at_most L =
      let q = L / T in
      let r = L % T in
      let e : L ≡ q * T + r = sym (div-add-mod' L T) in
      let h : r < T = mod-lt L t_some in
      omega (arith, staircase q r L e (omega arith), mul-le-mul_left q c_fits)

  pub periods_more : (q L : ℕ) → interference T C (L + q * T) ≡ interference T C L + q * C
  periods_more zero L =
      let e : L + 0 * T ≡ L = omega arith in
      rw e (omega arith)
  periods_more (suc q) L =
      let e : L + suc q * T ≡ (L + q * T) + T = omega arith in
      rw e (omega (arith, periods_more q L, period_more (L + q * T)))

-- A larger budget takes no less.
pub budget_monotone : (T B C L : ℕ) → B ≤ C → interference T B L ≤ interference T C L
unfolding interference
budget_monotone T B C L h = omega (arith, mul-le-mul_left (L / T) h)

-- A longer period takes no more.
pub period_antitone : (T U C : ℕ) → 1 ≤ T → C ≤ T → T ≤ U → (L : ℕ) → interference U C L ≤ interference T C L
period_antitone T U C t_some c_fits h L =
    let q = L / U in
    let r = L % U in
    let e : L ≡ q * U + r = sym (div-add-mod' L U) in
    let r-fits : r < U = mod-lt L (omega arith) in
    let shorter : r + q * T ≤ L = omega (arith, mul-le-mul_left q h) in
    omega (
      arith,
      staircase U C (omega arith) (omega arith) q r L e (omega arith),
      monotone T C t_some c_fits (r + q * T) L shorter,
      periods_more T C t_some c_fits q r,
      at_least T C t_some c_fits r,
    )
