-- A property of the indexes below a bound. Others cite: `down` and `up`, from one bound to the next; and `first_true`, the first index of which a
-- test holds.
use Prim.Native.Nat.{ℕ, zero, suc, ◌≤◌, ◌<◌}
use mathlib.Core.Path.{◌≡◌, sym, subst}
use mathlib.Core.Bool.{Bool, true, false}
use native.Mathlib.Omega.{arith}
use Rattle.laws.proofs.CaseSplits.{by_equal, by_test}

pub down : {P : ℕ → Type 0} (n : ℕ) → ((i : ℕ) → i < suc n → P i) → (i : ℕ) → i < n → P i
down n h i l = h i (omega arith)

pub up : (P : ℕ → Type 0) (n : ℕ) → ((i : ℕ) → i < n → P i) → P n → (i : ℕ) → i < suc n → P i
up P n below last i h = by_equal i n (λ e. subst P (sym e) last) (λ ne. below i (omega arith))

pub first_true : (p : ℕ → Bool) (k : ℕ) → p k ≡ true → (j : ℕ) × (j ≤ k) × (p j ≡ true) × ((i : ℕ) → i < j → p i ≡ false)
first_true p zero e = (0, omega arith, e, λ i h. absurd (omega arith))
first_true p (suc k) e =
    by_test (p 0)
    (λ t. (0, omega arith, t, λ i h. absurd (omega arith)))
    (λ f.
    let (j, within, holds, before) = first_true (λ i. p (suc i)) k e in
    (suc j, omega arith, holds, λ i. elim i as (λ i. i < suc j → p i ≡ false) [ zero ↦ λ h. f | suc i' ↦ λ h. before i' (omega arith) ]))
