-- A function of an index by what it does from one index to the next. Others cite `by_steps`, that one which does not fall does not fall at all, and
-- `rising_past`, that one which rises is never below its index.
use Prim.Native.Nat.{ℕ, zero, suc, ◌≤◌, ◌<◌}
use mathlib.Core.Path.{◌≡◌}
use native.Mathlib.Nat.{le_refl, le_trans}
use native.Mathlib.Omega.{arith}
use Rattle.laws.proofs.CaseSplits.{by_equal}

pub by_steps : (f : ℕ → ℕ) → ((n : ℕ) → f n ≤ f (suc n)) → (n p : ℕ) → n ≤ p → f n ≤ f p
by_steps f step n zero h = let e : n ≡ 0 = omega arith in rw e (le_refl _)
by_steps f step n (suc p) h = by_equal n (suc p) (λ e. rw e (le_refl _)) (λ ne. le_trans (by_steps f step n p (omega arith)) (step p))

pub rising_past : (p : ℕ → ℕ) (n : ℕ) → ((i j : ℕ) → i < j → j < n → p i < p j) → (i : ℕ) → i < n → i ≤ p i
rising_past p n rising zero h = omega arith
rising_past p n rising (suc i) h = omega (arith, rising_past p n rising i (omega arith), rising i (suc i) (le_refl _) h)
