-- Going by cases, each as a function of what is to be done in either case.
use Prim.Native.Nat.{ℕ, ◌≤◌, ◌<◌}
use mathlib.Core.Path.{◌≡◌, refl, sym, subst}
use mathlib.Core.Bool.{Bool, true, false, cond}
use native.Mathlib.Nat.{lt_of_not-le}
use native.Mathlib.Omega.{arith}
use lib.Dec.{T}
use native.Mathlib.Decide.{dec_le, ℕ_discrete}

pub by_order : {A : Type 0} (a b : ℕ) → (a ≤ b → A) → (b < a → A) → A
by_order a b f g = elim (dec_le a b) [ yes h ↦ f h | no h ↦ g (lt_of_not-le h) ]

pub by_equal : {A : Type 0} (a b : ℕ) → (a ≡ b → A) → ((a ≡ b → ⊥) → A) → A
by_equal a b f g = elim (ℕ_discrete a b) [ yes h ↦ f h | no h ↦ g h ]

pub by_test : {A : Type 0} (t : Bool) → (t ≡ true → A) → (t ≡ false → A) → A
by_test true f g = f refl
by_test false f g = g refl

-- two tests come to the same, or one of them holds
pub by_tests : {A : Type 0} (t u : Bool) → (t ≡ u → A) → (t ≡ true → u ≡ false → A) → (t ≡ false → u ≡ true → A) → A
by_tests true true same f g = same refl
by_tests true false same f g = f refl refl
by_tests false true same f g = g refl refl
by_tests false false same f g = same refl

pub not_both : {A : Type 0} (t : Bool) → t ≡ true → t ≡ false → A
not_both true p q = absurd (subst T q tt)
not_both false p q = absurd (subst T (sym p) tt)

-- what holds of either outcome of a test, given what the test came to
pub by_cond : {A : Type 0} (P : A → Type 0) (t : Bool) {x y : A} → (t ≡ true → P x) → (t ≡ false → P y) → P (cond t x y)
by_cond P true f g = f refl
by_cond P false f g = g refl

-- what a function makes of either outcome of a test
pub of_either :
    {A B : Type 0} (f : A → B) (t : Bool) {x y : A} {fx fy : B} → f x ≡ fx → f y ≡ fy → f (cond t x y) ≡ cond t fx fy
of_either f true p q = p
of_either f false p q = q

-- two constructors that were equal would make 0 equal to 1, which `cc` finds
pub clash : {A : Type 0} → ◌≡◌ {A = ℕ} 0 1 → A
clash e = absurd (omega (arith, e))
