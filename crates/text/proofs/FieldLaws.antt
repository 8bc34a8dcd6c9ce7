-- How many fields a line has: `count_one`, `count_more` and `count_positive`.
use Prim.Native.Nat.{ℕ, suc, ◌≤◌}
use native.Mathlib.Omega.{arith}
use mathlib.Core.Path.{◌≡◌, refl, sym}
use mathlib.Core.Bool.{true, false, false≢true}
use mathlib.Core.List.{List, [], ◌∷◌}
use lib.Dec.{eqb}
use Rattle.laws.proofs.CaseSplits.{by_test}
use Rattle.text.specs.Lines.{space, has, after, field_count}

-- a line with no space has one field
pub count_one : (l : List ℕ) → has space l ≡ false → field_count l ≡ 1
unfolding has field_count
count_one [] h = refl
count_one (x ∷ l) h = by_test (eqb x space) (λ e. absurd (false≢true (sym (rw e at h)))) (λ e. rw e (count_one l (rw e at h)))

-- a line with a space has one field more than what stands after it
pub count_more : (l : List ℕ) → has space l ≡ true → field_count l ≡ suc (field_count (after space l))
unfolding has after field_count
count_more [] h = absurd (false≢true h)
count_more (x ∷ l) h = by_test (eqb x space) (λ e. rw e) (λ e. rw e (count_more l (rw e at h)))

pub count_positive : (l : List ℕ) → 1 ≤ field_count l
count_positive l = by_test (has space l) (λ e. omega (arith, count_more l e)) (λ e. omega (arith, count_one l e))
