-- Which numbers are among those of a list. Others cite: `some_inside`, that past its end a list reads as 0; `among_index` and `among_at`, by an index; `among_set`, after an entry that was 0 or the same is
-- set; `among_more`, with one more at the end; and `among_few`, that no more are among a list than it has entries.
use Prim.Native.Nat.{ℕ, zero, suc, ◌+◌, ◌≤◌, ◌<◌}
use mathlib.Core.Path.{◌≡◌, refl}
use mathlib.Core.List.{List, [], ◌∷◌, ◌++◌}
use mathlib.Core.Bool.{Bool, true, false, ◌||◌, or-true, or_comm}
use mathlib.Core.Logic.{◌⊎◌, inl, inr}
use native.Mathlib.Omega.{arith}
use lib.Dec.{eqb}
use lib.ListN.{length, get_or, set, get_or-eq_default}
use borrow.Author.Tests.{eqb-true, eq-eqb, ne_eqb}
use Rattle.laws.proofs.CaseSplits.{by_test, by_equal, by_order, not_both}
use Rattle.laws.specs.Sums.{sum_to, bit}
use Rattle.laws.proofs.SumLaws.{sum_bound, bit_false}
use Rattle.cores.specs.Assign.{is_among}

pub some_inside : (l : List ℕ) (i : ℕ) → 1 ≤ get_or l i 0 → i < length l
some_inside l i some =
    by_order (length l) i
    (λ past. let none : get_or l i 0 ≡ 0 = get_or-eq_default l 0 past in absurd (omega arith))
    (λ h. h)

pub among_at : (l : List ℕ) (i n : ℕ) → i < length l → get_or l i 0 ≡ n → is_among l n ≡ true
unfolding is_among
among_at [] i n h e = absurd (omega arith)
among_at (x ∷ l) zero n h e = rw (eq-eqb x n e)
among_at (x ∷ l) (suc i) n h e = rw (among_at l i n (omega arith) e, or-true)

pub among_index : (l : List ℕ) (n : ℕ) → is_among l n ≡ true → (i : ℕ) × (i < length l) × (get_or l i 0 ≡ n)
unfolding is_among
among_index [] n e = not_both false e refl
among_index (x ∷ l) n e =
    by_test (eqb x n)
    (λ t. (0, omega arith, eqb-true x n t))
    (λ f. let (i, inside, is) = among_index l n (rw f at e) in (suc i, omega arith, is))

-- a number from 1 on is among the list after a 0, or the same number, is replaced by c, if it was before or is c
pub among_set :
    (l : List ℕ) (i c n : ℕ) → i < length l → (get_or l i 0 ≡ 0) ⊎ (get_or l i 0 ≡ c) → 1 ≤ n
    → is_among (set l i c) n ≡ (eqb c n || is_among l n)
unfolding is_among
among_set [] i c n h was some = absurd (omega arith)
among_set (x ∷ l) zero c n h (inl e) some =
    let no : eqb x n ≡ false = ne_eqb x n (λ s. omega arith) in
    rw no
among_set (x ∷ l) zero c n h (inr e) some = rw e (by_test (eqb c n) (λ t. rw t) (λ f. rw f))
among_set (x ∷ l) (suc i) c n h was some =
    rw (among_set l i c n (omega arith) was some) (by_test (eqb c n) (λ t. rw (t, or-true)) (λ f. rw f))

pub among_more : (l : List ℕ) (x n : ℕ) → is_among (l ++ x ∷ []) n ≡ (is_among l n || eqb x n)
unfolding is_among
among_more [] x n = or_comm (eqb x n) false
among_more (y ∷ l) x n = rw (among_more l x n) (by_test (eqb y n) (λ t. rw t) (λ f. rw f))

-- a number is one of those below n at most once
none_below : (x n : ℕ) → n ≤ x → sum_to n (λ i. bit (eqb x i)) ≡ 0
unfolding sum_to bit
none_below x zero h = refl
none_below x (suc n) h = rw (ne_eqb x n (λ e. omega arith)) (omega (arith, none_below x n (omega arith)))

once_below : (x n : ℕ) → sum_to n (λ i. bit (eqb x i)) ≤ 1
unfolding sum_to bit
once_below x zero = omega arith
once_below x (suc n) =
    by_equal x n
    (λ e. rw (eq-eqb x n e) (omega (arith, none_below x n (omega arith))))
    (λ ne. rw (ne_eqb x n ne) (omega (arith, once_below x n)))

either_few : (p q : ℕ → Bool) (n : ℕ) → sum_to n (λ i. bit (p i || q i)) ≤ sum_to n (λ i. bit (p i)) + sum_to n (λ i. bit (q i))
unfolding sum_to bit
either_few p q zero = omega arith
either_few p q (suc n) =
    let rest = either_few p q n in
    by_test (p n) (λ t. rw t (omega (arith, rest))) (λ f. rw f (omega (arith, rest)))

pub among_few : (l : List ℕ) (n : ℕ) → sum_to n (λ i. bit (is_among l i)) ≤ length l
unfolding is_among
among_few [] n = none_few n
  where
    none_few : (n : ℕ) → sum_to n (λ i. bit false) ≤ 0
    none_few n = omega (arith, sum_bound (λ i. bit false) 0 n (λ i h. omega (arith, bit_false false refl)))
among_few (x ∷ l) n = omega (arith, either_few (eqb x) (is_among l) n, once_below x n, among_few l n)
