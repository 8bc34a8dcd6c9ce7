-- A sum over tasks whose slacks are replaced one by one. Others cite `mixed`, the slacks where those before i are new; `mixed_none` and `mixed_all`, the sums at
-- either end; `mixed_part`, that the old part of task i is in the sum; and `mixed_next`, the sum where one more is new.
use Prim.Native.Nat.{ℕ, suc, ◌+◌, ◌≤◌, ◌<◌}
use native.Mathlib.Omega.{arith}
use mathlib.Core.Path.{◌≡◌, sym, ap, ◌∙◌}
use mathlib.Core.Bool.{cond}
use mathlib.Core.List.{List}
use lib.Dec.{ltb}
use lib.ListN.{get_or}
use borrow.Author.Tests.{lt-ltb, le-ltb}
use Rattle.laws.proofs.CaseSplits.{by_order}
use Rattle.laws.specs.Sums.{sum_to}
use Rattle.laws.proofs.SumLaws.{sum_same, sum_others, others_same}

abbrev pub mixed : (before slacks : List ℕ) (i j : ℕ) → ℕ
mixed before slacks i j = cond (ltb j i) (get_or slacks j 0) (get_or before j 0)

module _ (before slacks : List ℕ) where
  is_new : (i j : ℕ) → j < i → mixed before slacks i j ≡ get_or slacks j 0
  is_new i j h = rw (lt-ltb j i h)

  is_old : (i j : ℕ) → i ≤ j → mixed before slacks i j ≡ get_or before j 0
  is_old i j h = rw (le-ltb j i h)

  -- What task j counts for with a slack is `part j` of it.
  module _ (part : ℕ → ℕ → ℕ) (n : ℕ) where
    pub mixed_none : sum_to n (λ j. part j (mixed before slacks 0 j)) ≡ sum_to n (λ j. part j (get_or before j 0))
    mixed_none = sum_same _ _ n (λ j h. ap (part j) (is_old 0 j (omega arith)))

    pub mixed_all : sum_to n (λ j. part j (mixed before slacks n j)) ≡ sum_to n (λ j. part j (get_or slacks j 0))
    mixed_all = sum_same _ _ n (λ j h. ap (part j) (is_new n j h))

    -- The parts of the other tasks stay.
    others_stay : (i j : ℕ) → (j ≡ i → ⊥) → mixed before slacks (suc i) j ≡ mixed before slacks i j
    others_stay i j ne =
        by_order i j
        (λ l. is_old (suc i) j (omega arith) ∙ sym (is_old i j l))
        (λ l. is_new (suc i) j (omega arith) ∙ sym (is_new i j l))

    -- One more is new: the sum has its part with the new slack in place of that with the old one.
    pub mixed_next : (i : ℕ) → i < n →
        sum_to n (λ j. part j (mixed before slacks (suc i) j)) + part i (get_or before i 0)
        ≡ sum_to n (λ j. part j (mixed before slacks i j)) + part i (get_or slacks i 0)
    mixed_next i h =
        omega (
          arith,
          sum_others (λ j. part j (mixed before slacks (suc i) j)) i n h,
          sum_others (λ j. part j (mixed before slacks i j)) i n h,
          others_same (λ j. part j (mixed before slacks (suc i) j)) (λ j. part j (mixed before slacks i j)) i n
              (λ j l ne. ap (part j) (others_stay i j ne)),
          ap (part i) (is_new (suc i) i (omega arith)),
          ap (part i) (is_old i i (omega arith)),
        )

    -- The part of task i with its old slack is in the sum.
    pub mixed_part : (i : ℕ) → i < n → part i (get_or before i 0) ≤ sum_to n (λ j. part j (mixed before slacks i j))
    mixed_part i h =
        omega (arith, sum_others (λ j. part j (mixed before slacks i j)) i n h, ap (part i) (is_old i i (omega arith)))
