-- The flags of a sum, one after the other as the code goes: `Named`, with `named_none`, `named_more` and `named_all`. Sum and flags are each other's:
-- `flags_again` and `sum_again`. They are as many as are asked for: `length_flags`.
use Prim.Native.Nat.{ℕ, zero, suc, ◌+◌, ◌-◌, ◌*◌, ◌/◌, ◌%◌, ◌^◌, ◌≤◌, ◌<◌}
use native.Mathlib.Nat.{pow-suc, div-add-mod', mod-lt}
use native.Mathlib.Numerals.{add-one}
use native.Mathlib.Omega.{arith}
use mathlib.Core.Path.{◌≡◌, refl, sym, ap, ◌∙◌}
use mathlib.Core.Bool.{Bool, true, false}
use mathlib.Core.List.{List, [], ◌∷◌, ◌++◌, append_assoc, append-nil}
use borrow.Author.Tests.{eqb-true, eqb-false, eq-eqb}
use lib.Dec.{eqb, lit<}
use lib.ListN.{length, take, set, replicate, length-set, length-replicate}
use lib.Seq.{take-suc-set, take_all}
use Rattle.laws.specs.Sums.{bit}
use Rattle.laws.proofs.CaseSplits.{by_test}
use Rattle.laws.proofs.SumLaws.{bit_true, bit_false}
use Rattle.tasks.specs.Limits.{max_tasks}
use Rattle.tasks.specs.Flags.{mask, flags_from, flags_of}

-- the first i flags of the sum v are in the list, and the others are those of the rest
pub record Named (v : ℕ) (named : List Bool) (rest i : ℕ) : Type 0 where
  pub all : length named ≡ max_tasks
  pub within : i ≤ max_tasks
  pub so_far : take i named ++ flags_from (max_tasks - i) rest ≡ flags_of v

pub named_none : (v : ℕ) → Named v (replicate max_tasks false) v 0
unfolding flags_of
named_none v = record { all = length-replicate max_tasks false; within = omega arith; so_far = refl }

module _ (v : ℕ) (named : List Bool) (rest i : ℕ) (n : Named v named rest i) where
  pub named_more : i < max_tasks → Named v (set named i (eqb (rest % 2) 1)) (rest / 2) (i + 1)
  unfolding flags_from
  named_more h =
      let b = eqb (rest % 2) 1 in
      let left : max_tasks - i ≡ suc (max_tasks - (i + 1)) = omega arith in
      record {
        all = length-set named i b ∙ n.all;
        within = omega arith;
        so_far =
            rw (add-one i, take-suc-set named i b (omega (arith, n.all)), append_assoc)
            (rw (left, add-one i) at n.so_far);
      }

  pub named_all : i ≡ max_tasks → named ≡ flags_of v
  unfolding flags_from
  named_all e =
      let none : max_tasks - i ≡ 0 = omega arith in
      sym (take_all i named (omega (arith, n.all))) ∙ sym (append-nil (take i named)) ∙ rw none at n.so_far

pub length_flags : (n v : ℕ) → length (flags_from n v) ≡ n
unfolding flags_from
length_flags zero v = refl
length_flags (suc n) v = ap suc (length_flags n (v / 2))

-- the sum of flags, halved: the first flag, and the sum of the others
halved : (b : Bool) (x : ℕ) → (eqb ((bit b + 2 * x) % 2) 1 ≡ b) × ((bit b + 2 * x) / 2 ≡ x)
unfolding bit
halved true x =
    let d = div-add-mod' (1 + 2 * x) 2 in
    let m = mod-lt (1 + 2 * x) {m = 2} (lit< tt) in
    (eq-eqb ((1 + 2 * x) % 2) 1 (omega arith), omega arith)
halved false x =
    let d = div-add-mod' (0 + 2 * x) 2 in
    let m = mod-lt (0 + 2 * x) {m = 2} (lit< tt) in
    (by_test (eqb ((0 + 2 * x) % 2) 1) (λ e. absurd (omega (arith, eqb-true ((0 + 2 * x) % 2) 1 e))) (λ e. e), omega arith)

flags_again_from : (named : List Bool) → flags_from (length named) (mask named) ≡ named
unfolding flags_from mask
flags_again_from [] = refl
flags_again_from (b ∷ named) =
    let (first, others) = halved b (mask named) in
    rw (first, others, flags_again_from named)

pub flags_again : (named : List Bool) → length named ≡ max_tasks → flags_of (mask named) ≡ named
unfolding flags_of
flags_again named e = rw e at (flags_again_from named)

pub sum_again : (n v : ℕ) → v < 2 ^ n → mask (flags_from n v) ≡ v
unfolding flags_from mask
sum_again zero v h = omega arith
sum_again (suc n) v h =
    let d = div-add-mod' v 2 in
    let m = mod-lt v {m = 2} (lit< tt) in
    by_test (eqb (v % 2) 1)
    (λ e. omega (arith, bit_true (eqb (v % 2) 1) e, eqb-true (v % 2) 1 e, sum_again n (v / 2) (omega (arith, pow-suc 2 n))))
    (λ e.
    let even : v % 2 ≡ 0 = omega (arith, eqb-false (v % 2) 1 e) in
    omega (arith, bit_false (eqb (v % 2) 1) e, sum_again n (v / 2) (omega (arith, pow-suc 2 n))))
