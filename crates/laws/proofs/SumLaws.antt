-- The laws of sums over the indexes below n, of sums that leave one index out, and of bits. Others cite: `sum_same`, `sum_monotone`, `sum_add`, `sum_times`,
-- `sum_strict`, `sum_one_more`, `sum_longer`, `sum_bound`, `sum_picked`; `others_at`, `others_off`, `others_same`, `others_monotone`, `sum_others`, `others_bound`,
-- `others_gain`, `others_picked`; `bit_true`, `bit_false`, `bit_small`, `bit_monotone` and `count_bound`.
use Prim.Native.Nat.{ℕ, zero, suc, ◌+◌, ◌*◌, ◌≤◌, ◌<◌}
use mathlib.Core.Path.{◌≡◌, refl, sym, ap, ap₂}
use mathlib.Core.Bool.{Bool, true, false}
use native.Mathlib.Nat.{le_refl, not-suc-le-zero}
use native.Mathlib.Omega.{arith}
use borrow.Author.Tests.{eq-eqb, ne_eqb}
use Rattle.laws.specs.Sums.{sum_to, bit, others}
use Rattle.laws.proofs.CaseSplits.{by_order, by_equal, by_test}
use Rattle.laws.proofs.Below.{down}
use Rattle.laws.proofs.Steps.{by_steps}

module _ (f g : ℕ → ℕ) where
  -- Functions that agree below n have the same sum.
  pub sum_same : (n : ℕ) → ((i : ℕ) → i < n → f i ≡ g i) → sum_to n f ≡ sum_to n g
  unfolding sum_to
  sum_same zero h = refl
  sum_same (suc n) h = ap₂ ◌+◌ (sum_same n (down n h)) (h n (omega arith))

  pub sum_monotone : (n : ℕ) → ((i : ℕ) → i < n → f i ≤ g i) → sum_to n f ≤ sum_to n g
  unfolding sum_to
  sum_monotone zero h = le_refl _
  sum_monotone (suc n) h = omega (arith, sum_monotone n (down n h), h n (omega arith))

  pub sum_add : (n : ℕ) → sum_to n (λ i. f i + g i) ≡ sum_to n f + sum_to n g
  unfolding sum_to
  sum_add zero = refl
  sum_add (suc n) = omega (arith, sum_add n)

pub sum_times : (f : ℕ → ℕ) (c n : ℕ) → sum_to n (λ i. f i * c) ≡ sum_to n f * c
unfolding sum_to
sum_times f c zero = omega arith
sum_times f c (suc n) = omega (arith, sum_times f c n)

-- Where each term grows by what g gives it, and g gives m in all, the sum grows by m.
sum_gain : (f g h : ℕ → ℕ) (n m : ℕ) → m ≤ sum_to n g → ((i : ℕ) → i < n → f i + g i ≤ h i) → sum_to n f + m ≤ sum_to n h
sum_gain f g h n m given each =
    omega (arith, sum_monotone (λ i. f i + g i) h n each, sum_add f g n)

-- More terms, no smaller sum.
pub sum_longer : (f : ℕ → ℕ) (n p : ℕ) → n ≤ p → sum_to n f ≤ sum_to p f
unfolding sum_to
sum_longer f = by_steps (λ n. sum_to n f) (λ n. omega arith)

-- Terms picked in rising order out of a longer sum, where each is no smaller: no larger sum.
pub sum_picked : (f g p : ℕ → ℕ) (n all : ℕ) →
    ((i : ℕ) → i < n → p i < all) →
    ((i j : ℕ) → i < j → j < n → p i < p j) →
    ((i : ℕ) → i < n → f i ≤ g (p i)) →
    sum_to n f ≤ sum_to all g
unfolding sum_to
sum_picked f g p zero all within rising each = omega arith
sum_picked f g p (suc n) all within rising each =
    omega (
      arith,
      sum_picked f g p n (p n) (λ i h. rising i n h (omega arith)) (λ i j l h. rising i j l (omega arith)) (down n each),
      each n (omega arith),
      sum_longer g (suc (p n)) all (within n (omega arith)),
    )

-- n terms, each at most b.
pub sum_bound : (f : ℕ → ℕ) (b n : ℕ) → ((i : ℕ) → i < n → f i ≤ b) → sum_to n f ≤ n * b
unfolding sum_to
sum_bound f b zero h = omega arith
sum_bound f b (suc n) h = omega (arith, sum_bound f b n (down n h), h n (omega arith))

-- A sum that leaves k out: nothing stands at k, and f elsewhere.
module _ (f : ℕ → ℕ) {i k : ℕ} where
  pub others_at : i ≡ k → others k f i ≡ 0
  unfolding others
  others_at e = rw (eq-eqb i k e)

  pub others_off : (i ≡ k → ⊥) → others k f i ≡ f i
  unfolding others
  others_off ne = rw (ne_eqb i k ne)

-- Two such sums are compared at the other indexes only.
module _ (f g : ℕ → ℕ) (k n : ℕ) where
  others_each : (P : ℕ → ℕ → Type 0) → P 0 0 → ((i : ℕ) → i < n → (i ≡ k → ⊥) → P (f i) (g i)) → (i : ℕ) → i < n → P (others k f i) (others k g i)
  others_each P none h i l =
      by_equal i k
      (λ e. rw (others_at f e, others_at g e) none)
      (λ ne. rw (others_off f ne, others_off g ne) (h i l ne))

  pub others_same : ((i : ℕ) → i < n → (i ≡ k → ⊥) → f i ≡ g i) → sum_to n (others k f) ≡ sum_to n (others k g)
  others_same h = sum_same (others k f) (others k g) n (others_each (λ a b. a ≡ b) refl h)

  pub others_monotone : ((i : ℕ) → i < n → (i ≡ k → ⊥) → f i ≤ g i) → sum_to n (others k f) ≤ sum_to n (others k g)
  others_monotone h = sum_monotone (others k f) (others k g) n (others_each (λ a b. a ≤ b) (le_refl _) h)

-- A sum is the one that leaves k out, and what stands at k.
pub sum_others : (f : ℕ → ℕ) (k n : ℕ) → k < n → sum_to n f ≡ sum_to n (others k f) + f k
unfolding sum_to
sum_others f k zero l = absurd (not-suc-le-zero l)
sum_others f k (suc n) l =
    by_equal k n
    (λ e.
    let before : sum_to n (others k f) ≡ sum_to n f = sum_same (others k f) f n (λ i h. others_off f (λ same. omega arith)) in
    omega (arith, before, others_at f (sym e), ap f e))
    (λ ne. omega (arith, sum_others f k n (omega arith), others_off f {i = n} {k = k} (λ same. ne (sym same))))

module _ (f g : ℕ → ℕ) where
  -- Pigeonhole: no term larger, and one smaller.
  pub sum_strict : (n k : ℕ) → k < n → ((i : ℕ) → i < n → f i ≤ g i) → f k < g k → sum_to n f < sum_to n g
  sum_strict n k l h s = omega (arith, sum_others f k n l, sum_others g k n l, others_monotone f g k n (λ i l' ne. h i l'))

  -- A sum with 1 more at k.
  pub sum_one_more : (k n : ℕ) → k < n → g k ≡ suc (f k) → ((i : ℕ) → (i ≡ k → ⊥) → g i ≡ f i) → sum_to n g ≡ suc (sum_to n f)
  sum_one_more k n l at off = omega (arith, sum_others f k n l, sum_others g k n l, others_same g f k n (λ i l' ne. off i ne))

-- n terms without the one at k, each at most b.
pub others_bound : (f : ℕ → ℕ) (b k n : ℕ) → k < n → ((i : ℕ) → i < n → f i ≤ b) → sum_to n (others k f) + b ≤ n * b
others_bound f b k n l h =
    let most : ℕ → ℕ = λ i. b in
    omega (arith, others_monotone f most k n (λ i l' ne. h i l'), sum_others most k n l, sum_bound most b n (λ i l'. le_refl b))

-- `sum_gain` where k is left out and gains nothing.
pub others_gain : (f g h : ℕ → ℕ) (k n m : ℕ) →
    m ≤ sum_to n g →
    g k ≡ 0 →
    ((i : ℕ) → i < n → (i ≡ k → ⊥) → f i + g i ≤ h i) →
    sum_to n (others k f) + m ≤ sum_to n (others k h)
others_gain f g h k n m given none each =
    sum_gain (others k f) g (others k h) n m given λ i l.
    by_equal i k
    (λ e. omega (arith, others_at f e, others_at h e, ap g e))
    (λ ne. omega (arith, others_off f ne, others_off h ne, each i l ne))

-- `sum_picked` where k is left out of the picked terms, and what k was picked from out of all.
pub others_picked : (f g p : ℕ → ℕ) (k n all : ℕ) → k < n →
    ((i : ℕ) → i < n → p i < all) →
    ((i j : ℕ) → i < j → j < n → p i < p j) →
    ((i : ℕ) → i < n → (i ≡ k → ⊥) → f i ≤ g (p i)) →
    sum_to n (others k f) ≤ sum_to all (others (p k) g)
others_picked f g p k n all k-in within rising each =
    sum_picked (others k f) (others (p k) g) p n all within rising λ i l.
    by_equal i k
    (λ e. rw (others_at f e) (omega arith))
    (λ ne. rw (others_off f ne, others_off g (apart i l ne)) (each i l ne))
  where
    apart : (i : ℕ) → i < n → (i ≡ k → ⊥) → p i ≡ p k → ⊥
    apart i l ne same =
        by_order i k
        (λ before. omega (arith, rising i k (omega arith) k-in))
        (λ after. omega (arith, rising k i after l))

-- Bits.
pub bit_true : (t : Bool) → t ≡ true → bit t ≡ 1
unfolding bit
bit_true t e = rw e

pub bit_false : (t : Bool) → t ≡ false → bit t ≡ 0
unfolding bit
bit_false t e = rw e

pub bit_small : (t : Bool) → bit t ≤ 1
bit_small t = by_test t (λ e. omega (arith, bit_true t e)) (λ e. omega (arith, bit_false t e))

-- What implies another has no larger bit.
pub bit_monotone : (t u : Bool) → (t ≡ true → u ≡ true) → bit t ≤ bit u
bit_monotone t u h =
    by_test t
    (λ e. omega (arith, bit_small t, bit_true u (h e)))
    (λ e. omega (arith, bit_false t e))

-- No more are counted than there are.
pub count_bound : (p : ℕ → Bool) (n : ℕ) → sum_to n (λ i. bit (p i)) ≤ n
count_bound p n = omega (arith, sum_bound (λ i. bit (p i)) 1 n (λ i h. bit_small (p i)))
