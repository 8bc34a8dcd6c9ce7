-- The first unused core. Others cite: `first_same`, that it goes by the uses of the n cores alone; `first_is_lem` and `none_unused`, by them; `some_unused`,
-- that where fewer than n entries of a list are not 0 one of the cores 1 to n is not among them (`Unused`), and `first_within`, that then no more cores
-- matter; `first_bound`; and of the number of entries that are not 0, `some_count`, `none_some`, `some_set` and `some_few`.
use Prim.Native.Nat.{ℕ, zero, suc, ◌+◌, ◌≤◌, ◌<◌, min}
use mathlib.Core.Path.{◌≡◌, refl, sym}
use mathlib.Core.List.{List, [], ◌∷◌}
use mathlib.Core.Bool.{Bool, true, false, cond, ◌||◌}
use native.Mathlib.Omega.{arith}
use lib.Dec.{eqb}
use lib.ListN.{length, get_or, set, replicate, length-set}
use borrow.Author.Tests.{eq-eqb, ne_eqb}
use Rattle.laws.proofs.CaseSplits.{by_test, by_equal, by_order}
use Rattle.cores.specs.Assign.{is_among, first_unused}

pub first_same :
    (p q : ℕ → Bool) (core n : ℕ) → ((c : ℕ) → core ≤ c → c < core + n → p c ≡ q c) → first_unused p core n ≡ first_unused q core n
unfolding first_unused
first_same p q core zero same = refl
first_same p q core (suc n) same =
    rw (same core (omega arith) (omega arith), first_same p q (suc core) n (λ c h l. same c (omega arith) (omega arith)))

pub none_unused : (p : ℕ → Bool) (core n : ℕ) → ((c : ℕ) → core ≤ c → c < core + n → p c ≡ true) → first_unused p core n ≡ 0
unfolding first_unused
none_unused p core zero all = refl
none_unused p core (suc n) all =
    rw (all core (omega arith) (omega arith)) (none_unused p (suc core) n (λ c h l. all c (omega arith) (omega arith)))

pub first_is_lem :
    (p : ℕ → Bool) (core n found : ℕ) → ((c : ℕ) → core ≤ c → c < found → p c ≡ true) → core ≤ found → found < core + n → p found ≡ false
    → first_unused p core n ≡ found
unfolding first_unused
first_is_lem p core zero found before from below free = absurd (omega arith)
first_is_lem p core (suc n) found before from below free =
    by_equal core found
    (λ e. rw (e, free))
    (λ ne.
    rw (before core (omega arith) (omega arith))
    (first_is_lem p (suc core) n found (λ c h l. before c (omega arith) l) (omega arith) (omega arith) free))

-- the core that is found: one of the n from `core` on, and not used
pub record Unused (isUsed : ℕ → Bool) (core n found : ℕ) : Type 0 where
  pub from : core ≤ found
  pub below : found < core + n
  pub free : isUsed found ≡ false

-- how many of the n cores from `core` on are used
used_count : (ℕ → Bool) → (core n : ℕ) → ℕ
used_count p core zero = 0
used_count p core (suc n) = cond (p core) 1 0 + used_count p (suc core) n

finds : (p : ℕ → Bool) (core n : ℕ) → used_count p core n < n → Unused p core n (first_unused p core n)
unfolding used_count first_unused
finds p core zero few = absurd (omega arith)
finds p core (suc n) few =
    by_test (p core)
    (λ t.
    let more : used_count p (suc core) n < n = let few' = rw t at few in omega arith in
    let u = finds p (suc core) n more in
    rw t (record { from = omega (arith, u.from); below = omega (arith, u.below); free = u.free }))
    (λ f. rw f (record { from = omega arith; below = omega arith; free = f }))

-- a core that is found among the first n is found among more
first_longer : (p : ℕ → Bool) (core n n' : ℕ) → n ≤ n' → used_count p core n < n → first_unused p core n' ≡ first_unused p core n
unfolding used_count first_unused
first_longer p core zero n' h few = absurd (omega arith)
first_longer p core (suc n) zero h few = absurd (omega arith)
first_longer p core (suc n) (suc n') h few =
    by_test (p core)
    (λ t. let few' = rw t at few in rw t (first_longer p (suc core) n n' (omega arith) (omega arith)))
    (λ f. rw f)

pub first_bound : (p : ℕ → Bool) (core n : ℕ) → 1 ≤ core → first_unused p core n < core + n
unfolding first_unused
first_bound p core zero h = omega arith
first_bound p core (suc n) h =
    by_test (p core) (λ t. rw t (omega (arith, first_bound p (suc core) n (omega arith)))) (λ f. rw f (omega arith))

-- how many entries of a list are not 0
unfoldable pub some_count : List ℕ → ℕ
some_count [] = 0
some_count (x ∷ l) = cond (eqb x 0) 0 1 + some_count l

none_past_lem : (x core n : ℕ) → x < core → used_count (eqb x) core n ≡ 0
unfolding used_count
none_past_lem x core zero h = refl
none_past_lem x core (suc n) h = rw (ne_eqb x core (λ e. omega arith)) (omega (arith, none_past_lem x (suc core) n (omega arith)))

-- one number is one of the n cores at most once, and 0 is none of those from 1 on
one_use : (x core n : ℕ) → 1 ≤ core → used_count (eqb x) core n ≤ cond (eqb x 0) 0 1
unfolding used_count
one_use x core zero h = omega arith
one_use x core (suc n) h =
    by_equal x core
    (λ e. rw (eq-eqb x core e, ne_eqb x 0 (λ z. omega arith)) (omega (arith, none_past_lem x (suc core) n (omega arith))))
    (λ ne. rw (ne_eqb x core ne) (omega (arith, one_use x (suc core) n (omega arith))))

none_used : (core n : ℕ) → used_count (is_among []) core n ≤ 0
unfolding used_count is_among
none_used core zero = omega arith
none_used core (suc n) = omega (arith, none_used (suc core) n)

-- what is used by either is so by one of them
either_used : (p q : ℕ → Bool) (core n : ℕ) → used_count (λ c. p c || q c) core n ≤ used_count p core n + used_count q core n
unfolding used_count
either_used p q core zero = omega arith
either_used p q core (suc n) =
    let rest = either_used p q (suc core) n in
    by_test (p core)
    (λ t. rw t (omega (arith, rest)))
    (λ f. rw f (omega (arith, rest)))

-- each core that is used is so by an entry of its own
used_few : (l : List ℕ) (core n : ℕ) → 1 ≤ core → used_count (is_among l) core n ≤ some_count l
unfolding some_count is_among
used_few [] core n h = none_used core n
used_few (x ∷ l) core n h =
    omega (arith, either_used (eqb x) (is_among l) core n, one_use x core n h, used_few l core n h)

pub some_unused : (l : List ℕ) (n : ℕ) → some_count l < n → Unused (is_among l) 1 n (first_unused (is_among l) 1 n)
some_unused l n few = finds (is_among l) 1 n (omega (arith, used_few l 1 n (omega arith)))

pub none_some : (n : ℕ) → some_count (replicate n 0) ≡ 0
unfolding some_count
none_some zero = refl
none_some (suc n) = omega (arith, none_some n)

-- where fewer than n entries are not 0, the n lowest cores are enough to look at
pub first_within :
    (l : List ℕ) (k n : ℕ) → some_count l < n → first_unused (is_among l) 1 (min k n) ≡ first_unused (is_among l) 1 k
first_within l k n few =
    by_order k n
    (λ h. let e : min k n ≡ k = omega arith in rw e)
    (λ h.
    let e : min k n ≡ n = omega arith in
    rw e (sym (first_longer (is_among l) 1 n k (omega arith) (omega (arith, used_few l 1 n (omega arith))))))

some_bound : (l : List ℕ) → some_count l ≤ length l
unfolding some_count
some_bound [] = omega arith
some_bound (x ∷ l) = by_test (eqb x 0) (λ t. rw t (omega (arith, some_bound l))) (λ f. rw f (omega (arith, some_bound l)))

-- one entry more that is not 0
pub some_set : (l : List ℕ) (i c : ℕ) → i < length l → get_or l i 0 ≡ 0 → 1 ≤ c → some_count (set l i c) ≡ suc (some_count l)
unfolding some_count
some_set [] i c h e some = absurd (omega arith)
some_set (x ∷ l) zero c h e some = rw (eq-eqb x 0 e, ne_eqb c 0 (λ z. omega arith)) (omega arith)
some_set (x ∷ l) (suc i) c h e some = omega (arith, some_set l i c (omega arith) e some)

-- where one entry is 0, not all are some
pub some_few : (l : List ℕ) (i : ℕ) → i < length l → get_or l i 0 ≡ 0 → some_count l < length l
some_few l i h e = omega (arith, some_set l i 1 h e (omega arith), some_bound (set l i 1), length-set l i 1)
