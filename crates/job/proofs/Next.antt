-- The next runner. Others cite: `Strict` and `next_runner_lem`, that in a strict order, where a task waits, `next_runner` is a waiting task that no
-- other precedes (`Next`); `first_next_lem` and `none_next`, what a search has to show of the task that it finds, or where it finds none; and
-- `same_runner`, that searches alike in who waits and who precedes whom find the same.
use Prim.Native.Nat.{ℕ, zero, suc, ◌+◌, ◌-◌, ◌≤◌, ◌<◌}
use mathlib.Core.Path.{◌≡◌, refl, ap, ◌∙◌}
use mathlib.Core.Bool.{true, false, ◌&&◌}
use Rattle.std.specs.Prelude.{Some, None}
use native.Mathlib.Nat.{sub-zero}
use native.Mathlib.Omega.{arith}
use borrow.Author.Tests.{not-true}
use Rattle.laws.proofs.CaseSplits.{by_test, not_both}
use Rattle.laws.proofs.Booleans.{and_left, and_right}
use Rattle.laws.proofs.Below.{down, up, first_true}
use Rattle.job.specs.Search.{Candidates, unpreceded, is_next, first_next, next_runner}

-- Precedence among the tasks of a search is a strict order.
pub record Strict (q : Candidates) : Type 0 where
  pub not_self : (i : ℕ) → q.precedes i i ≡ false
  pub trans : (i j k : ℕ) → q.precedes i j ≡ true → q.precedes j k ≡ true → q.precedes i k ≡ true

-- Where task j waits, it does not precede task i.
abbrev pub Behind : Candidates → (i j : ℕ) → Type 0
Behind q i j = q.waits j ≡ true → q.precedes j i ≡ false

-- Task i waits, and no waiting task precedes it.
pub record Next (q : Candidates) (i : ℕ) : Type 0 where
  pub inside : i < q.count
  pub waits : q.waits i ≡ true
  pub first : (j : ℕ) → j < q.count → Behind q i j

-- The search ends at a task that is next.
pub record Found (q : Candidates) : Type 0 where
  pub index : ℕ
  pub index_is : next_runner q ≡ Some index
  pub next : Next q index

-- The tests, what they say, and where the search ends.
module _ (q : Candidates) where
  test_passes : (i n : ℕ) → ((j : ℕ) → j < n → Behind q i j) → unpreceded q i n ≡ true
  unfolding unpreceded
  test_passes i zero h = refl
  test_passes i (suc n) h =
      rw (test_passes i n (down n h))
      (by_test (q.waits n) (λ w. rw (w, h n (omega arith) w)) (λ c. rw c))

  test_says : (i n : ℕ) → unpreceded q i n ≡ true → (j : ℕ) → j < n → Behind q i j
  unfolding unpreceded
  test_says i zero e = λ j h. absurd (omega arith)
  test_says i (suc n) e =
      up (Behind q i) n
      (test_says i n (and_left (unpreceded q i n) _ e))
      (λ w. rw w at (not-true (q.waits n && q.precedes n i) (and_right (unpreceded q i n) _ e)))

  pub is_next_lem : (i : ℕ) → q.waits i ≡ true → ((j : ℕ) → j < q.count → Behind q i j) → is_next q i ≡ true
  unfolding is_next
  is_next_lem i waits first = rw (waits, test_passes i q.count first)

  pub preceded_not_next : (i j : ℕ) → j < q.count → q.waits j ≡ true → q.precedes j i ≡ true → is_next q i ≡ false
  unfolding is_next
  preceded_not_next i j h w sooner =
      by_test (is_next q i)
      (λ e. not_both (q.precedes j i) sooner (test_says i q.count (and_right (q.waits i) _ e) j h w))
      (λ e. e)

  -- The search passes the tasks that are not next.
  reaches : (k : ℕ) → k ≤ q.count → ((j : ℕ) → j < k → is_next q j ≡ false) → next_runner q ≡ first_next q k (q.count - k)
  unfolding next_runner first_next
  reaches zero fits none = rw (sub-zero q.count)
  reaches (suc k) fits none =
      let more : q.count - k ≡ suc (q.count - suc k) = omega arith in
      reaches k (omega arith) (down k none) ∙ rw (more, none k (omega arith))

  pub first_next_lem : (k : ℕ) → k < q.count → is_next q k ≡ true → ((j : ℕ) → j < k → is_next q j ≡ false) → next_runner q ≡ Some k
  unfolding first_next
  first_next_lem k h e before =
      let more : q.count - k ≡ suc (q.count - suc k) = omega arith in
      reaches k (omega arith) before ∙ rw (more, e)

  pub none_next : ((j : ℕ) → j < q.count → is_next q j ≡ false) → next_runner q ≡ None
  unfolding first_next
  none_next none =
      let end : q.count - q.count ≡ 0 = omega arith in
      reaches q.count (omega arith) none ∙ rw end

-- In a strict order, where a task waits, there is a next one.
module _ (q : Candidates) (strict : Strict q) where
  -- What is behind task i is behind a task that precedes it.
  behind_both : (n i : ℕ) → q.precedes n i ≡ true → (j : ℕ) → Behind q i j → Behind q n j
  behind_both n i sooner j behind w =
      by_test (q.precedes j n)
      (λ p. not_both (q.precedes j i) (strict.trans j n i p sooner) (behind w))
      (λ p. p)

  module _ (k : ℕ) (h : k < q.count) (w : q.waits k ≡ true) where
    -- A waiting task that none of the first n precedes: the last one of these that preceded the one before, or task k.
    best : (n : ℕ) → n ≤ q.count → (i : ℕ) × (i < q.count) × (q.waits i ≡ true) × ((j : ℕ) → j < n → Behind q i j)
    best zero fits = (k, h, w, λ j l. absurd (omega arith))
    best (suc n) fits =
        let (i, inside, waits, first) = best n (omega arith) in
        by_test (q.waits n && q.precedes n i)
        (λ e.
        let sooner = and_right (q.waits n) _ e in
        (n, fits, and_left (q.waits n) _ e, up (Behind q n) n (λ j l. behind_both n i sooner j (first j l)) (λ v. strict.not_self n)))
        (λ e. (i, inside, waits, up (Behind q i) n first (λ v. rw v at e)))

    pub next_runner_lem : Found q
    unfolding is_next
    next_runner_lem =
        let (i, inside, waits, first) = best q.count (omega arith) in
        let (j, within, test, before) = first_true (is_next q) i (is_next_lem q i waits first) in
        record {
          index = j;
          index_is = first_next_lem q j (omega arith) test before;
          next =
              record {
                inside = omega arith;
                waits = and_left (q.waits j) _ test;
                first = test_says q j q.count (and_right (q.waits j) _ test);
              };
        }

-- Two searches over as many tasks, alike in who waits and, among those, in who precedes whom.
module _
    (q p : Candidates)
    (as_many : q.count ≡ p.count)
    (same_waits : (i : ℕ) → i < p.count → q.waits i ≡ p.waits i)
    (same_order : (i j : ℕ) → i < p.count → j < p.count → p.waits i ≡ true → p.waits j ≡ true → q.precedes i j ≡ p.precedes i j)
  where
    same_test : (i : ℕ) → i < p.count → p.waits i ≡ true → (n : ℕ) → n ≤ p.count → unpreceded q i n ≡ unpreceded p i n
    unfolding unpreceded
    same_test i h w zero fits = refl
    same_test i h w (suc n) fits =
        rw (same_test i h w n (omega arith), same_waits n (omega arith))
        (by_test (p.waits n) (λ v. rw (v, same_order n i (omega arith) h v w)) (λ c. rw c))

    same_next : (i : ℕ) → i < p.count → is_next q i ≡ is_next p i
    unfolding is_next
    same_next i h =
        by_test (p.waits i)
        (λ w. rw (same_waits i h, w) (ap (unpreceded q i) as_many ∙ same_test i h w p.count (omega arith)))
        (λ c. rw (same_waits i h, c))

    same_first : (i n : ℕ) → i + n ≤ p.count → first_next q i n ≡ first_next p i n
    unfolding first_next
    same_first i zero fits = refl
    same_first i (suc n) fits = rw (same_next i (omega arith), same_first (suc i) n (omega arith))

    pub same_runner : next_runner q ≡ next_runner p
    unfolding next_runner
    same_runner = ap (first_next q 0) as_many ∙ same_first 0 p.count (omega arith)
