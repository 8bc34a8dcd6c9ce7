-- The search for the smallest of the ranks, turn by turn. Others cite: `Reached` and `Least`, how far it has come, with the turns
-- `reached_idle`, `reached_waiting`, `least_past_idle`, `least_stays` and `reached_rival`, each by the test that was made; and `least_is_next` and
-- `none_is_next`, that where it ends is the next runner.
use Prim.Native.Nat.{ℕ, ◌+◌, ◌≤◌, ◌<◌}
use mathlib.Core.Path.{◌≡◌}
use mathlib.Core.Bool.{true, false, and-false}
use mathlib.Core.List.{List}
use Rattle.std.specs.Prelude.{Some, None}
use native.Mathlib.Numerals.{add-one}
use native.Mathlib.Omega.{arith}
use lib.ListN.{get_or, length}
use borrow.Author.Tests.{lt-ltb, le-ltb, ltb-true, ltb-false, ne_eqb}
use Rattle.laws.proofs.CaseSplits.{by_order, not_both}
use Rattle.laws.proofs.Below.{up}
use Rattle.job.specs.Search.{is_next, next_runner}
use Rattle.job.specs.Rank.{never, waits, rank_precedes, ranked}
use Rattle.job.proofs.Next.{is_next_lem, preceded_not_next, first_next_lem, none_next}

-- Rank i is that of a waiting task, the smallest of the first n, and the first of its size.
pub record Least (l : List ℕ) (n i : ℕ) : Type 0 where
  pub inside : i < n
  pub waits : get_or l i 0 < never
  pub least : (j : ℕ) → j < n → get_or l i 0 ≤ get_or l j 0
  pub first : (j : ℕ) → j < i → get_or l i 0 < get_or l j 0

-- A search that has come to index i: nothing before it waits, or its rank is smaller than all before it.
pub data Reached (l : List ℕ) (i : ℕ) : Type 0 where
  none_waits : ((j : ℕ) → j < i → never ≤ get_or l j 0) → Reached l i
  is_least : i < length l → ((j : ℕ) → j < i → get_or l i 0 < get_or l j 0) → Reached l i

-- What a test of two ranks says.
module _ (x i y j : ℕ) where
  smaller_precedes : x < y → rank_precedes x i y j ≡ true
  unfolding rank_precedes
  smaller_precedes h = rw (lt-ltb x y h)

  -- A rank that is not larger is not preceded by one of a later task.
  not_preceded : y ≤ x → (i < j → y < x) → rank_precedes x i y j ≡ false
  unfolding rank_precedes
  not_preceded le tie =
      rw (le-ltb x y le)
      (by_order j i
      (λ h. rw (le-ltb i j h, and-false))
      (λ h. rw (ne_eqb x y (λ e. omega (arith, tie h)))))

  -- A later task precedes only by a smaller rank.
  rival_smaller : j < i → rank_precedes x i y j ≡ true → x < y
  rival_smaller l e =
      by_order y x
      (λ h. not_both (rank_precedes x i y j) e (not_preceded h (λ k. absurd (omega arith))))
      (λ h. h)

  rival_not_smaller : rank_precedes x i y j ≡ false → y ≤ x
  rival_not_smaller e = by_order y x (λ h. h) (λ h. not_both (rank_precedes x i y j) (smaller_precedes h) e)

module _ {l : List ℕ} where
  -- A task that does not wait is passed.
  pub reached_idle : {i : ℕ} → Reached l i → waits (get_or l i 0) ≡ false → Reached l (i + 1)
  unfolding waits
  reached_idle {i} reached idle =
      rw (add-one i) (none_waits (up (λ j. never ≤ get_or l j 0) i (before reached) (ltb-false _ never idle)))
    where
      before : Reached l i → (j : ℕ) → j < i → never ≤ get_or l j 0
      before (none_waits none) j h = none j h
      before (is_least k first) j h = omega (arith, first j h, ltb-false (get_or l i 0) never idle)

  -- One that waits has the smallest rank so far.
  pub reached_waiting : {i : ℕ} → Reached l i → waits (get_or l i 0) ≡ true → Least l (i + 1) i
  unfolding waits
  reached_waiting {i} reached waiting =
      record {
        inside = omega arith;
        waits = ltb-true _ never waiting;
        least = rw (add-one i) (up (λ j. get_or l i 0 ≤ get_or l j 0) i (λ j h. omega (arith, before reached j h)) (omega arith));
        first = before reached;
      }
    where
      before : Reached l i → (j : ℕ) → j < i → get_or l i 0 < get_or l j 0
      before (none_waits none) j h = omega (arith, none j h, ltb-true (get_or l i 0) never waiting)
      before (is_least k first) j h = first j h

  module _ {n i : ℕ} (so_far : Least l n i) where
    least_beside : get_or l i 0 ≤ get_or l n 0 → Least l (n + 1) i
    least_beside last =
        record {
          inside = omega (arith, so_far.inside);
          waits = so_far.waits;
          least = rw (add-one n) (up (λ j. get_or l i 0 ≤ get_or l j 0) n so_far.least last);
          first = so_far.first;
        }

    -- It stays so beside a task that does not wait, and beside a rival that does not precede it.
    pub least_past_idle : waits (get_or l n 0) ≡ false → Least l (n + 1) i
    unfolding waits
    least_past_idle idle = least_beside (omega (arith, so_far.waits, ltb-false (get_or l n 0) never idle))

    pub least_stays : rank_precedes (get_or l n 0) n (get_or l i 0) i ≡ false → Least l (n + 1) i
    least_stays later = least_beside (rival_not_smaller _ n _ i later)

    -- A rival that precedes it takes its place.
    pub reached_rival : n < length l → rank_precedes (get_or l n 0) n (get_or l i 0) i ≡ true → Reached l n
    reached_rival inside sooner =
        is_least inside (λ j h. omega (arith, so_far.least j h, rival_smaller (get_or l n 0) n (get_or l i 0) i so_far.inside sooner))

-- Where the search ends: the task of the smallest rank is the next runner, or there is none.
module _ (l : List ℕ) where
  waits_at : (i : ℕ) → get_or l i 0 < never → (ranked l).waits i ≡ true
  unfolding ranked waits
  waits_at i h = lt-ltb _ never h

  pub least_is_next : (i : ℕ) → Least l (length l) i → next_runner (ranked l) ≡ Some i
  unfolding ranked
  least_is_next i found =
      let waiting = waits_at i found.waits in
      first_next_lem (ranked l) i found.inside
      (is_next_lem (ranked l) i waiting (λ j h w. not_preceded (get_or l j 0) j (get_or l i 0) i (found.least j h) (found.first j)))
      (λ j h. preceded_not_next (ranked l) j i found.inside waiting (smaller_precedes _ i _ j (found.first j h)))

  pub none_is_next : Reached l (length l) → next_runner (ranked l) ≡ None
  unfolding ranked waits is_next
  none_is_next (none_waits none) = none_next (ranked l) (λ j h. rw (le-ltb (get_or l j 0) never (none j h)))
  none_is_next (is_least h first) = absurd (omega arith)
