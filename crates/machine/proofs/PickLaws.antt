-- The first picks. Others cite: `picks`, that the first k are open, k in number and preceded by none that waits (`Picked`); `length_pick`; and
-- `next_in`, that while fewer are picked than are open there is a next runner.
use Prim.Native.Nat.{ℕ, zero, suc, ◌≤◌, ◌<◌}
use mathlib.Core.Path.{◌≡◌, refl, sym, ◌∙◌, subst}
use mathlib.Core.Bool.{Bool, true, false}
use mathlib.Core.List.{List}
use Rattle.std.specs.Prelude.{Option, Some, None}
use native.Mathlib.Omega.{arith}
use lib.ListN.{get_or, set, length, length-set, length-replicate}
use lib.Seq.{get_or-set_same, get_or-set_other}
use Rattle.laws.proofs.CaseSplits.{by_equal, not_both}
use Rattle.laws.proofs.Replaced.{replicate_entry}
use Rattle.laws.specs.Sums.{sum_to, bit}
use Rattle.laws.proofs.SumLaws.{sum_bound, sum_one_more, bit_true, bit_false}
use Rattle.tasks.specs.Limits.{max_tasks}
use Rattle.job.proofs.Next.{Behind, Found}
use Rattle.machine.specs.Machine.{job_at}
use Rattle.machine.specs.Pick.{open_count, waiting, candidates, with_picked, pick}
use Rattle.machine.specs.declared.machine.Machine.{Machine}
use Rattle.machine.proofs.Waiting.{waits_open, waits_unpicked, open_waits, some_next}

-- Task i is one of the first k in precedence.
abbrev is_picked : Machine → (k i : ℕ) → Bool
is_picked m k i = get_or (pick m k) i false

-- What holds of the first k picks: they are open, k in number among the tasks of the table, and no task that still waits precedes one of them.
pub record Picked (m : Machine) (k : ℕ) : Type 0 where
  pub opened : (i : ℕ) → is_picked m k i ≡ true → (job_at m i).«open» ≡ true
  pub number : sum_to m.table.count (λ i. bit (is_picked m k i)) ≡ k
  pub first : (y : ℕ) → is_picked m k y ≡ true → (x : ℕ) → x < m.table.count → Behind (candidates m (pick m k)) y x

length_with : (picked : List Bool) (next : Option ℕ) → length (with_picked picked next) ≡ length picked
unfolding with_picked
length_with picked None = refl
length_with picked (Some i) = length-set picked i true

module _ (m : Machine) where
  pub length_pick : (k : ℕ) → length (pick m k) ≡ max_tasks
  unfolding pick
  length_pick zero = length-replicate max_tasks false
  length_pick (suc k) = length_with (pick m k) _ ∙ length_pick k

  none_picked : (i : ℕ) → is_picked m 0 i ≡ false
  unfolding pick
  none_picked i = replicate_entry max_tasks i false

  picked_none : Picked m 0
  picked_none =
      record {
        opened = λ i p. not_both (is_picked m 0 i) p (none_picked i);
        number =
            omega (
              arith,
              sum_bound (λ i. bit (is_picked m 0 i)) 0 m.table.count
                  (λ i h. omega (arith, bit_false (is_picked m 0 i) (none_picked i))),
            );
        first = λ y p. not_both (is_picked m 0 y) p (none_picked y);
      }

module _ (m : Machine) (fits : m.table.count ≤ max_tasks) where
  module _ (k : ℕ) (picked : Picked m k) (more : k < open_count m) where
    next : Found (candidates m (pick m k))
    next = some_next m (pick m k) (omega (arith, picked.number))

    runner : ℕ
    runner = next.index

    picks_one : pick m (suc k) ≡ set (pick m k) runner true
    unfolding pick with_picked runner
    picks_one = rw next.index_is

    now_picked : is_picked m (suc k) runner ≡ true
    unfolding runner candidates
    now_picked = rw picks_one (get_or-set_same (pick m k) runner true false (omega (arith, length_pick m k, next.next.inside)))

    others_same : (i : ℕ) → (i ≡ runner → ⊥) → is_picked m (suc k) i ≡ is_picked m k i
    others_same i ne = rw picks_one (get_or-set_other (pick m k) runner i true false ne)

    -- What holds of the new runner and of those before it holds of all.
    each : (P : ℕ → Type 0) → P runner → ((i : ℕ) → is_picked m k i ≡ true → P i) → (i : ℕ) → is_picked m (suc k) i ≡ true → P i
    each P new old i p =
        by_equal i runner
        (λ e. subst P (sym e) new)
        (λ ne. old i (sym (others_same i ne) ∙ p))

    -- What waits now did so before.
    waited : (i : ℕ) → waiting m (pick m (suc k)) i ≡ true → waiting m (pick m k) i ≡ true
    unfolding runner candidates
    waited i w =
        open_waits m (pick m k) i (waits_open m (pick m (suc k)) i w)
        (by_equal i runner
        (λ e. rw e (waits_unpicked m (pick m k) runner next.next.waits))
        (λ ne. sym (others_same i ne) ∙ waits_unpicked m (pick m (suc k)) i w))

    picked_more : Picked m (suc k)
    unfolding runner candidates
    picked_more =
        record {
          opened =
              each (λ i. (job_at m i).«open» ≡ true) (waits_open m (pick m k) runner next.next.waits) picked.opened;
          number =
              omega (
                arith,
                picked.number,
                sum_one_more (λ i. bit (is_picked m k i)) (λ i. bit (is_picked m (suc k) i)) runner m.table.count
                    next.next.inside
                    (omega (
                      arith,
                      bit_true (is_picked m (suc k) runner) now_picked,
                      bit_false (is_picked m k runner) (waits_unpicked m (pick m k) runner next.next.waits),
                    ))
                    (λ i ne. rw (others_same i ne)),
              );
          first =
              each (λ y. (x : ℕ) → x < m.table.count → Behind (candidates m (pick m (suc k))) y x)
              (λ x h w. next.next.first x h (waited x w))
              (λ y p x h w. picked.first y p x h (waited x w));
        }

  pub picks : (k : ℕ) → k ≤ open_count m → Picked m k
  picks zero h = picked_none m
  picks (suc k) h = picked_more k (picks k (omega arith)) h

  pub next_in : (k : ℕ) → k < open_count m → Found (candidates m (pick m k))
  next_in k more = next k (picks k (omega arith)) more
