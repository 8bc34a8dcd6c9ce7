-- The cores of a sound machine's runners: each has one of 1 to k, no two share one, and no other task has one. Others cite `Placed` and `runners_placed`;
-- and `runners_inside`, that only tasks of the table run.
use Prim.Native.Nat.{ℕ, ◌≤◌, ◌<◌}
use mathlib.Core.Path.{◌≡◌, sym, ◌∙◌}
use mathlib.Core.Bool.{Bool, true, false}
use mathlib.Core.List.{List}
use native.Mathlib.Omega.{arith}
use lib.ListN.{length, get_or, take}
use lib.Seq.{get_or-take}
use Rattle.laws.specs.Sums.{sum_to, bit}
use Rattle.laws.proofs.SumLaws.{sum_same}
use Rattle.cores.specs.Assign.{is_among}
use Rattle.cores.proofs.AmongLaws.{among_few}
use Rattle.cores.proofs.RecordLaws.{sound_apart}
use Rattle.cores.proofs.OwnCores.{Assigned, assigned_all}
use Rattle.tasks.specs.Limits.{max_tasks}
use Rattle.machine.specs.Pick.{runner_count, runners}
use Rattle.machine.specs.Cores.{runner_order, slot_assignment}
use Rattle.machine.specs.Sound.{sound}
use Rattle.machine.specs.declared.machine.Machine.{Machine}
use Rattle.machine.proofs.SoundLaws.{sound_passes, sound_cores}
use Rattle.machine.proofs.PickLaws.{length_pick}
use Rattle.machine.proofs.RunnersLegal.{runners_open}
use Rattle.machine.proofs.RunnerOrder.{listed_picked, listed_distinct, listed_inside, listed_length}

-- who ran in a slot with k cores, and where; a task that is not in the lists did not run and has no core
pub record Placed (k : ℕ) (ran : List Bool) (assigned : List ℕ) : Type 0 where
  pub some : (i : ℕ) → get_or ran i false ≡ true → 1 ≤ get_or assigned i 0
  pub within : (i : ℕ) → get_or assigned i 0 ≤ k
  pub apart : (i j : ℕ) → get_or assigned i 0 ≡ get_or assigned j 0 → 1 ≤ get_or assigned i 0 → i ≡ j
  pub only : (i : ℕ) → 1 ≤ get_or assigned i 0 → get_or ran i false ≡ true
  pub all_tasks : length ran ≡ max_tasks
  -- no more ran than there are cores
  pub few : (n : ℕ) → sum_to n (λ i. bit (get_or ran i false)) ≤ k

module _ (m : Machine) (k : ℕ) (ok : sound m ≡ true) where
  -- the runners, in precedence
  abbrev n : ℕ
  n = runner_count m k

  listed_ran : (i : ℕ) → is_among (runner_order m n) i ≡ get_or (runners m k) i false
  unfolding runners
  listed_ran = listed_picked m (sound_passes m ok).count_fits n (runners_open m k)

  inside : (i : ℕ) → is_among (runner_order m n) i ≡ true → i < m.table.count
  inside = listed_inside m (sound_passes m ok).count_fits n (runners_open m k)

  pub runners_inside : (i : ℕ) → get_or (runners m k) i false ≡ true → i < m.table.count
  runners_inside i ran = inside i (listed_ran i ∙ ran)

  -- no two of them have one core recorded
  recorded_apart :
      (i j : ℕ) → is_among (runner_order m n) i ≡ true → is_among (runner_order m n) j ≡ true
      → get_or m.assigned i 0 ≡ get_or m.assigned j 0 → 1 ≤ get_or m.assigned i 0 → i ≡ j
  recorded_apart i j ri rj same some =
      let a = sound_apart (take m.table.count m.assigned) (sound_cores m ok) in
      let at_i = get_or-take m.table.count m.assigned i 0 (inside i ri) in
      let at_j = get_or-take m.table.count m.assigned j 0 (inside j rj) in
      a.apart i j (at_i ∙ same ∙ sym at_j) (rw at_i some)

  all_flags : length (runners m k) ≡ max_tasks
  unfolding runners
  all_flags = length_pick m n

  few_listed : length (runner_order m n) ≤ k
  unfolding runner_count
  few_listed = omega (arith, listed_length m (sound_passes m ok).count_fits n)

  few_ran : (c : ℕ) → sum_to c (λ i. bit (get_or (runners m k) i false)) ≤ k
  few_ran c =
      omega (
        arith,
        sum_same (λ i. bit (is_among (runner_order m n) i)) (λ i. bit (get_or (runners m k) i false)) c (λ i h. rw (listed_ran i)),
        among_few (runner_order m n) c,
        few_listed,
      )

  all_assigned : Assigned k (runner_order m n) (slot_assignment m k)
  unfolding slot_assignment
  all_assigned =
      assigned_all m.assigned k (runner_order m n)
      (listed_distinct m (sound_passes m ok).count_fits n (runners_open m k))
      (record { inside = λ i e. omega (arith, inside i e, (sound_passes m ok).count_fits) })
      few_listed
      recorded_apart

  pub runners_placed : Placed k (runners m k) (slot_assignment m k)
  runners_placed =
      let a = all_assigned in
      record {
        some = λ i e. a.some i (listed_ran i ∙ e);
        within = a.within;
        apart = a.apart;
        only = λ i e. sym (listed_ran i) ∙ a.only i e;
        all_tasks = all_flags;
        few = few_ran;
      }
