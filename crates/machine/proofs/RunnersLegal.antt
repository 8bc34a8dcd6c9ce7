-- The runners that the machine picks for k cores are a legal choice in the theory's sense, whichever k from its own number of cores on:
-- `runners_legal`. A slot that is not refused by 14 has so many, and at most 16: `enough_cores` and `few_cores`. The runners are as many as
-- `runner_count` says: `runners_number`; so many are open (`runners_open`), and at most 32 (`runners_few`). Where as many run as are open, all that are
-- open do: `all_ran`.
use Prim.Native.Nat.{ℕ, ◌≤◌, ◌<◌}
use mathlib.Core.Path.{◌≡◌}
use mathlib.Core.Bool.{Bool, true, false}
use mathlib.Core.List.{List}
use mathlib.Core.Logic.{inl, inr}
use native.Mathlib.Omega.{arith}
use lib.Dec.{leb}
use lib.ListN.{get_or}
use borrow.Author.Tests.{leb-true, le-leb, lt-leb}
use Rattle.laws.proofs.CaseSplits.{by_order, by_test, not_both}
use Rattle.laws.proofs.Booleans.{and_left, and_right}
use Rattle.laws.specs.Sums.{bit}
use Rattle.laws.proofs.SumLaws.{count_bound, sum_strict, bit_true, bit_false, bit_monotone}
use Rattle.edzl.proofs.Choice.{Beats, more_urgent, both_urgent, neither_urgent, LegalChoice}
use Rattle.tasks.specs.Limits.{max_tasks, max_cores}
use Rattle.job.specs.Job.{is_urgent}
use Rattle.job.proofs.Order.{by_urgency_lem, by_left, holds}
use Rattle.machine.specs.Machine.{job_at}
use Rattle.machine.specs.Pick.{open_count, precedes, candidates, runner_count, runners}
use Rattle.machine.specs.Slot.{ran_count}
use Rattle.machine.specs.Sound.{sound}
use Rattle.machine.specs.Calls.{slot_cores_in_range}
use Rattle.machine.specs.declared.machine.Machine.{Machine}
use Rattle.machine.proofs.State.{jobs_of}
use Rattle.machine.proofs.SoundLaws.{sound_passes}
use Rattle.machine.proofs.SlotStep.{LegalSlot}
use Rattle.machine.proofs.Waiting.{open_waits}
use Rattle.machine.proofs.PickLaws.{Picked, picks}

-- An open task that beats another in the theory's sense precedes it.
module _ (m : Machine) (x y : ℕ) (open-x : (job_at m x).«open» ≡ true) (open-y : (job_at m y).«open» ≡ true) where
  beats_precedes : Beats (jobs_of m) x y → precedes m x y ≡ true
  unfolding jobs_of is_urgent precedes
  beats_precedes (more_urgent u c) = holds _ x _ y (by_urgency_lem (rw (open-x, le-leb _ _ u)) (rw (open-y, lt-leb _ _ c)))
  beats_precedes (both_urgent u v l) = holds _ x _ y (by_left (rw (open-x, le-leb _ _ u, open-y, le-leb _ _ v)) l)
  beats_precedes (neither_urgent c d l) = holds _ x _ y (by_left (rw (open-x, lt-leb _ _ c, open-y, lt-leb _ _ d)) l)

-- Where only open tasks run, and as many as are open, every open task runs.
pub all_ran :
    (m : Machine) (ran : List Bool) → ((i : ℕ) → i < m.table.count → get_or ran i false ≡ true → (job_at m i).«open» ≡ true)
    → open_count m ≤ ran_count m ran → (i : ℕ) → i < m.table.count → (job_at m i).«open» ≡ true → get_or ran i false ≡ true
unfolding open_count ran_count
all_ran m ran opened enough i l o =
    by_test (get_or ran i false)
    (λ runs. runs)
    (λ idle.
    absurd
    (omega (
      arith,
      sum_strict (λ j. bit (get_or ran j false)) (λ j. bit (job_at m j).«open») m.table.count i l
          (λ j h. bit_monotone (get_or ran j false) (job_at m j).«open» (opened j h))
          (omega (arith, bit_false (get_or ran i false) idle, bit_true (job_at m i).«open» o)),
    )))

pub runners_open : (m : Machine) (k : ℕ) → runner_count m k ≤ open_count m
unfolding runner_count
runners_open m k = omega arith

module _ (m : Machine) (k : ℕ) (fits : m.table.count ≤ max_tasks) where
  pub runners_few : runner_count m k ≤ max_tasks
  unfolding open_count
  runners_few = omega (arith, runners_open m k, count_bound (λ i. (job_at m i).«open») m.table.count)

  all_runners : Picked m (runner_count m k)
  all_runners = picks m fits (runner_count m k) (runners_open m k)

  runner_open : (i : ℕ) → get_or (runners m k) i false ≡ true → (job_at m i).«open» ≡ true
  unfolding runners
  runner_open = all_runners.opened

  pub runners_number : ran_count m (runners m k) ≡ runner_count m k
  unfolding runners ran_count
  runners_number = all_runners.number

  legal_choice : m.cores ≤ k → LegalChoice m.table.count m.cores (λ i. get_or (runners m k) i false) (jobs_of m)
  unfolding jobs_of candidates ran_count runner_count runners
  legal_choice enough =
      record {
        runner_open = λ i h. runner_open i;
        enough =
            by_order k (open_count m)
            (λ h. inl (omega (arith, runners_number)))
            (λ h. inr (all_ran m (runners m k) (λ i h. runner_open i) (omega (arith, runners_number))));
        none_beaten_lem = λ x y x-in y-in open-x idle runs beats.
            not_both (precedes m x y)
            (beats_precedes m x y open-x (runner_open y runs) beats)
            (all_runners.first y runs x x-in (open_waits m (runners m k) x open-x idle));
      }

pub enough_cores : (m : Machine) (k : ℕ) → slot_cores_in_range m k ≡ true → m.cores ≤ k
unfolding slot_cores_in_range
enough_cores m k in_range_lem = leb-true _ _ (and_left _ _ in_range_lem)

pub few_cores : (m : Machine) (k : ℕ) → slot_cores_in_range m k ≡ true → k ≤ max_cores
unfolding slot_cores_in_range
few_cores m k in_range_lem = leb-true _ _ (and_right (leb m.cores k) _ in_range_lem)

pub runners_legal : (m : Machine) (k : ℕ) → sound m ≡ true → m.cores ≤ k → LegalSlot m (runners m k)
runners_legal m k is_sound enough =
    record { is_sound = is_sound; choice = legal_choice m k (sound_passes m is_sound).count_fits enough }
