-- An open job of a machine that keeps the invariant: `Going`. It goes on past a call that leaves it as it was (`going_same`) and past a slot after
-- which it still owes (`going_on`).
use Prim.Native.Nat.{ℕ, ◌-◌, ◌≤◌, ◌<◌}
use mathlib.Core.Path.{◌≡◌, ◌∙◌}
use mathlib.Core.Bool.{Bool, true, false}
use mathlib.Core.List.{List}
use lib.ListN.{get_or}
use native.Mathlib.Omega.{arith}
use Rattle.laws.specs.Sums.{bit}
use Rattle.edzl.proofs.Invariant.{SameJob}
use Rattle.tasks.specs.TaskSet.{first_tasks, tasks_of}
use Rattle.machine.specs.Machine.{job_at}
use Rattle.machine.specs.Slot.{after_slot}
use Rattle.machine.specs.Cores.{with_assigned}
use Rattle.machine.specs.declared.machine.Machine.{Machine}
use Rattle.machine.proofs.State.{jobs_of}
use Rattle.machine.proofs.SlotStep.{LegalSlot, slot_step}
use Rattle.machine.proofs.Kept.{Kept, kept_slot, slot_on_time}

-- task i has an open job, with l slots left, that owes b
pub record Going (m : Machine) (i l b : ℕ) : Type 0 where
  pub kept : Kept m
  pub inside : i < m.table.count
  pub is_open : (jobs_of m).is_open i ≡ true
  pub left_is : (jobs_of m).left i ≡ l
  pub budget_is : (jobs_of m).budget i ≡ b

module _ {m : Machine} {i l b : ℕ} (going : Going m i l b) where
  pub left_some : 1 ≤ l
  unfolding tasks_of first_tasks
  left_some = omega (arith, going.left_is, (((going.kept.safe 0).shape i going.inside).while_open going.is_open).left_some)

  pub budget_some : 1 ≤ b
  unfolding tasks_of first_tasks
  budget_some = omega (arith, going.budget_is, (((going.kept.safe 0).shape i going.inside).while_open going.is_open).budget_some)

  pub going_same : (m' : Machine) → Kept m' → i < m'.table.count → SameJob (jobs_of m) (jobs_of m') i → Going m' i l b
  going_same m' kept' inside' same =
      record {
        kept = kept';
        inside = inside';
        is_open = same.same_open ∙ going.is_open;
        left_is = same.same_left ∙ going.left_is;
        budget_is = same.same_budget ∙ going.budget_is;
      }

  pub going_on :
      (ran : List Bool) (assigned : List ℕ) → LegalSlot m ran → (b' : ℕ) → b - bit (get_or ran i false) ≡ b' → 1 ≤ b'
      → Going (with_assigned (after_slot m ran) assigned) i (l - 1) b'
  unfolding after_slot with_assigned tasks_of first_tasks jobs_of job_at
  going_on ran assigned legal b' owes some =
      let in_time = slot_on_time m going.kept ran legal i going.inside going.is_open in
      let Open-after = ((slot_step m ran legal).effect i going.inside).stays_open going.is_open in
      let still = Open-after (omega (arith, going.budget_is)) (omega (arith, going.budget_is)) in
      record {
        kept = kept_slot m going.kept ran assigned legal;
        inside = going.inside;
        is_open = still.still_open;
        left_is = rw going.left_is at still.now_left;
        budget_is = omega (arith, still.now_budget, going.budget_is);
      }
