-- A call by its kind: it was refused, it was accepted and is no slot (`Silent`: it reports nothing), or it is an accepted slot. Others cite `by_kind` where
-- it does not matter which call was silent; `by_call` (CallCases.antt) goes by each call.
use Rattle.std.proofs.Common.{Some}
use Prim.Native.Nat.{ℕ, suc, ◌-◌, ◌≤◌, ◌<◌}
use mathlib.Core.Path.{◌≡◌, refl}
use mathlib.Core.Bool.{Bool, true, false}
use mathlib.Core.List.{List}
use native.Mathlib.Nat.{le_refl}
use native.Mathlib.Omega.{arith}
use lib.ListN.{length, length-set}
use lib.Seq.{get_or-set_other}
use borrow.Author.Tests.{eqb-false}
use Rattle.laws.proofs.CaseSplits.{by_equal, not_both, clash}
use Rattle.tasks.specs.declared.task.Task.{Task}
use Rattle.tasks.specs.declared.refusals.Refusal.{Refusal}
use Rattle.tasks.specs.Table.{with_task}
use Rattle.machine.specs.Machine.{job_at, core_at, with_job, holding}
use Rattle.machine.specs.Slot.{no_report}
use Rattle.machine.specs.Calls.{with_joined, step}
use Rattle.machine.specs.InTime.{is_slot, is_finish_of, Point, with_offered, point_by}
use Rattle.machine.specs.declared.machine.Machine.{Machine}
use Rattle.machine.specs.declared.call.Call.{Call}
use Rattle.machine.specs.declared.call.Call.TheVariants.{Release, Finish, Slot, Offer, Commit}
use Rattle.machine.specs.declared.answer.Answer.{Answer}
use Rattle.machine.proofs.State.{job_other}
use Rattle.machine.proofs.CallCases.{RefusedBy, ReleaseTaken, FinishTaken, SlotTaken, CommitTaken, refused, accepted, slot_answer, after_release, after_finish, by_call}
use Rattle.machine.proofs.JobSteps.{old_job}

-- the machine's table and what it holds, as a log tells them
unfoldable pub point_of : Machine → Point
point_of m = record { table = m.table; offered = m.held }

-- an accepted release of this task with this need made the machine m'
pub record Opened (m m' : Machine) (number need : ℕ) : Type 0 where
  pub taken : ReleaseTaken m number need
  pub after : m' ≡ after_release m number need

-- what holds of every accepted call that is no slot and made the machine m'
pub record Silent (m : Machine) (call : Call) (m' : Machine) : Type 0 where
  pub no_slot : is_slot call ≡ false
  -- the table and what is held are what the claim of demand 3 reads from the call
  pub point_is : point_of m' ≡ point_by call (point_of m)
  pub no_fewer : m.table.count ≤ m'.table.count
  -- the recorded cores stay
  pub record_long : length m'.assigned ≡ length m.assigned
  pub record_stays : (i : ℕ) → i < m.table.count → core_at m' i ≡ core_at m i
  -- an open job stays as it was, but for a finish of it
  pub job_stays : (i : ℕ) → i < m.table.count → (job_at m i).«open» ≡ true → is_finish_of (suc i) call ≡ false → job_at m' i ≡ job_at m i
  pub opened : (number need : ℕ) → call ≡ Release number need → Opened m m' number need

module _ (m : Machine) where
  silent_release : (number need : ℕ) → ReleaseTaken m number need → Silent m (Release number need) (after_release m number need)
  unfolding is_slot point_of point_by core_at after_release with_job
  silent_release number need taken =
      record {
        no_slot = refl;
        point_is = refl;
        no_fewer = le_refl _;
        record_long = refl;
        record_stays = λ i h. refl;
        job_stays = λ i h o other.
            by_equal i (number - 1)
            (λ e. not_both (job_at m i).«open» o (rw e taken.was_closed))
            (λ ne. job_other m (number - 1) _ i ne);
        opened = λ n e c.
            let same : number ≡ n = cc in
            let same-need : need ≡ e = cc in
            rw (← same, ← same-need) (record { taken = taken; after = refl });
      }

  silent_finish : (number : ℕ) → FinishTaken m number → Silent m (Finish number) (after_finish m number)
  unfolding is_slot is_finish_of point_of point_by core_at after_finish with_job
  silent_finish number taken =
      record {
        no_slot = refl;
        point_is = refl;
        no_fewer = le_refl _;
        record_long = refl;
        record_stays = λ i h. refl;
        job_stays = λ i h o other.
            job_other m (number - 1) _ i (λ e. eqb-false number (suc i) other (omega (arith, taken.task.some)));
        opened = λ n e c. clash cc;
      }

  silent_offer : (t : Task) → Silent m (Offer t) (holding m (Some t))
  unfolding is_slot point_of point_by core_at job_at holding
  silent_offer t =
      record {
        no_slot = refl;
        point_is = refl;
        no_fewer = le_refl _;
        record_long = refl;
        record_stays = λ i h. refl;
        job_stays = λ i h o other. refl;
        opened = λ n e c. clash cc;
      }

  silent_commit : (t : Task) → CommitTaken m t → Silent m Commit (with_joined m t)
  unfolding is_slot point_of point_by with_offered core_at with_joined with_task
  silent_commit t taken =
      record {
        no_slot = refl;
        point_is = rw taken.held_is_lem;
        no_fewer = omega arith;
        record_long = length-set m.assigned m.table.count 0;
        record_stays = λ i h. get_or-set_other m.assigned m.table.count i 0 0 (λ e. omega arith);
        job_stays = λ i h o other. old_job m t i h;
        opened = λ n e c. clash cc;
      }

-- what holds of a refused call's answer, of a silent call's and of an accepted slot's holds of every call's
module _
    (m : Machine)
    (P : Call → Answer → Type 0)
    (on_refusal : (call : Call) (why : Refusal) → RefusedBy m why → P call (refused m why))
    (on-silent : (call : Call) (m' : Machine) → Silent m call m' → P call (accepted m' no_report))
    (on_slot : (k : ℕ) (ran : List Bool) (assigned : List ℕ) → SlotTaken m k ran assigned → P (Slot k) (slot_answer m ran assigned))
  where
    pub by_kind : (call : Call) → P call (step m call)
    by_kind =
        by_call m P on_refusal
        (λ number need taken. on-silent _ _ (silent_release m number need taken))
        (λ number taken. on-silent _ _ (silent_finish m number taken))
        on_slot
        (λ t taken. on-silent _ _ (silent_offer m t))
        (λ t taken. on-silent _ _ (silent_commit m t taken))
