-- A slot of a sound machine in which a legal choice of its tasks ran (`LegalSlot`) is one of the theory's. Others cite: `slot_step`;
-- `after_slot_job`, each job after the slot, whoever ran; and `late_is` and `finished_is`, on the report.
use Prim.Native.Nat.{ℕ, ◌-◌, ◌≤◌, ◌<◌}
use mathlib.Core.Path.{◌≡◌, sym, ◌∙◌}
use mathlib.Core.Bool.{Bool, true, false, not, ◌&&◌}
use mathlib.Core.List.{List}
use native.Mathlib.Omega.{arith}
use lib.Dec.{eqb}
use lib.ListN.{get_or, length, replicate, length-replicate, get_or-eq_default}
use borrow.Author.Tests.{eqb-true, eqb-false, eq-eqb, not-true}
use Rattle.laws.specs.Sums.{bit}
use Rattle.laws.proofs.CaseSplits.{by_order, by_equal, not_both}
use Rattle.laws.proofs.Booleans.{and_left, and_right}
use Rattle.laws.specs.Lists.{replaced}
use Rattle.laws.proofs.Replaced.{replicate_entry, replaced_at, replaced_past, replaced_short}
use Rattle.edzl.proofs.Invariant.{NoJob}
use Rattle.edzl.proofs.Choice.{LegalChoice}
use Rattle.edzl.proofs.Slot.{StillOpen, SlotEffect, Slotted}
use Rattle.tasks.specs.Limits.{max_tasks}
use Rattle.tasks.specs.TaskSet.{first_tasks, tasks_of}
use Rattle.job.specs.Job.{fresh_job, closed_job}
use Rattle.machine.specs.Machine.{job_at}
use Rattle.job.specs.Slot.{charged, aged, is_finished, is_late, settled}
use Rattle.machine.specs.Slot.{passed, slot_report, after_slot}
use Rattle.machine.specs.Sound.{sound}
use Rattle.machine.specs.declared.machine.Machine.{Machine}
use Rattle.job.proofs.SlotLaws.{settled_gap, settled_closed, settled_finished, settled_late, settled_open, fresh_stays}
use Rattle.machine.proofs.State.{jobs_of}
use Rattle.machine.proofs.SoundLaws.{sound_passes, sound_closed}

-- The machine is sound, and whoever is said to have run is a legal choice for its cores. It need not be the machine's own pick.
pub record LegalSlot (m : Machine) (ran : List Bool) : Type 0 where
  pub is_sound : sound m ≡ true
  pub choice : LegalChoice m.table.count m.cores (λ i. get_or ran i false) (jobs_of m)

module _ (m : Machine) (ran : List Bool) where
  fresh_after : (i : ℕ) → job_at m i ≡ fresh_job → settled (passed m ran i) ≡ fresh_job
  unfolding passed
  fresh_after i none = rw none (fresh_stays _)

  pub after_slot_job : (i : ℕ) → i < m.table.count → job_at (after_slot m ran) i ≡ settled (passed m ran i)
  unfolding job_at after_slot
  after_slot_job i h =
      by_order (length m.jobs) i
      (λ short.
      replaced_short (λ i. settled (passed m ran i)) m.jobs fresh_job m.table.count i short
      ∙ sym (fresh_after i (get_or-eq_default m.jobs fresh_job short)))
      (λ long. replaced_at (λ i. settled (passed m ran i)) m.jobs fresh_job m.table.count i h long)

-- A task reported late: its job was open, and after steps 2 and 3 it still owes a slot and has none left.
pub record Late (m : Machine) (ran : List Bool) (i : ℕ) : Type 0 where
  pub inside : i < m.table.count
  pub was_open : (jobs_of m).is_open i ≡ true
  pub owes : (jobs_of m).budget i - bit (get_or ran i false) ≡ 0 → ⊥
  pub out : (jobs_of m).left i - 1 ≡ 0

module _ (m : Machine) (ran : List Bool) (i : ℕ) (ok : sound m ≡ true) where
  -- An entry of the report.
  reported : (f : ℕ → Bool) → i < m.table.count → get_or (replaced m.table.count f (replicate max_tasks false)) i false ≡ f i
  reported f h =
      replaced_at f (replicate max_tasks false) false m.table.count i h
      (omega (arith, length-replicate max_tasks false, (sound_passes m ok).count_fits))

  -- No task past the count is reported late.
  late_past : (assigned : List ℕ) → m.table.count ≤ i → get_or (slot_report m ran assigned).late i false ≡ false
  unfolding slot_report
  late_past assigned h =
      replaced_past (λ i. is_late (passed m ran i)) (replicate max_tasks false) false m.table.count i h
      ∙ replicate_entry max_tasks i false

  passed_left : (jobs_of m).is_open i ≡ true → (passed m ran i).left ≡ (jobs_of m).left i - 1
  unfolding passed aged charged jobs_of
  passed_left o = rw o

  late_inside : i < m.table.count → is_late (passed m ran i) ≡ true → Late m ran i
  unfolding is_late passed aged charged jobs_of
  late_inside h e =
      let first = (passed m ran i).«open» && not (eqb (passed m ran i).budget 0) in
      let was_open = and_left (passed m ran i).«open» _ (and_left first _ e) in
      record {
        inside = h;
        was_open = was_open;
        owes = eqb-false _ _ (not-true _ (and_right (passed m ran i).«open» _ (and_left first _ e)));
        out = sym (passed_left was_open) ∙ eqb-true _ _ (and_right first _ e);
      }

  pub late_is : (assigned : List ℕ) → get_or (slot_report m ran assigned).late i false ≡ true → Late m ran i
  unfolding slot_report
  late_is assigned e =
      by_order m.table.count i
      (λ past. not_both (get_or (slot_report m ran assigned).late i false) e (late_past assigned past))
      (λ h. late_inside h (sym (reported (λ i. is_late (passed m ran i)) h) ∙ e))

  pub finished_is :
      (assigned : List ℕ) → i < m.table.count → (jobs_of m).is_open i ≡ true → (jobs_of m).budget i - bit (get_or ran i false) ≡ 0
      → get_or (slot_report m ran assigned).finished i false ≡ true
  unfolding slot_report jobs_of is_finished passed aged charged
  finished_is assigned h o e = reported (λ i. is_finished (passed m ran i)) h ∙ rw (o, eq-eqb _ _ e)

  module _ (h : i < m.table.count) where
    -- What step 4 closes has no job after the slot.
    none_after : settled (passed m ran i) ≡ closed_job (passed m ran i) → NoJob (jobs_of (after_slot m ran)) i
    unfolding jobs_of closed_job
    none_after e =
        let now = after_slot_job m ran i h ∙ e in
        record { closed = rw now; left_none = rw now; budget_none = rw now }

    -- Without a job, steps 2 and 3 leave none.
    still_none : (jobs_of m).is_open i ≡ false → NoJob (jobs_of (after_slot m ran)) i
    unfolding jobs_of passed aged charged
    still_none c =
        let now = after_slot_job m ran i h ∙ settled_closed (passed m ran i) c in
        let none = sound_closed m ok i h c in
        record {
          closed = rw (now, c);
          left_none = rw (now, c) none.left_none;
          budget_none = rw now (omega (arith, none.budget_none));
        }

    closed_late : (jobs_of m).is_open i ≡ true → (jobs_of m).left i - 1 ≡ 0 → NoJob (jobs_of (after_slot m ran)) i
    unfolding jobs_of passed aged charged
    closed_late o e =
        by_equal (passed m ran i).budget 0
        (λ done. none_after (settled_finished (passed m ran i) o done))
        (λ owes. none_after (settled_late (passed m ran i) o owes (passed_left o ∙ e)))

    still_open :
        (jobs_of m).is_open i ≡ true → 1 ≤ (jobs_of m).budget i - bit (get_or ran i false) → 1 ≤ (jobs_of m).left i - 1
        → StillOpen (λ i. get_or ran i false) (jobs_of m) (jobs_of (after_slot m ran)) i
    unfolding jobs_of passed aged charged
    still_open o owes more =
        let now = after_slot_job m ran i h ∙ settled_open (passed m ran i) o (omega arith) (omega (arith, passed_left o)) in
        record { still_open = rw now o; now_left = rw now (passed_left o); now_budget = rw now }

    effect : SlotEffect (λ i. get_or ran i false) (jobs_of m) (jobs_of (after_slot m ran)) i
    unfolding jobs_of passed aged charged
    effect =
        record {
          gap_falls = rw (after_slot_job m ran i h) (settled_gap (passed m ran i));
          stays_closed = still_none;
          closes_finished = λ o e. none_after (settled_finished (passed m ran i) o e);
          closes_late = closed_late;
          stays_open = still_open;
        }

pub slot_step :
    (m : Machine) (ran : List Bool) → LegalSlot m ran
    → Slotted (tasks_of m.table) m.cores (λ i. get_or ran i false) (jobs_of m) (jobs_of (after_slot m ran))
unfolding tasks_of first_tasks
slot_step m ran legal = record { choice = legal.choice; effect = λ i. effect m ran i legal.is_sound }
