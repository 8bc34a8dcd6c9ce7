-- What an accepted slot answers of cores, and what the machine records. In every accepted slot each runner has a core of 1 to k, no two runners share one,
-- and no other task has one: `slot_cores_fit`. The record after the slot is what was answered: `record_answered`, and `always_recorded` over every list of
-- calls from a start. No other call, and no refused one, changes the record of a task of the table: `record_kept`.
use Rattle.std.proofs.Common.{Ok}
use Prim.Native.Nat.{ℕ, ◌≤◌, ◌<◌}
use mathlib.Core.Path.{◌≡◌, refl, sym, ◌∙◌}
use mathlib.Core.Bool.{true, false, ◌&&◌}
use mathlib.Core.List.{List, [], ◌∷◌}
use native.Mathlib.Omega.{arith}
use lib.ListN.{length, get_or, length-replicate}
use Rattle.laws.proofs.CaseSplits.{by_order, not_both}
use Rattle.laws.proofs.Replaced.{length_replaced, replaced_at}
use Rattle.tasks.specs.declared.table.Table.{Table}
use Rattle.tasks.specs.Limits.{max_tasks}
use Rattle.tasks.specs.Outcome.{is_done}
use Rattle.machine.specs.Machine.{core_at}
use Rattle.machine.specs.Slot.{slot_report, after_slot}
use Rattle.machine.specs.Cores.{with_assigned}
use Rattle.machine.specs.Calls.{done, start_after, start, slot, step}
use Rattle.machine.specs.Play.{machine_after}
use Rattle.machine.specs.InTime.{is_slot}
use Rattle.machine.specs.declared.machine.Machine.{Machine}
use Rattle.machine.specs.declared.call.Call.{Call}
use Rattle.machine.specs.declared.call.Call.TheVariants.{Slot}
use Rattle.machine.specs.declared.answer.Report.{Report}
use Rattle.machine.proofs.SoundLaws.{sound_passes}
use Rattle.machine.proofs.CallKinds.{by_kind}
use Rattle.machine.proofs.SoundKept.{start_outcome}

-- the cores of a report of a slot with k of them; tasks by their indexes
pub record CoresFit (k : ℕ) (r : Report) : Type 0 where
  pub has_core : (i : ℕ) → get_or r.ran i false ≡ true → (1 ≤ get_or r.assigned i 0) × (get_or r.assigned i 0 ≤ k)
  pub none_shared :
      (i j : ℕ) → get_or r.ran i false ≡ true → get_or r.ran j false ≡ true → get_or r.assigned i 0 ≡ get_or r.assigned j 0 → i ≡ j
  pub no_other : (i : ℕ) → get_or r.ran i false ≡ false → get_or r.assigned i 0 ≡ 0

each_fit : (m : Machine) (call : Call) (k : ℕ) → call ≡ Slot k → is_done (step m call).outcome ≡ true → CoresFit k (step m call).report
unfolding slot_report is_done is_slot
each_fit m =
    by_kind m (λ call answer. (k : ℕ) → call ≡ Slot k → is_done answer.outcome ≡ true → CoresFit k answer.report)
    (λ call why told k e d. not_both false d refl)
    (λ call m' silent k e d. let is : is_slot call ≡ true = rw e in not_both (is_slot call) is silent.no_slot)
    (λ k' ran assigned taken k e d.
    let same : k' ≡ k = cc in
    let p = taken.placed in
    record {
      has_core = λ i runs. (p.some i runs, rw (← same) (p.within i));
      none_shared = λ i j ri rj is. p.apart i j is (p.some i ri);
      no_other = λ i idle.
          by_order 1 (get_or assigned i 0)
          (λ some. not_both (get_or ran i false) (p.only i some) idle)
          (λ none. omega arith);
    })

pub slot_cores_fit : (m : Machine) (k : ℕ) → is_done (slot m k).outcome ≡ true → CoresFit k (slot m k).report
unfolding step
slot_cores_fit m k = each_fit m (Slot k) k refl

-- every call keeps the length of the record
length_kept : (m : Machine) (call : Call) → length (step m call).machine.assigned ≡ length m.assigned
unfolding after_slot with_assigned
length_kept m =
    by_kind m (λ call answer. length answer.machine.assigned ≡ length m.assigned)
    (λ call why told. refl)
    (λ call m' silent. silent.record_long)
    (λ k ran assigned taken. length_replaced (λ i. get_or assigned i 0) m.assigned m.table.count)

each_recorded :
    (m : Machine) → length m.assigned ≡ max_tasks → (call : Call) → is_slot call ≡ true → is_done (step m call).outcome ≡ true
    → (i : ℕ) → i < m.table.count → core_at (step m call).machine i ≡ get_or (step m call).report.assigned i 0
unfolding core_at slot_report is_done is_slot after_slot with_assigned
each_recorded m all =
    by_kind m
    (λ call answer. is_slot call ≡ true → is_done answer.outcome ≡ true → (i : ℕ) → i < m.table.count
    → core_at answer.machine i ≡ get_or answer.report.assigned i 0)
    (λ call why told is d. not_both false d refl)
    (λ call m' silent is. not_both (is_slot call) is silent.no_slot)
    (λ k ran assigned taken is d i h.
    replaced_at (λ j. get_or assigned j 0) m.assigned 0 m.table.count i h
    (omega (arith, (sound_passes m taken.legal.is_sound).count_fits)))

-- an array of the code has an entry for each task
pub record_answered :
    (m : Machine) → length m.assigned ≡ max_tasks → (k : ℕ) → is_done (slot m k).outcome ≡ true
    → (i : ℕ) → i < m.table.count → core_at (slot m k).machine i ≡ get_or (slot m k).report.assigned i 0
unfolding step is_slot
record_answered m all k = each_recorded m all (Slot k) refl

pub record_kept :
    (m : Machine) (call : Call) → (is_slot call && is_done (step m call).outcome) ≡ false
    → (i : ℕ) → i < m.table.count → core_at (step m call).machine i ≡ core_at m i
unfolding is_done is_slot
record_kept m =
    by_kind m
    (λ call answer. (is_slot call && is_done answer.outcome) ≡ false → (i : ℕ) → i < m.table.count → core_at answer.machine i ≡ core_at m i)
    (λ call why told no i h. refl)
    (λ call m' silent no. silent.record_stays)
    (λ k ran assigned taken no. not_both true refl no)

module _ (t : Table) (cores : ℕ) (starts : (start t cores).outcome ≡ Ok tt) where
  all_recorded : (calls : List Call) (m : Machine) → length m.assigned ≡ max_tasks → length (machine_after m calls).assigned ≡ max_tasks
  unfolding machine_after
  all_recorded [] m all = all
  all_recorded (call ∷ calls) m all = all_recorded calls (step m call).machine (length_kept m call ∙ all)

  fresh_recorded : length (start t cores).machine.assigned ≡ max_tasks
  unfolding start start_after done
  fresh_recorded = rw (sym (start_outcome t cores) ∙ starts) (length-replicate {A = ℕ} max_tasks 0)

  pub always_recorded :
      (calls : List Call)
      → let m = machine_after (start t cores).machine calls in
      (k : ℕ) → is_done (slot m k).outcome ≡ true
      → (i : ℕ) → i < m.table.count → core_at (slot m k).machine i ≡ get_or (slot m k).report.assigned i 0
  always_recorded calls = record_answered (machine_after (start t cores).machine calls) (all_recorded calls (start t cores).machine fresh_recorded)
