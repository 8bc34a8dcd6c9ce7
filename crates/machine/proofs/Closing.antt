-- Every open job is closed by the slots that it has left: `closing`, by induction on the calls.
use Prim.Native.Nat.{ℕ, suc, ◌-◌, ◌≤◌, ◌<◌}
use mathlib.Core.Path.{◌≡◌, refl}
use mathlib.Core.Bool.{Bool, true, false}
use mathlib.Core.List.{List, [], ◌∷◌}
use lib.ListN.{get_or}
use native.Mathlib.Omega.{arith}
use Rattle.laws.specs.Sums.{bit}
use Rattle.laws.proofs.CaseSplits.{by_order, by_test}
use Rattle.laws.proofs.SumLaws.{bit_true, bit_false}
use Rattle.machine.specs.Slot.{no_report, slot_report, after_slot}
use Rattle.machine.specs.Cores.{with_assigned}
use Rattle.tasks.specs.declared.refusals.Refusal.{Refusal}
use Rattle.tasks.specs.Outcome.{is_done}
use Rattle.machine.specs.Play.{Entry, play}
use Rattle.machine.specs.InTime.{is_slot, is_finish_of, accepted_slot, accepted_finish, says_ran, says_finished, slot_count}
use Rattle.machine.specs.declared.machine.Machine.{Machine}
use Rattle.machine.specs.declared.call.Call.{Call}
use Rattle.machine.specs.declared.call.Call.TheVariants.{Slot}
use Rattle.machine.specs.declared.answer.Answer.{Answer}
use Rattle.machine.proofs.State.{jobs_of, same_job}
use Rattle.machine.proofs.SlotStep.{LegalSlot, finished_is}
use Rattle.machine.proofs.CallCases.{refused, accepted, slot_answer}
use Rattle.machine.proofs.CallKinds.{Silent, by_kind}
use Rattle.machine.proofs.Kept.{Kept, kept_call}
use Rattle.machine.proofs.Going.{Going, left_some, budget_some, going_same, going_on}
use Rattle.machine.proofs.ClosesLaws.{closes, closes_finish, closes_past, closes_idle, closes_ran, closes_last}

-- the job of task i closes in time in this log
ClosesIn : (i l b : ℕ) → List Entry → Type 0
ClosesIn i l b log = l ≤ slot_count log → closes (suc i) l b log ≡ true

-- a call's entry in the log
abbrev pub entry_of : Call → Answer → Entry
entry_of call answer = record { call = call; outcome = answer.outcome; report = answer.report }

-- the same for a call and its answer, with more calls after them
ClosesAfter : (i l b : ℕ) → List Call → Call → Answer → Type 0
ClosesAfter i l b calls call answer = ClosesIn i l b (entry_of call answer ∷ play answer.machine calls)

-- a job of task i that is open before these calls closes in them
AllClose : (i : ℕ) → List Call → Type 0
AllClose i calls = (m : Machine) (l b : ℕ) → Going m i l b → ClosesIn i l b (play m calls)

module _ (m : Machine) (i l b : ℕ) (going : Going m i l b) where
  -- an entry that is no slot, where the job goes on
  past : (e : Entry) (log : List Entry) → accepted_slot e ≡ false → ClosesIn i l b log → ClosesIn i l b (e ∷ log)
  unfolding ClosesIn slot_count
  past e log no_slot rest bound = closes_past (suc i) l b e log (left_some going) no_slot (rest (rw no_slot at bound))

  module _ (calls : List Call) (rest : AllClose i calls) where
    after_refusal : (call : Call) (why : Refusal) → ClosesAfter i l b calls call (refused m why)
    unfolding AllClose ClosesAfter accepted_slot is_done
    after_refusal call why = past _ _ refl (rest m l b going)

    -- an accepted call that is no slot finishes the job, or leaves it as it was
    after_silent : (call : Call) (m' : Machine) → Silent m call m' → Kept m' → ClosesAfter i l b calls call (accepted m' no_report)
    unfolding AllClose ClosesIn ClosesAfter accepted_slot accepted_finish is_done jobs_of
    after_silent call m' silent kept' =
        by_test (is_finish_of (suc i) call)
        (λ finishes bound. closes_finish (suc i) l b _ _ (left_some going) finishes)
        (λ other.
        let inside' : i < m'.table.count = omega (arith, going.inside, silent.no_fewer) in
        let same = same_job m m' i (silent.job_stays i going.inside going.is_open other) in
        past _ _ silent.no_slot (rest m' l b (going_same going m' kept' inside' same)))

  module _ (k : ℕ) (ran : List Bool) (assigned : List ℕ) (legal : LegalSlot m ran) where
    -- what the answer says of task i
    says_ran_lem : (t : Bool) → get_or ran i false ≡ t → says_ran (suc i) (entry_of (Slot k) (slot_answer m ran assigned)) ≡ t
    unfolding says_ran accepted_slot is_done is_slot slot_report
    says_ran_lem t e =
        let same : suc i - 1 ≡ i = omega arith in
        rw (same, e)

    says_finished_lem : b - bit (get_or ran i false) ≡ 0 → says_finished (suc i) (entry_of (Slot k) (slot_answer m ran assigned)) ≡ true
    unfolding says_finished accepted_slot is_done is_slot
    says_finished_lem e =
        let same : suc i - 1 ≡ i = omega arith in
        rw same (finished_is m ran i legal.is_sound assigned going.inside going.is_open (omega (arith, going.budget_is)))

    module _ (calls : List Call) (rest : AllClose i calls) where
      after_idle : get_or ran i false ≡ false → ClosesAfter i l b calls (Slot k) (slot_answer m ran assigned)
      unfolding AllClose ClosesIn ClosesAfter slot_count accepted_slot is_done is_slot
      after_idle idle bound =
          let owes = going_on going ran assigned legal b (omega (arith, bit_false (get_or ran i false) idle)) (budget_some going) in
          closes_idle (suc i) l b _ _ (left_some going) refl (says_ran_lem false idle) (rest (with_assigned (after_slot m ran) assigned) (l - 1) b owes (omega arith))

      after_run : get_or ran i false ≡ true → ClosesAfter i l b calls (Slot k) (slot_answer m ran assigned)
      unfolding AllClose ClosesIn ClosesAfter slot_count accepted_slot is_done is_slot
      after_run runs bound =
          let one = bit_true (get_or ran i false) runs in
          by_order b 1
          (λ few. closes_last (suc i) l b _ _ (left_some going) refl (says_ran_lem true runs) few (says_finished_lem (omega arith)))
          (λ more.
          closes_ran (suc i) l b _ _ (left_some going) refl (says_ran_lem true runs) more
          (rest (with_assigned (after_slot m ran) assigned) (l - 1) (b - 1) (going_on going ran assigned legal (b - 1) (omega arith) (omega arith)) (omega arith)))

      after_slot_lem : ClosesAfter i l b calls (Slot k) (slot_answer m ran assigned)
      after_slot_lem = by_test (get_or ran i false) after_run after_idle

all_close : (i : ℕ) (calls : List Call) → AllClose i calls
unfolding AllClose ClosesIn ClosesAfter play slot_count
all_close i [] m l b going = λ bound. absurd (omega (arith, left_some going))
all_close i (call ∷ calls) m l b going =
    let rest = all_close i calls in
    by_kind m (λ call answer. Kept answer.machine → ClosesAfter i l b calls call answer)
    (λ call why told kept'. after_refusal m i l b going calls rest call why)
    (after_silent m i l b going calls rest)
    (λ k ran assigned taken kept'. after_slot_lem m i l b going k ran assigned taken.legal calls rest)
    call
    (kept_call m going.kept call)

pub closing :
    (m : Machine) (i l b : ℕ) → Going m i l b → (calls : List Call) → l ≤ slot_count (play m calls)
    → closes (suc i) l b (play m calls) ≡ true
unfolding AllClose ClosesIn
closing m i l b going calls bound = all_close i calls m l b going bound
