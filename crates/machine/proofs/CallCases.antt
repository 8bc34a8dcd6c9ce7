-- A call by what it came to: refused, with the machine as it was, by number 0 only if that is unsound, or carried out, with what was found true first.
-- Others cite `by_call` and the records of what an accepted call found.
use Rattle.std.proofs.Common.{Ok, Err, Option, Some, None}
use Prim.Native.Nat.{ℕ, ◌-◌, ◌≤◌, ◌<◌}
use mathlib.Core.Path.{◌≡◌, refl}
use mathlib.Core.Bool.{Bool, true, false, cond, not}
use mathlib.Core.List.{List}
use lib.Dec.{ltb}
use native.Mathlib.Omega.{arith}
use borrow.Author.Tests.{not-true, not-false, ltb-false}
use Rattle.tasks.specs.declared.task.Task.{Task}
use Rattle.tasks.specs.Outcome.{Outcome}
use Rattle.tasks.specs.Refusals.{number_of, refusal}
use Rattle.tasks.specs.Limits.{max_cores}
use Rattle.tasks.specs.declared.refusals.Refusal.{Refusal}
use Rattle.tasks.specs.declared.refusals.Reason.{Reason}
use Rattle.tasks.specs.declared.refusals.Reason.TheVariants.{UnsoundMachine, NoSuchTask, ReleasedTooSoon, JobNotOpen, SlotCoresOutOfRange, NeedOutOfRange, NoHeldTask}
use Rattle.laws.proofs.CaseSplits.{not_both, by_cond}
use Rattle.tasks.proofs.OutcomeLaws.{Numbered}
use Rattle.job.specs.Job.{closed_job, released_job}
use Rattle.job.proofs.NeedLaws.{NeedRange, need_range}
use Rattle.machine.specs.Machine.{task_at, job_at, with_job, holding}
use Rattle.machine.specs.Pick.{runners}
use Rattle.machine.specs.Slot.{no_report, slot_report, after_slot}
use Rattle.machine.specs.Cores.{slot_assignment, with_assigned}
use Rattle.machine.specs.Offer.{offer_checked}
use Rattle.machine.specs.Sound.{sound}
use Rattle.machine.specs.Calls.{done, refuse, release, finish, slot_cores_in_range, slot, offer_after, offer, with_joined, commit_held, commit, step}
use Rattle.machine.specs.declared.machine.Machine.{Machine}
use Rattle.machine.specs.declared.call.Call.{Call}
use Rattle.machine.specs.declared.call.Call.TheVariants.{Release, Finish, Slot, Offer, Commit}
use Rattle.machine.specs.declared.answer.Answer.{Answer}
use Rattle.machine.specs.declared.answer.Report.{Report}
use Rattle.machine.proofs.OfferLaws.{OfferFits, offer_numbered}
use Rattle.machine.proofs.SoundLaws.{sound_free, held_fits}
use Rattle.machine.proofs.TaskNumbers.{KnownTask, known_task}
use Rattle.machine.proofs.SlotStep.{LegalSlot}
use Rattle.machine.proofs.RunnersLegal.{runners_legal, enough_cores, few_cores}
use Rattle.machine.proofs.RunnersPlaced.{Placed, runners_placed}

-- the answer of a refused call, of an accepted one, and of an accepted slot
abbrev pub refused : Machine → Refusal → Answer
refused m why = record { machine = m; outcome = Err why; report = no_report }

abbrev pub accepted : Machine → Report → Answer
accepted m report = record { machine = m; outcome = Ok tt; report = report }

abbrev pub slot_answer : Machine → (ran : List Bool) → (assigned : List ℕ) → Answer
slot_answer m ran assigned = accepted (with_assigned (after_slot m ran) assigned) (slot_report m ran assigned)

-- the machine after an accepted release, and after an accepted finish
unfoldable pub after_release : Machine → (number need : ℕ) → Machine
after_release m number need = with_job m (number - 1) (released_job (task_at m (number - 1)) need)

unfoldable pub after_finish : Machine → (number : ℕ) → Machine
after_finish m number = with_job m (number - 1) (closed_job (job_at m (number - 1)))

-- a refusal's number: 0 only on an unsound machine, and two digits at most
pub record RefusedBy (m : Machine) (why : Refusal) : Type 0 where
  pub some : sound m ≡ true → 1 ≤ number_of why.reason
  pub small : number_of why.reason < 100

-- what an accepted release, finish, slot, offer and commit found
pub record ReleaseTaken (m : Machine) (number need : ℕ) : Type 0 where
  pub task : KnownTask m number
  pub needed : NeedRange (task_at m (number - 1)) need
  pub was_free : (job_at m (number - 1)).gap ≡ 0
  pub was_closed : (job_at m (number - 1)).«open» ≡ false

pub record FinishTaken (m : Machine) (number : ℕ) : Type 0 where
  pub task : KnownTask m number
  pub was_open : (job_at m (number - 1)).«open» ≡ true

pub record SlotTaken (m : Machine) (k : ℕ) (ran : List Bool) (assigned : List ℕ) : Type 0 where
  pub legal : LegalSlot m ran
  pub placed : Placed k ran assigned
  pub few_cores : k ≤ max_cores

pub record OfferTaken (m : Machine) (t : Task) : Type 0 where
  pub is_sound : sound m ≡ true
  pub passes : offer_checked m.table m.cores t ≡ Ok tt

pub record CommitTaken (m : Machine) (t : Task) : Type 0 where
  pub is_sound : sound m ≡ true
  pub held_is_lem : m.held ≡ Some t
  pub fits : OfferFits m.table m.cores t

-- what holds of a refused call's answer and of each accepted call's holds of every call's
module _
    (m : Machine)
    (P : Call → Answer → Type 0)
    (on_refusal : (call : Call) (why : Refusal) → RefusedBy m why → P call (refused m why))
    (on_release : (number need : ℕ) → ReleaseTaken m number need → P (Release number need) (accepted (after_release m number need) no_report))
    (on_finish : (number : ℕ) → FinishTaken m number → P (Finish number) (accepted (after_finish m number) no_report))
    (on_slot : (k : ℕ) (ran : List Bool) (assigned : List ℕ) → SlotTaken m k ran assigned → P (Slot k) (slot_answer m ran assigned))
    (on_offer : (t : Task) → OfferTaken m t → P (Offer t) (accepted (holding m (Some t)) no_report))
    (on_commit : (t : Task) → CommitTaken m t → P Commit (accepted (with_joined m t) no_report))
  where
    -- by a number that is not 0
    by_number : (why : Refusal) → (1 ≤ number_of why.reason) × (number_of why.reason < 100) → RefusedBy m why
    by_number why h = record { some = λ ok. h.0; small = h.1 }

    -- past the test that refuses an unsound machine by 0
    past_0 : (call : Call) {answer : Answer} → (sound m ≡ true → P call answer) → P call (cond (not (sound m)) (refused m (refusal UnsoundMachine 0)) answer)
    past_0 call on =
        by_cond (P call) (not (sound m))
        (λ e. on_refusal call (refusal UnsoundMachine 0) (record { some = λ ok. not_both _ ok (not-true _ e); small = omega arith }))
        (λ e. on (not-false _ e))

    -- past a test that refuses the call for this reason
    past :
        (call : Call) (t : Bool) (reason : Reason) {answer : Answer} → (1 ≤ number_of reason) × (number_of reason < 100) → (t ≡ false → P call answer)
        → P call (cond t (refused m (refusal reason 0)) answer)
    past call t reason h on = by_cond (P call) t (λ e. on_refusal call (refusal reason 0) (by_number (refusal reason 0) h)) on

    -- an offer, after its checks
    by_offer : (t : Task) (checks : Outcome) → Numbered checks → (checks ≡ Ok tt → OfferTaken m t) → P (Offer t) (offer_after checks m t)
    unfolding offer_after done
    by_offer t (Ok _) numbered taken = on_offer t (taken refl)
    by_offer t (Err why) numbered taken = on_refusal (Offer t) why (by_number why (numbered.number_is why refl))

    -- a commit, by what the machine holds
    by_held : sound m ≡ true → (held : Option Task) → m.held ≡ held → P Commit (commit_held held m)
    unfolding commit_held refuse done
    by_held ok None e = on_refusal Commit (refusal NoHeldTask 0) (by_number (refusal NoHeldTask 0) (omega arith))
    by_held ok (Some t) e = on_commit t (record { is_sound = ok; held_is_lem = e; fits = held_fits m ok t e })

    -- a task without a gap is closed, as the machine is sound
    release_taken :
        (number need : ℕ) → KnownTask m number → NeedRange (task_at m (number - 1)) need → (job_at m (number - 1)).gap ≡ 0
        → ReleaseTaken m number need
    release_taken number need task needed free =
        record { task = task; needed = needed; was_free = free; was_closed = sound_free m task.is_sound (number - 1) task.inside free }

    -- a slot that is not refused
    slot_taken : (k : ℕ) → sound m ≡ true → slot_cores_in_range m k ≡ true → SlotTaken m k (runners m k) (slot_assignment m k)
    slot_taken k ok in_range_lem =
        record {
          legal = runners_legal m k ok (enough_cores m k in_range_lem);
          placed = runners_placed m k ok;
          few_cores = few_cores m k in_range_lem;
        }

    pub by_call : (call : Call) → P call (step m call)
    unfolding step release finish slot offer commit refuse done after_release after_finish
    by_call (Release number need) =
        past_0 _ λ ok.
        past _ _ NoSuchTask (omega arith) λ known.
        past _ _ NeedOutOfRange (omega arith) λ needed.
        past _ (ltb 0 (job_at m (number - 1)).gap) ReleasedTooSoon (omega arith) λ free.
        on_release number need
        (release_taken number need (known_task m number ok (not-false _ known)) (need_range _ need (not-false _ needed)) (omega (arith, ltb-false)))
    by_call (Finish number) =
        past_0 _ λ ok.
        past _ _ NoSuchTask (omega arith) λ known.
        past _ _ JobNotOpen (omega arith) λ opened.
        on_finish number (record { task = known_task m number ok (not-false _ known); was_open = not-false _ opened })
    by_call (Slot k) =
        past_0 _ λ ok.
        past _ _ SlotCoresOutOfRange (omega arith) λ in_range_lem.
        on_slot k (runners m k) (slot_assignment m k) (slot_taken k ok (not-false _ in_range_lem))
    by_call (Offer t) =
        past_0 _ λ ok.
        by_offer t _ (offer_numbered m.table m.cores t) λ passes. record { is_sound = ok; passes = passes }
    by_call Commit = past_0 _ λ ok. by_held ok m.held refl
