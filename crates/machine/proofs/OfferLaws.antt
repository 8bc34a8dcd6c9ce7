-- What the checks of an offer found. Others cite `OfferFits` with `offer_fits`, of an offer that passes them; and `offer_numbered`, of the numbers by
-- which they refuse one.
use Rattle.std.proofs.Common.{Ok, Err}
use Prim.Native.Nat.{ℕ, ◌<◌}
use native.Mathlib.Omega.{arith}
use mathlib.Core.Path.{◌≡◌, refl}
use mathlib.Core.Bool.{Bool, true, cond, not}
use lib.Dec.{leb}
use borrow.Author.Tests.{not-false, leb-false}
use Rattle.laws.proofs.CaseSplits.{by_cond}
use Rattle.tasks.specs.declared.task.Task.{Task}
use Rattle.tasks.specs.declared.table.Table.{Table}
use Rattle.tasks.specs.Limits.{max_tasks}
use Rattle.tasks.specs.declared.refusals.Reason.TheVariants.{TaskOutOfRange, TableFull, NotAdmitted}
use Rattle.tasks.specs.Refusals.{refusal}
use Rattle.tasks.specs.Task.{in_range}
use Rattle.tasks.specs.Table.{with_task}
use Rattle.tasks.specs.Outcome.{Outcome, first_refusal}
use Rattle.tasks.proofs.OutcomeLaws.{Numbered, done_numbered, refused_numbered, refused_not_done, both_done}
use Rattle.judge.specs.SlackJudge.{AdmissionValues, admission_values_of, admission}
use Rattle.judge.proofs.Admitted.{admission_numbered}
use Rattle.machine.specs.Offer.{offer_verdict, offer_checked}

-- an offer that passes: the task is in range, the table has room, and the longer one is judged and admitted
pub record OfferFits (t : Table) (cores : ℕ) (task : Task) : Type 0 where
  pub in_range_lem : in_range task ≡ true
  pub room : t.count < max_tasks
  pub judged : (admission (with_task t task) cores).outcome ≡ Ok tt
  pub admits : (admission (with_task t task) cores).admits ≡ true

-- the last check, after a verdict
abbrev last : Outcome → (admits : Bool) → Outcome
last verdict admits = first_refusal verdict (cond admits (Ok tt) (Err (refusal NotAdmitted 0)))

last_admits : (admits : Bool) → last (Ok tt) admits ≡ Ok tt → admits ≡ true
unfolding first_refusal
last_admits admits =
    by_cond (λ (o : Outcome). o ≡ Ok tt → admits ≡ true) admits (λ yes e. yes) (λ no. refused_not_done (refusal NotAdmitted 0) (Err (refusal NotAdmitted 0)) refl)

last_numbered : (verdict : Outcome) (admits : Bool) → Numbered verdict → Numbered (last verdict admits)
unfolding first_refusal
last_numbered (Ok _) admits numbered = by_cond Numbered admits (λ yes. done_numbered) (λ no. refused_numbered (refusal NotAdmitted 0) (omega arith))
last_numbered (Err why) admits numbered = numbered

module _ (t : Table) (cores : ℕ) (task : Task) where
  -- what holds of the refusal by 5, of that by 12, and past these of the judge's verdict holds of the checks' verdict
  by_checks :
      (P : AdmissionValues → Type 0)
      → P (admission_values_of (Err (refusal TaskOutOfRange 0)))
      → P (admission_values_of (Err (refusal TableFull 0)))
      → (in_range task ≡ true → t.count < max_tasks → P (admission (with_task t task) cores))
      → P (offer_verdict t cores task)
  unfolding offer_verdict
  by_checks P on-5 on-12 past =
      by_cond P (not (in_range task)) (λ e. on-5)
      (λ in_range_lem. by_cond P (leb max_tasks t.count) (λ e. on-12) (λ room. past (not-false _ in_range_lem) (leb-false _ _ room)))

  pub offer_fits : offer_checked t cores task ≡ Ok tt → OfferFits t cores task
  unfolding offer_checked admission_values_of first_refusal
  offer_fits =
      by_checks (λ v. last v.outcome v.admits ≡ Ok tt → OfferFits t cores task)
      (refused_not_done (refusal TaskOutOfRange 0) (Err (refusal TaskOutOfRange 0)) refl)
      (refused_not_done (refusal TableFull 0) (Err (refusal TableFull 0)) refl)
      (λ in_range_lem room e.
      let (judged, admits) = both_done (admission (with_task t task) cores).outcome _ e in
      record { in_range_lem = in_range_lem; room = room; judged = judged; admits = last_admits _ admits })

  pub offer_numbered : Numbered (offer_checked t cores task)
  unfolding offer_checked admission_values_of first_refusal
  offer_numbered =
      by_checks (λ v. Numbered (last v.outcome v.admits))
      (refused_numbered (refusal TaskOutOfRange 0) (omega arith))
      (refused_numbered (refusal TableFull 0) (omega arith))
      (λ in_range_lem room. last_numbered _ (admission (with_task t task) cores).admits (admission_numbered (with_task t task) cores))
