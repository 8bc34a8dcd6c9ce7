-- Demand 3: from an admitted table, over every list of calls, no slot is late and every job is closed in time. The theorem is `promise`, of tables
-- that the slack test admits, and with it `window_promise`, of those that the window test admits. `slot_in_time` is of one slot, whoever chose its runners.
use Prim.Native.Nat.{ℕ, suc, ◌-◌, ◌≤◌}
use mathlib.Core.Path.{◌≡◌, refl, ◌∙◌}
use mathlib.Core.Bool.{Bool, true, false, cond}
use mathlib.Core.List.{List, [], ◌∷◌}
use lib.ListN.{get_or}
use native.Mathlib.Omega.{arith}
use Rattle.tasks.specs.declared.table.Table.{Table}
use Rattle.laws.proofs.CaseSplits.{by_test, clash}
use Rattle.machine.specs.Machine.{task_at, with_job}
use Rattle.machine.specs.Slot.{slot_report, after_slot}
use Rattle.machine.specs.Cores.{with_assigned}
use Rattle.tasks.specs.Outcome.{is_done}
use Rattle.job.specs.Job.{released_job}
use Rattle.judge.specs.Judge.{judged}
use Rattle.judge.proofs.Admitted.{window_admitted}
use Rattle.machine.specs.Calls.{start, step}
use Rattle.machine.specs.Play.{play}
use Rattle.machine.specs.InTime.{slot_count, point_by, closed_by_slot, InTime, Promise}
use Rattle.machine.specs.declared.machine.Machine.{Machine}
use Rattle.machine.specs.declared.call.Call.{Call}
use Rattle.machine.proofs.State.{jobs_of}
use Rattle.machine.proofs.SlotStep.{LegalSlot, Late, late_is}
use Rattle.machine.proofs.CallCases.{ReleaseTaken, after_release}
use Rattle.machine.proofs.CallKinds.{point_of, by_kind}
use Rattle.machine.proofs.JobSteps.{released_job_lem}
use Rattle.machine.proofs.Kept.{Kept, kept_release, kept_call, slot_on_time, fresh_machine, started, kept_fresh}
use Rattle.machine.proofs.ClosesLaws.{closes_by_slot}
use Rattle.machine.proofs.InTimeLaws.{EntryInTime, EachInTime, quiet_report, quiet_in_time, each_none, each_more, each_in_time}
use Rattle.machine.proofs.Going.{Going}
use Rattle.machine.proofs.Closing.{entry_of, closing}

-- the table and what is held are at each point what the log tells: an accepted offer's task, and an accepted commit's in the table
pub point_after_lem : (m : Machine) (call : Call) → point_of (step m call).machine ≡ cond (is_done (step m call).outcome) (point_by call (point_of m)) (point_of m)
unfolding is_done point_of point_by after_slot with_assigned
point_after_lem m =
    by_kind m (λ call answer. point_of answer.machine ≡ cond (is_done answer.outcome) (point_by call (point_of m)) (point_of m))
    (λ call why told. refl)
    (λ call m' silent. silent.point_is)
    (λ k ran assigned taken. refl)

module _ (m : Machine) (kept : Kept m) where
  never_late : (ran : List Bool) → LegalSlot m ran → (i : ℕ) → Late m ran i → ⊥
  never_late ran legal i late =
      late.owes (omega (arith, late.out, slot_on_time m kept ran legal i late.inside late.was_open))

  pub slot_in_time : (ran : List Bool) (assigned : List ℕ) → LegalSlot m ran → (i : ℕ) → get_or (slot_report m ran assigned).late i false ≡ false
  slot_in_time ran assigned legal i =
      by_test (get_or (slot_report m ran assigned).late i false)
      (λ late. absurd (never_late ran legal i (late_is m ran i legal.is_sound assigned late)))
      (λ fine. fine)

  -- the job of a release, right after it
  opened :
      (number need : ℕ) → ReleaseTaken m number need → Going (after_release m number need) (number - 1) (task_at m (number - 1)).deadline need
  unfolding jobs_of after_release with_job released_job
  opened number need taken =
      let job = released_job_lem m kept.all_jobs number need taken in
      record {
        kept = kept_release m kept number need taken;
        inside = taken.task.inside;
        is_open = rw job;
        left_is = rw job;
        budget_is = rw job;
      }

  release_closed :
      (calls : List Call) (number need : ℕ) → ReleaseTaken m number need
      → let deadline = (task_at m (number - 1)).deadline in
      let log = play (after_release m number need) calls in
      deadline ≤ slot_count log → closed_by_slot number need deadline log ≡ true
  release_closed calls number need taken bound =
      let from_one : suc (number - 1) ≡ number = omega (arith, taken.task.some) in
      let deadline = (task_at m (number - 1)).deadline in
      closes_by_slot number need deadline (play (after_release m number need) calls)
      ∙ rw from_one at (closing (after_release m number need) (number - 1) deadline need (opened number need taken) calls bound)

  entry_in_time :
      (calls : List Call) (call : Call)
      → EntryInTime m.table (entry_of call (step m call)) (play (step m call).machine calls)
  unfolding is_done task_at
  entry_in_time calls =
      by_kind m (λ call answer. EntryInTime m.table (entry_of call answer) (play answer.machine calls))
      (λ call why told. quiet_in_time _ _ _ refl (λ n e c d. clash cc))
      (λ call m' silent.
      record {
        not_late = quiet_report;
        closed = λ number need c d.
            let job = silent.opened number need c in
            rw job.after (release_closed calls number need job.taken);
      })
      (λ k ran assigned taken. record { not_late = slot_in_time ran assigned taken.legal; closed = λ number need c d. clash cc })

each_entry : (calls : List Call) (m : Machine) → Kept m → EachInTime (point_of m) (play m calls)
unfolding play point_of
each_entry [] m kept = each_none (point_of m)
each_entry (call ∷ calls) m kept =
    let answer = step m call in
    each_more (point_of m) (point_of answer.machine) (entry_of call answer) (play answer.machine calls)
    (entry_in_time m kept calls call)
    (point_after_lem m call)
    (each_entry calls answer.machine (kept_call m kept call))

pub promise : (t : Table) (cores : ℕ) → Promise t cores
unfolding Promise fresh_machine point_of
promise t cores yes-admitted calls =
    rw (started t cores yes-admitted) (each_in_time _ _ (each_entry calls (fresh_machine t cores) (kept_fresh t cores yes-admitted)))

-- The same of a table that the window test admits.
pub window_promise : (t : Table) (cores : ℕ) →
    (judged t cores).admits ≡ true →
    (calls : List Call) →
    InTime t (play (start t cores).machine calls)
unfolding Promise
window_promise t cores yes-admitted = promise t cores (window_admitted t cores yes-admitted)
