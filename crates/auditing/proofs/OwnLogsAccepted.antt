-- The logs of our own machine, from a fresh one on whole budgets with k = m and no commit, are accepted: `own_logs_accepted`. The machine of the log and that
-- of the audit are played side by side (Beside.antt), call by call.
use Rattle.std.proofs.Common.{Ok, Some}
use Prim.Native.Nat.{ℕ, ◌-◌, ◌<◌}
use mathlib.Core.Path.{◌≡◌, refl, sym, ap, ◌∙◌, subst}
use mathlib.Core.Bool.{Bool, true, false}
use mathlib.Core.List.{List, [], ◌∷◌}
use lib.Dec.{eqb}
use lib.ListN.{get_or, length-replicate}
use borrow.Author.Tests.{eqb-true}
use Rattle.laws.proofs.CaseSplits.{by_test, not_both}
use Rattle.laws.proofs.Booleans.{and_left, and_right}
use Rattle.laws.proofs.Replaced.{replicate_entry}
use Rattle.tasks.specs.declared.task.Task.{Task}
use Rattle.tasks.specs.declared.table.Table.{Table}
use Rattle.tasks.specs.Limits.{max_tasks}
use Rattle.tasks.specs.Check.{checked}
use Rattle.tasks.specs.Outcome.{is_done}
use Rattle.job.specs.Job.{fresh_job, closed_job}
use Rattle.machine.specs.Machine.{job_at, with_job, holding}
use Rattle.machine.specs.Slot.{no_report, slot_report}
use Rattle.machine.specs.Sound.{sound}
use Rattle.tasks.specs.declared.refusals.Refusal.{Refusal}
use Rattle.machine.specs.Calls.{done, refuse, start_after, start, slot_cores_in_range, slot, with_joined, step}
use Rattle.machine.specs.Play.{Entry, play}
use Rattle.machine.specs.declared.machine.Machine.{Machine}
use Rattle.machine.specs.declared.call.Call.{Call}
use Rattle.machine.specs.declared.call.Call.TheVariants.{Release, Finish, Slot, Offer, Commit}
use Rattle.machine.specs.declared.answer.Answer.{Answer}
use Rattle.machine.proofs.RunnersPlaced.{runners_inside}
use Rattle.machine.proofs.CallCases.{ReleaseTaken, FinishTaken, SlotTaken, OfferTaken, CommitTaken}
use Rattle.machine.proofs.CallCases.{RefusedBy, refused, accepted, slot_answer, after_release, after_finish, by_call}
use Rattle.machine.proofs.SoundKept.{call_keeps, start_outcome, start_sound}
use Rattle.auditing.specs.Audit.{audited_after, audited}
use Rattle.auditing.specs.OwnLog.{Since, nothing_since, since_call, line_by, own_lines, own_log, is_loggable, all_loggable, OwnLogsAccepted}
use Rattle.auditing.proofs.OwnText.{Accepts, no_line, one_line, own_text}
use Rattle.auditing.proofs.SoundRun.{Running, Made, whole_job, task_of, same_task, inside_table, job_made, running_with}
use Rattle.auditing.proofs.Beside.{Beside, beside_fresh, beside_release, beside_finish, beside_offer}
use Rattle.auditing.proofs.OwnSlot.{line_small, line_taken_lem, beside_slot}

-- only tasks of the table run in a slot
ran_inside : (m : Machine) (k i : ℕ) → get_or (slot m k).report.ran i false ≡ true → i < m.table.count
unfolding slot refuse slot_report no_report
ran_inside m k i ran =
    let none : get_or no_report.ran i false ≡ false = replicate_entry max_tasks i false in
    by_test (sound m)
    (λ ok.
    by_test (slot_cores_in_range m k)
    (λ fits. runners_inside m k ok i (rw (ok, fits) at ran))
    (λ out. not_both _ (rw (ok, out) at ran) none))
    (λ unsound. not_both _ (rw unsound at ran) none)

-- One call more, where the two machines stand beside each other and the calls after it are accepted.
module _
    (t : Table)
    (cores : ℕ)
    (r a : Machine)
    (s : Since)
    (b : Beside t cores r a s)
    (calls : List Call)
    (next :
    (r' a' : Machine) (s' : Since) → Beside t cores r' a' s' → all_loggable t cores (play r' calls) ≡ true
    → Accepts a' (own_lines s' (play r' calls)))
  where
    -- the log of a call that got this answer, and of the calls after it
    abbrev entries : Call → Answer → List Entry
    entries call answer = record { call = call; outcome = answer.outcome; report = answer.report } ∷ play answer.machine calls

    abbrev Goal : Call → Answer → Type 0
    Goal call answer = answer ≡ step r call → all_loggable t cores (entries call answer) ≡ true → Accepts a (own_lines s (entries call answer))

    -- the machine after a call is sound
    still_sound : (call : Call) (answer : Answer) → answer ≡ step r call → sound answer.machine ≡ true
    still_sound call answer is = rw is (call_keeps r b.real.is_sound call).is_sound

    on_refusal : (call : Call) (why : Refusal) → RefusedBy r why → Goal call (refused r why)
    unfolding all_loggable own_lines is_done
    on_refusal call why told is loggable = next r a s b loggable

    -- an accepted release, on the whole budget, and an accepted finish set one job
    release_sets :
        (number need : ℕ) → accepted (after_release r number need) no_report ≡ step r (Release number need) → number - 1 < t.count
        → need ≡ (task_of t (number - 1)).budget
        → Made t cores r (number - 1) (whole_job t (number - 1)) (accepted (after_release r number need) no_report)
    unfolding after_release whole_job done
    release_sets number need is inside whole =
        let i : ℕ = number - 1 in
        let sets : accepted (after_release r number need) no_report ≡ done (with_job r i (whole_job t i)) = rw (same_task t cores r b.real i, whole) in
        subst (Made t cores r i (whole_job t i)) (sym is)
        (job_made t cores r b.real (Release number need) i (whole_job t i) inside (sym is ∙ sets))

    on_release : (number need : ℕ) → ReleaseTaken r number need → Goal (Release number need) (accepted (after_release r number need) no_report)
    unfolding all_loggable is_loggable own_lines line_by since_call is_done
    on_release number need taken is loggable =
        let i : ℕ = number - 1 in
        let whole = eqb need (task_of t i).budget in
        let inside = inside_table t cores r b.real i taken.task.inside in
        let made = release_sets number need is inside (eqb-true _ _ (and_left whole _ loggable)) in
        next _ a _ (beside_release t cores r a s b i inside taken.was_free _ made) (and_right whole _ loggable)

    finish_sets :
        (number : ℕ) → accepted (after_finish r number) no_report ≡ step r (Finish number) → number - 1 < t.count
        → Made t cores r (number - 1) (closed_job (job_at r (number - 1))) (accepted (after_finish r number) no_report)
    unfolding after_finish done
    finish_sets number is inside =
        let i : ℕ = number - 1 in
        subst (Made t cores r i (closed_job (job_at r i))) (sym is)
        (job_made t cores r b.real (Finish number) i (closed_job (job_at r i)) inside (sym is))

    on_finish : (number : ℕ) → FinishTaken r number → Goal (Finish number) (accepted (after_finish r number) no_report)
    unfolding all_loggable is_loggable own_lines line_by since_call is_done
    on_finish number taken is loggable =
        let i : ℕ = number - 1 in
        let inside = inside_table t cores r b.real i taken.task.inside in
        next _ a _ (beside_finish t cores r a s b i inside taken.was_open _ (finish_sets number is inside)) loggable

    -- the runners are those of the machine's own slot
    own_runners : (k : ℕ) (ran : List Bool) (assigned : List ℕ) → slot_answer r ran assigned ≡ step r (Slot k) → ran ≡ (slot r k).report.ran
    unfolding slot_report step
    own_runners k ran assigned is = ap (λ (answer : Answer). answer.report.ran) is

    on_slot : (k : ℕ) (ran : List Bool) (assigned : List ℕ) → SlotTaken r k ran assigned → Goal (Slot k) (slot_answer r ran assigned)
    unfolding all_loggable is_loggable own_lines line_by since_call is_done
    on_slot k ran assigned taken is loggable =
        let on-cores = eqb k cores in
        let same : k ≡ cores = eqb-true k cores (and_left on-cores _ loggable) in
        let by-cores = subst (λ c. SlotTaken r c ran assigned) same taken in
        let inside : (i : ℕ) → get_or ran i false ≡ true → i < r.table.count = λ i e. ran_inside r k i (rw (own_runners k ran assigned is) at e) in
        one_line (line_small t cores r a s b ran assigned by-cores inside) (line_taken_lem t cores r a s b ran assigned by-cores inside)
        (next _ _ _ (beside_slot t cores r a s b ran assigned by-cores inside (still_sound (Slot k) _ is)) (and_right on-cores _ loggable))

    on_offer : (task : Task) → OfferTaken r task → Goal (Offer task) (accepted (holding r (Some task)) no_report)
    unfolding all_loggable is_loggable own_lines line_by since_call is_done holding job_at
    on_offer task taken is loggable =
        let held = holding r (Some task) in
        let ok : sound held ≡ true = still_sound (Offer task) (accepted held no_report) is in
        next held a s (beside_offer t cores r held a s b (running_with t cores r b.real held ok refl refl refl) (λ i. refl)) loggable

    on_commit : (task : Task) → CommitTaken r task → Goal Commit (accepted (with_joined r task) no_report)
    unfolding all_loggable is_loggable is_done
    on_commit task taken is loggable = not_both false loggable refl

    one_call : (call : Call) → Goal call (step r call)
    one_call = by_call r Goal on_refusal on_release on_finish on_slot on_offer on_commit

module _ (t : Table) (cores : ℕ) where
  all_accepted :
      (calls : List Call) (r a : Machine) (s : Since) → Beside t cores r a s → all_loggable t cores (play r calls) ≡ true
      → Accepts a (own_lines s (play r calls))
  unfolding play own_lines
  all_accepted [] r a s b loggable = no_line
  all_accepted (call ∷ calls) r a s b loggable = one_call t cores r a s b calls (all_accepted calls) call refl loggable

  module _ (starts : (start t cores).outcome ≡ Ok tt) where
    start_running : Running t cores (start t cores).machine
    unfolding start start_after done
    start_running =
        let checks : checked t cores ≡ Ok tt = sym (start_outcome t cores) ∙ starts in
        let on = start_sound t cores starts in
        record {
          is_sound = on.is_sound;
          table_is = rw checks;
          cores_are_lem = on.cores_are_lem;
          all_jobs = rw checks (length-replicate max_tasks fresh_job);
        }

    start_beside : Beside t cores (start t cores).machine (start t cores).machine nothing_since
    start_beside = beside_fresh t cores _ _ start_running start_running (λ i h. refl)

pub own_logs_accepted : OwnLogsAccepted
unfolding OwnLogsAccepted audited audited_after own_log
own_logs_accepted t cores starts calls loggable =
    let m = (start t cores).machine in
    rw starts
    (own_text m (own_lines nothing_since (play m calls)) (all_accepted t cores calls m m nothing_since (start_beside t cores starts) loggable))
