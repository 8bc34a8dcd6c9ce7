-- An accepted slot of the machine that a log is of, and its line on the machine that audits the log: the line has values of 32 bits (`line_small`), is taken
-- (`line_taken_lem`), and after it the two machines stand beside each other with nothing released or finished (`beside_slot`).
use Rattle.std.proofs.Common.{Ok}
use Prim.Native.Nat.{ℕ, ◌^◌, ◌≤◌, ◌<◌}
use native.Mathlib.Omega.{arith}
use mathlib.Core.Path.{◌≡◌, refl, sym, ap, ◌∙◌}
use mathlib.Core.Bool.{Bool, true, false}
use mathlib.Core.List.{List, ◌++◌}
use lib.ListN.{length, get_or}
use Rattle.laws.proofs.Replaced.{length_replaced}
use Rattle.tasks.specs.declared.table.Table.{Table}
use Rattle.tasks.specs.Limits.{max_tasks}
use Rattle.tasks.specs.Outcome.{is_done}
use Rattle.tasks.specs.Flags.{mask, flags_of}
use Rattle.tasks.proofs.MaskLaws.{mask_below}
use Rattle.tasks.proofs.FlagsLaws.{flags_again}
use Rattle.job.specs.Slot.{settled}
use Rattle.machine.specs.Machine.{job_at}
use Rattle.machine.specs.Slot.{ran_count, passed, slot_report, after_slot}
use Rattle.machine.specs.Cores.{with_assigned}
use Rattle.machine.specs.Sound.{sound}
use Rattle.machine.specs.Calls.{slot_with}
use Rattle.machine.specs.Play.{machine_after}
use Rattle.machine.specs.declared.machine.Machine.{Machine}
use Rattle.machine.specs.declared.call.Call.{Call}
use Rattle.machine.specs.declared.answer.Answer.{Answer}
use Rattle.machine.proofs.CallCases.{SlotTaken}
use Rattle.auditing.specs.Log.{max_value}
use Rattle.auditing.specs.Line.{release_at, finish_at, calls_from, line_calls, all_taken, legal_run, before_running, running_of, line_taken, after_line}
use Rattle.auditing.specs.OwnLog.{Since, nothing_since, own_line}
use Rattle.auditing.specs.declared.line.LogLine.{LogLine}
use Rattle.auditing.proofs.OwnText.{Small}
use Rattle.auditing.proofs.SoundRun.{inside_table, slot_made, assigned_job, running_with}
use Rattle.auditing.proofs.CallsReady.{LineMade, line_made}
use Rattle.auditing.proofs.AllowedRun.{legal_run_lem, legal_same}
use Rattle.auditing.proofs.TheoryChoice.{choice_allowed}
use Rattle.auditing.proofs.Beside.{Beside, beside_fresh}

mask_small : (named : List Bool) → length named ≡ max_tasks → mask named ≤ max_value
mask_small named all = let below : mask named < 2 ^ 32 = rw all at (mask_below named) in omega arith

module _
    (t : Table)
    (cores : ℕ)
    (r a : Machine)
    (s : Since)
    (b : Beside t cores r a s)
    (ran : List Bool)
    (assigned : List ℕ)
    (taken : SlotTaken r cores ran assigned)
    (inside : (i : ℕ) → get_or ran i false ≡ true → i < r.table.count)
  where
    -- the line, its calls before its running, and the machine after them
    abbrev line : LogLine
    line = own_line s (slot_report r ran assigned)

    abbrev calls : List Call
    calls = calls_from (release_at t) 0 s.released ++ calls_from finish_at 0 s.finished

    abbrev before : Machine
    before = machine_after a calls

    pub line_small : Small line
    unfolding own_line slot_report
    line_small =
        record {
          released_small = mask_small s.released b.all_released_lem;
          finished_small = mask_small s.finished b.all_finished;
          ran_small = mask_small ran taken.placed.all_tasks;
        }

    calls_are : line_calls a.table line ≡ calls
    unfolding line_calls own_line
    calls_are = rw (flags_again s.released b.all_released_lem, flags_again s.finished b.all_finished, b.audit.table_is)

    before_is : before_running a line ≡ before
    unfolding before_running
    before_is = ap (machine_after a) calls_are

    runners_are : flags_of line.ran ≡ ran
    unfolding own_line slot_report
    runners_are = flags_again ran taken.placed.all_tasks

    running_is : running_of a line ≡ slot_with before ran
    unfolding running_of
    running_is = rw (before_is, runners_are)

    after_is : after_line a line ≡ (slot_with before ran).machine
    unfolding after_line
    after_is = ap (λ (answer : Answer). answer.machine) running_is

    made : LineMade t cores s.released s.finished a calls
    made = line_made t cores s.released s.finished a b.audit b.releases b.finishes

    -- before the running the two machines have the same jobs
    same_jobs : (i : ℕ) → i < t.count → job_at before i ≡ job_at r i
    same_jobs i h = made.jobs i ∙ sym (b.jobs i h)

    legal : legal_run before ran ≡ true
    unfolding ran_count
    legal =
        let tables = made.running.table_is ∙ sym b.real.table_is in
        let on = made.running.cores_are_lem ∙ sym b.real.cores_are_lem in
        let few : ran_count r ran ≤ r.cores = omega (arith, taken.placed.few r.table.count, b.real.cores_are_lem) in
        legal_run_lem before ran
        (legal_same r before ran tables on (λ i h. same_jobs i (inside_table t cores r b.real i h))
        (choice_allowed r ran taken.legal.choice few inside))

    pub line_taken_lem : line_taken a line ≡ true
    unfolding line_taken is_done
    line_taken_lem =
        let all : all_taken a (line_calls a.table line) ≡ true = rw calls_are made.taken in
        let runs : (running_of a line).outcome ≡ Ok tt = rw running_is (slot_made t cores before made.running ran).accepted in
        let goes : legal_run (before_running a line) (flags_of line.ran) ≡ true = rw (before_is, runners_are) legal in
        rw (all, runs, goes)

    same_after : (i : ℕ) → i < t.count → settled (passed r ran i) ≡ settled (passed before ran i)
    unfolding passed
    same_after i h = rw (same_jobs i h)

    pub beside_slot :
        sound (with_assigned (after_slot r ran) assigned) ≡ true
        → Beside t cores (with_assigned (after_slot r ran) assigned) (after_line a line) nothing_since
    unfolding with_assigned after_slot
    beside_slot ok =
        let after = slot_made t cores before made.running ran in
        let long = length_replaced (λ i. settled (passed r ran i)) r.jobs r.table.count in
        rw after_is
        (beside_fresh t cores (with_assigned (after_slot r ran) assigned) (slot_with before ran).machine
        (running_with t cores r b.real (with_assigned (after_slot r ran) assigned) ok refl refl long)
        after.running
        (λ i h. assigned_job t cores r b.real ran assigned i h ∙ same_after i h ∙ sym (after.jobs i h)))
