-- Logs made by hand, and what the claim of demand 3 says of them, as entries of a list of computed tests: so that a weaker reading of
-- slots, of closing or of the table does not go unseen. `all_true` of crate laws is the test, and the theorem stands in proofs/ClaimsHold.antt.
use Rattle.std.specs.Prelude.{ℕ, Bool, true, false, not, List, [], ◌∷◌, ◌++◌, eqb, get_or, replicate, Ok, Err}
use Rattle.laws.specs.Sums.{bit}
use Rattle.tasks.specs.declared.table.Table.{Table}
use Rattle.tasks.specs.declared.refusals.Reason.TheVariants.{UnsoundMachine, SlotCoresOutOfRange}
use Rattle.tasks.specs.Refusals.{refusal}
use Rattle.tasks.specs.Table.{zero_task}
use Rattle.tasks.specs.Written.{task, table_of}
use Rattle.machine.specs.Slot.{no_report}
use Rattle.machine.specs.Play.{Entry}
use Rattle.machine.specs.InTime.{slot_count, closed_by_slot, table_after}
use Rattle.machine.specs.declared.call.Call.{Call}
use Rattle.machine.specs.declared.call.Call.TheVariants.{Release, Finish, Slot, Offer, Commit}

-- a slot of a log made by hand, by what it says of task 1: whether it ran, and whether it finished; of the others it says nothing
unfoldable pub slot_of : (ran finished : Bool) → Entry
slot_of ran finished =
    record {
      call = Slot 1;
      outcome = Ok tt;
      report = record { ran = ran ∷ []; finished = finished ∷ []; late = []; runners = bit ran; assigned = [] };
    }

-- a slot in which task 1 did not run
unfoldable pub idle : Entry
idle = slot_of false false

-- a slot in which it ran and did not finish
unfoldable pub ran_on : Entry
ran_on = slot_of true false

-- a slot in which it ran and finished
unfoldable pub ran_last : Entry
ran_last = slot_of true true

-- an accepted call that is no slot
unfoldable pub accepted_call : Call → Entry
accepted_call call = record { call = call; outcome = Ok tt; report = no_report }

-- a refused call
unfoldable pub refused_call : Call → Entry
refused_call call = record { call = call; outcome = Err (refusal UnsoundMachine 0); report = no_report }

-- whether the claim takes a job of task 1 for closed in a log after its release
unfoldable pub closed_in : (need deadline : ℕ) → List Entry → Bool
closed_in need deadline log = closed_by_slot 1 need deadline log

-- a table of three tasks
unfoldable pub three_tasks : Table
three_tasks = table_of (replicate 3 (task 6 2 5))

-- the deadline of the fourth task after a log
unfoldable pub fourth : List Entry → ℕ
fourth log = (get_or (table_after three_tasks log).tasks 3 zero_task).deadline

-- two offers, each committed
unfoldable pub two_commits : List Entry
two_commits = accepted_call (Offer (task 9 1 2)) ∷ accepted_call Commit ∷ accepted_call (Offer (task 9 1 3)) ∷ accepted_call Commit ∷ []

-- what the claim says of logs
unfoldable pub claims : List Bool
claims =
    -- by the second slot, and not by the third; a refused slot is not counted
    closed_in 1 2 (idle ∷ ran_last ∷ []) ∷
    not (closed_in 1 2 (idle ∷ idle ∷ ran_last ∷ [])) ∷
    closed_in 1 2 (idle ∷ refused_call (Slot 1) ∷ ran_last ∷ []) ∷
    eqb (slot_count (idle ∷ refused_call (Slot 1) ∷ accepted_call (Finish 1) ∷ ran_last ∷ [])) 2 ∷
    -- the whole need, and the last of its slots says that the task finished
    closed_in 2 3 (ran_on ∷ idle ∷ ran_last ∷ []) ∷
    not (closed_in 2 3 (idle ∷ idle ∷ ran_last ∷ [])) ∷
    not (closed_in 2 3 (ran_on ∷ ran_on ∷ idle ∷ [])) ∷
    not (closed_in 2 3 (ran_on ∷ ran_on ∷ ran_last ∷ [])) ∷
    not (closed_in 3 3 (ran_on ∷ ran_last ∷ idle ∷ [])) ∷
    closed_in 4 4 (ran_on ∷ ran_on ∷ ran_on ∷ ran_last ∷ []) ∷
    closed_in 2 2 (ran_last ∷ ran_last ∷ []) ∷
    not (closed_in 1 1 (slot_of false true ∷ [])) ∷
    -- what a refused slot says does not count
    closed_in 1 1 (record { call = Slot 1; outcome = Err (refusal SlotCoresOutOfRange 0); report = ran_on.report } ∷ ran_last ∷ []) ∷
    -- no other call counts as a slot or as a finish
    closed_in 1 2 (accepted_call (Release 2 1) ∷ idle ∷ ran_last ∷ []) ∷
    not (closed_in 1 1 (accepted_call (Release 1 1) ∷ idle ∷ [])) ∷
    not (closed_in 1 1 (accepted_call (Offer (task 9 1 2)) ∷ accepted_call Commit ∷ idle ∷ [])) ∷
    -- an accepted finish of the task, before the deadline
    closed_in 2 2 (idle ∷ accepted_call (Finish 1) ∷ idle ∷ []) ∷
    not (closed_in 2 2 (refused_call (Finish 1) ∷ idle ∷ idle ∷ [])) ∷
    not (closed_in 2 2 (accepted_call (Finish 2) ∷ idle ∷ idle ∷ [])) ∷
    not (closed_in 2 2 (idle ∷ idle ∷ accepted_call (Finish 1) ∷ [])) ∷
    -- of task 2 these slots say nothing
    not (closed_by_slot 2 1 2 (idle ∷ ran_last ∷ [])) ∷
    closed_by_slot 2 1 1 (accepted_call (Finish 2) ∷ idle ∷ []) ∷
    not (closed_by_slot 2 1 1 (accepted_call (Finish 1) ∷ idle ∷ [])) ∷
    -- an accepted commit adds the task of the last accepted offer, an offer alone or a refused commit adds none
    eqb (table_after three_tasks (accepted_call (Offer (task 9 1 2)) ∷ accepted_call Commit ∷ [])).count 4 ∷
    eqb (table_after three_tasks (accepted_call (Offer (task 9 1 2)) ∷ [])).count 3 ∷
    eqb (table_after three_tasks (accepted_call (Offer (task 9 1 2)) ∷ refused_call Commit ∷ [])).count 3 ∷
    eqb (fourth (accepted_call (Release 1 1) ∷ accepted_call (Offer (task 9 1 2)) ∷ idle ∷ accepted_call Commit ∷ [])) 2 ∷
    -- a later accepted offer displaces it, a refused one does not
    eqb (fourth (accepted_call (Offer (task 9 1 2)) ∷ accepted_call (Offer (task 9 1 3)) ∷ accepted_call Commit ∷ [])) 3 ∷
    eqb (fourth (accepted_call (Offer (task 9 1 2)) ∷ refused_call (Offer (task 9 1 3)) ∷ accepted_call Commit ∷ [])) 2 ∷
    -- other refused calls between leave it
    eqb (fourth (accepted_call (Offer (task 9 1 2)) ∷ refused_call (Slot 1) ∷ refused_call (Finish 1) ∷ refused_call (Release 1 1) ∷ accepted_call Commit ∷ [])) 2 ∷
    -- since the last accepted commit: the next one adds the offer after it, and without one none
    eqb (fourth two_commits) 2 ∷
    eqb (get_or (table_after three_tasks two_commits).tasks 4 zero_task).deadline 3 ∷
    eqb (table_after three_tasks two_commits).count 5 ∷
    eqb (table_after three_tasks (two_commits ++ accepted_call Commit ∷ [])).count 5 ∷
    []
