-- What the claim of demand 3 says. The logs made by hand all come to what `claims` says of them (`claims_hold`). The claim is not empty: it speaks of a release,
-- with a need below the budget, whose job runs and finishes (`not_empty`); and it is false of a log with a late job (`late_refuted`) and of one with a
-- job that does not finish when it has run what its release named (`unclosed_refuted`).
use Rattle.std.proofs.Common.{Ok}
use Prim.Native.Nat.{ℕ, ◌-◌, ◌≤◌, ◌<◌}
use mathlib.Core.Path.{◌≡◌, refl}
use mathlib.Core.Bool.{Bool, true, false}
use mathlib.Core.List.{List, [], ◌∷◌, ◌++◌}
use lib.ListN.{get_or, take, drop, replicate}
use native.Mathlib.Omega.{arith}
use Rattle.tasks.specs.declared.table.Table.{Table}
use Rattle.tasks.specs.Table.{zero_task}
use Rattle.tasks.specs.Outcome.{is_done}
use Rattle.tasks.specs.Written.{task, table_of}
use Rattle.laws.specs.Examples.{all_true}
use Rattle.laws.proofs.CaseSplits.{not_both}
use Rattle.judge.specs.Judge.{judged}
use Rattle.judge.specs.SlackJudge.{admission}
use Rattle.judge.specs.SlackExamples.{four_tasks}
use Rattle.machine.specs.Slot.{no_report}
use Rattle.machine.specs.Calls.{start}
use Rattle.machine.specs.Play.{Entry, play}
use Rattle.machine.specs.InTime.{is_finish_of, accepted_finish, says_ran, says_finished, slot_count, up_to_slot, ran_whole, any_finish, with_offered, point_by, point_after, table_after, closed_by_slot, InTime, Promise}
use Rattle.machine.specs.Claims.{slot_of, idle, ran_on, ran_last, accepted_call, refused_call, closed_in, three_tasks, fourth, two_commits, claims}
use Rattle.machine.specs.declared.call.Call.{Call}
use Rattle.machine.specs.declared.call.Call.TheVariants.{Release, Slot, Offer, Commit}
use Rattle.machine.proofs.Computing.{computing}
use Rattle.machine.proofs.InTimeHolds.{promise}

pub claims_hold : all_true claims ≡ true
unfolding computing says_ran says_finished slot_count up_to_slot ran_whole accepted_finish is_finish_of any_finish closed_by_slot with_offered point_by point_after table_after slot_of idle ran_on ran_last accepted_call refused_call closed_in three_tasks fourth two_commits claims all_true
claims_hold = refl

-- a slot of a log made by hand in which task 2 is late
pub second_late : Entry
second_late =
    record {
      call = Slot 1;
      outcome = Ok tt;
      report = record { ran = []; finished = []; late = false ∷ true ∷ []; runners = 0; assigned = [] };
    }

-- a log made by hand with that slot; the claim fails of task 2
pub late_refuted : InTime three_tasks (accepted_call (Release 2 1) ∷ second_late ∷ []) → ⊥
unfolding computing second_late
late_refuted claim = not_both true refl (claim.none_late (accepted_call (Release 2 1) ∷ []) [] second_late refl refl 1)

-- a slot of a log made by hand in which task 4 runs, and what it says of its finishing
pub fourth_ran : (finished : Bool) → Entry
fourth_ran finished =
    record {
      call = Slot 2;
      outcome = Ok tt;
      report =
          record {
            ran = replicate 3 false ++ true ∷ [];
            finished = replicate 3 false ++ finished ∷ [];
            late = [];
            runners = 1;
            assigned = [];
          };
    }

-- a log made by hand: task 4, which was offered, is released with a need of 2, below its budget, and in the three slots to its deadline it runs three times and
-- finishes with the third; the claim fails of that release
pub unclosed_refuted :
    (InTime three_tasks
    (accepted_call (Release 1 1) ∷ accepted_call (Offer (task 9 3 3)) ∷ accepted_call Commit ∷ accepted_call (Release 4 2) ∷ fourth_ran false ∷ fourth_ran false ∷ fourth_ran true ∷ []))
    → ⊥
unfolding computing accepted_call three_tasks fourth_ran says_ran says_finished slot_count up_to_slot ran_whole accepted_finish is_finish_of any_finish closed_by_slot with_offered point_by point_after table_after
unclosed_refuted claim =
    not_both false
    (claim.all_closed (accepted_call (Release 1 1) ∷ accepted_call (Offer (task 9 3 3)) ∷ accepted_call Commit ∷ []) (fourth_ran false ∷ fourth_ran false ∷ fourth_ran true ∷ [])
    (accepted_call (Release 4 2)) 4 2 refl refl refl (omega arith))
    refl

-- an admitted table and calls whose log has what demand 3 speaks of
pub record NotEmpty : Type 0 where
  pub table : Table
  pub cores : ℕ
  pub calls : List Call
  pub admitted : (admission table cores).admits ≡ true
  -- only the slack test admits it
  pub window_refuses_lem : (judged table cores).admits ≡ false
  -- the log, cut at a release of the task with this number, which names this need
  pub number : ℕ
  pub need : ℕ
  pub before : List Entry
  pub entry : Entry
  pub after : List Entry
  pub log : play (start table cores).machine calls ≡ before ++ entry ∷ after
  pub called : entry.call ≡ Release number need
  pub released : is_done entry.outcome ≡ true
  -- the need is below the task's budget
  pub below : need < (get_or (table_after table before).tasks (number - 1) zero_task).budget
  pub enough_slots : (get_or (table_after table before).tasks (number - 1) zero_task).deadline ≤ slot_count after
  -- entries after it: a slot in which the task runs, and one that reports it finished
  pub ran_at : ℕ
  pub ran : says_ran number (get_or after ran_at entry) ≡ true
  pub finished_at : ℕ
  pub finished : says_finished number (get_or after finished_at entry) ≡ true

-- on 2 cores, document 002's four tasks are released and eight slots follow; the release is that of task 4, with a need of 2 of its 3
example_calls : List Call
example_calls = Release 1 1 ∷ Release 2 1 ∷ Release 3 1 ∷ Release 4 2 ∷ replicate 8 (Slot 2)

pub not_empty : NotEmpty
unfolding computing four_tasks example_calls says_ran says_finished slot_count with_offered point_by point_after table_after
not_empty =
    let entries = play (start (table_of four_tasks) 2).machine example_calls in
    record {
      table = table_of four_tasks;
      cores = 2;
      calls = example_calls;
      admitted = refl;
      window_refuses_lem = refl;
      number = 4;
      need = 2;
      before = take 3 entries;
      entry = record { call = Release 4 2; outcome = Ok tt; report = no_report };
      after = drop 4 entries;
      log = refl;
      called = refl;
      released = refl;
      below = omega arith;
      enough_slots = omega arith;
      ran_at = 1;
      ran = refl;
      finished_at = 2;
      finished = refl;
    }

-- what the promise says of that release
pub not_empty_closed :
    (w : NotEmpty)
    → let deadline = (get_or (table_after w.table w.before).tasks (w.number - 1) zero_task).deadline in
    closed_by_slot w.number w.need deadline w.after ≡ true
unfolding Promise
not_empty_closed w =
    (promise w.table w.cores w.admitted w.calls).all_closed
    w.before w.after w.entry w.number w.need w.log w.called w.released w.enough_slots
