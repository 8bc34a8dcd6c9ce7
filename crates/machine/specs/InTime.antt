-- The claim of demand 3, read from the table started on, the calls and their answers only: document 01, "The slot machine", the paragraph
-- that begins "Demand 3 is a single claim". Tasks are named by their number, from 1.
use Rattle.std.specs.Prelude.{ℕ, suc, ◌-◌, ◌≤◌, ◌≡◌, Bool, true, false, cond, ◌&&◌, ◌||◌, List, [], ◌∷◌, ◌++◌, eqb, leb, get_or, Option, Some, None}
use Rattle.tasks.specs.declared.task.Task.{Task}
use Rattle.tasks.specs.declared.table.Table.{Table}
use Rattle.tasks.specs.Table.{zero_task, with_task}
use Rattle.tasks.specs.Outcome.{is_done}
use Rattle.judge.specs.SlackJudge.{admission}
use Rattle.machine.specs.Calls.{start}
use Rattle.machine.specs.Play.{Entry, play}
use Rattle.machine.specs.declared.call.Call.{Call}
use Rattle.machine.specs.declared.answer.Answer.{Answer}
use Rattle.machine.specs.declared.call.Call.TheVariants.{Release, Finish, Slot, Offer, Commit}

-- the call is a slot
unfoldable pub is_slot : Call → Bool
is_slot (Release number need) = false
is_slot (Finish number) = false
is_slot (Slot k) = true
is_slot (Offer task) = false
is_slot Commit = false

-- the call is a finish of the task of this number
unfoldable pub is_finish_of : (number : ℕ) → Call → Bool
is_finish_of number (Release other need) = false
is_finish_of number (Finish other) = eqb other number
is_finish_of number (Slot k) = false
is_finish_of number (Offer task) = false
is_finish_of number Commit = false

-- an accepted slot: "A call is accepted when it is not refused"
unfoldable pub accepted_slot : Entry → Bool
accepted_slot e = is_done e.outcome && is_slot e.call

-- "a finish of the task is accepted", by this entry
unfoldable pub accepted_finish : (number : ℕ) → Entry → Bool
accepted_finish number e = is_done e.outcome && is_finish_of number e.call

-- an accepted slot's answer says that the task ran
unfoldable pub says_ran : (number : ℕ) → Entry → Bool
says_ran number e = accepted_slot e && get_or e.report.ran (number - 1) false

-- an accepted slot's answer says that the task finished
unfoldable pub says_finished : (number : ℕ) → Entry → Bool
says_finished number e = accepted_slot e && get_or e.report.finished (number - 1) false

-- "only accepted slots are counted"; document 02, change 1: a slot with cores out of range "counts as no slot in anybody's D"
unfoldable pub slot_count : List Entry → ℕ
slot_count [] = 0
slot_count (e ∷ log) = cond (accepted_slot e) (suc (slot_count log)) (slot_count log)

-- the entries "up to and including" the d-th accepted slot: all where fewer follow, and none for d = 0
unfoldable pub up_to_slot : (d : ℕ) → List Entry → List Entry
up_to_slot d [] = []
up_to_slot d (e ∷ log) = cond (eqb d 0) [] (e ∷ up_to_slot (cond (accepted_slot e) (d - 1) d) log)

-- "C slot answers say that the task ran, the C-th of them also that it finished"; c is the job's need: change 5, "closing means having run e slots or a
-- finish" (no machine accepts a need of 0; it would count as 1)
unfoldable pub ran_whole : (number c : ℕ) → List Entry → Bool
ran_whole number c [] = false
ran_whole number c (e ∷ log) =
    cond (says_ran number e) (cond (leb c 1) (says_finished number e) (ran_whole number (c - 1) log)) (ran_whole number c log)

-- "a finish of the task is accepted"
unfoldable pub any_finish : (number : ℕ) → List Entry → Bool
any_finish number [] = false
any_finish number (e ∷ log) = accepted_finish number e || any_finish number log

-- "closed by the D-th slot after that release": among the entries after it up to and including that slot
unfoldable pub closed_by_slot : (number need deadline : ℕ) → (after : List Entry) → Bool
closed_by_slot number need deadline after =
    let window = up_to_slot deadline after in ran_whole number need window || any_finish number window

-- what a log tells at a point of it: the table, and the task of the last accepted offer since the last accepted commit, if there is one
pub record Point : Type 0 where
  pub table : Table
  pub offered : Option Task

-- the table after a commit of what is offered: document 02, change 10, "Commit adds the held task"; from a start none is accepted without an accepted offer
-- since the last accepted commit
unfoldable pub with_offered : Option Task → Table → Table
with_offered None t = t
with_offered (Some task) t = with_task t task

-- the point after an accepted call: an offer is "displacing an earlier offer", and a commit "adds the held task and holds none"
unfoldable pub point_by : Call → Point → Point
point_by (Release number need) p = p
point_by (Finish number) p = p
point_by (Slot k) p = p
point_by (Offer task) p = record { table = p.table; offered = Some task }
point_by Commit p = record { table = with_offered p.offered p.table; offered = None }

-- the point after some calls, refused ones among them
unfoldable pub point_after : Point → List Entry → Point
point_after p [] = p
point_after p (e ∷ log) = point_after (cond (is_done e.outcome) (point_by e.call p) p) log

-- the table after some calls: the one started on, with the task of each accepted commit
unfoldable pub table_after : Table → List Entry → Table
table_after t log = (point_after (record { table = t; offered = None }) log).table

-- the whole claim of a log from a machine started on the table t
pub record InTime (t : Table) (log : List Entry) : Type 0 where
  -- no slot reports a late job: "its answer says of some task that it was late"
  pub none_late :
      (before after : List Entry) (e : Entry) → log ≡ before ++ e ∷ after → is_slot e.call ≡ true
      → (i : ℕ) → get_or e.report.late i false ≡ false
  -- "The job of an accepted release of a task with .. deadline D is closed by the D-th slot after that release", where so many follow; change 5: its need
  -- is what the release names, D that of the task in the table at that point
  pub all_closed :
      (before after : List Entry) (e : Entry) (number need : ℕ) → log ≡ before ++ e ∷ after
      → e.call ≡ Release number need → is_done e.outcome ≡ true
      → let deadline = (get_or (table_after t before).tasks (number - 1) zero_task).deadline in
      deadline ≤ slot_count after → closed_by_slot number need deadline after ≡ true

-- the claim of every list of calls from a fresh machine on a table that is admitted; document 02, change 1: "whichever k, from m to 16, each slot
-- gets", since the slots of a list name any k; change 5: "for all choices of e", since its releases name any e; change 6: "true of tables admitted here";
-- change 10: "Lists of calls, and the buyers' line over them, now contain offer and commit."
unfoldable pub Promise : Table → (cores : ℕ) → Type 0
Promise t cores = (admission t cores).admits ≡ true → (calls : List Call) → InTime t (play (start t cores).machine calls)

-- what a start's contract says: which answer it gives, and the promise of its table and cores
pub record Started (t : Table) (cores : ℕ) (answer : Answer) : Type 0 where
  pub is : answer ≡ start t cores
  pub in_time : Promise t cores
