-- Examples of document 02's change 4 on the machine, as entries of a list of computed tests: `all_true` of crate laws is the test, and the
-- theorem stands in proofs/ExamplesHold.antt. Those of the assignment alone are in crate cores.
use Rattle.std.specs.Prelude.{ℕ, Bool, true, false, cond, not, ◌&&◌, ◌||◌, List, [], ◌∷◌, ◌++◌, eqb, length, take, replicate, None}
use Rattle.tasks.specs.declared.task.Task.{Task}
use Rattle.tasks.specs.Limits.{max_tasks}
use Rattle.tasks.specs.Table.{empty_table}
use Rattle.job.specs.Job.{fresh_job}
use Rattle.laws.specs.Examples.{same_numbers}
use Rattle.machine.specs.Machine.{core_at}
use Rattle.machine.specs.Sound.{sound}
use Rattle.machine.specs.Calls.{start}
use Rattle.machine.specs.Play.{Entry, play, machine_after}
use Rattle.machine.specs.InTime.{accepted_slot}
use Rattle.tasks.specs.Written.{task, table_of}
use Rattle.machine.specs.declared.machine.Machine.{Machine}
use Rattle.machine.specs.declared.call.Call.{Call}
use Rattle.machine.specs.declared.call.Call.TheVariants.{Release, Finish, Slot, Offer, Commit}
use Rattle.conformance.specs.Runs.{answers, all_released, refusals}

-- the cores that the accepted slots of a log answer, each for the first n tasks
unfoldable pub core_lines : (n : ℕ) → List Entry → List (List ℕ)
core_lines n [] = []
core_lines n (e ∷ log) = cond (accepted_slot e) (take n e.report.assigned ∷ core_lines n log) (core_lines n log)

-- two lists have the same lists of numbers
unfoldable pub same_lists : List (List ℕ) → List (List ℕ) → Bool
same_lists [] [] = true
same_lists [] (y ∷ t) = false
same_lists (x ∷ s) [] = false
same_lists (x ∷ s) (y ∷ t) = same_numbers x y && same_lists s t

-- from a start on 1 core, the accepted slots answer these cores
unfoldable pub cores_are : List Task → List Call → List (List ℕ) → Bool
cores_are tasks calls lines = same_lists (core_lines (length tasks) (answers tasks 1 calls)) lines

-- three tasks with a budget of three in nine slots each
unfoldable pub three : List Task
three = replicate 3 (task 9 3 9)

-- two tasks that are due in one slot and can be released in every slot
unfoldable pub every_slot : List Task
every_slot = replicate 2 (task 1 1 1)

-- a machine made by hand: two closed tasks on 4 cores, with these cores recorded
unfoldable pub recording : (assigned : List ℕ) → Machine
recording assigned =
    record {
      table = table_of (replicate 2 (task 6 3 5));
      cores = 4;
      jobs = replicate max_tasks fresh_job;
      assigned = take max_tasks (assigned ++ replicate max_tasks 0);
      held = None;
    }

-- the recorded cores of the first three entries after some calls on such a machine
unfoldable pub record_after : (assigned : List ℕ) → List Call → List ℕ
record_after assigned calls = take 3 (machine_after (recording assigned) calls).assigned

-- only accepted slots name cores
unfoldable pub else_no_cores : List Entry → Bool
else_no_cores [] = true
else_no_cores (e ∷ log) = (accepted_slot e || same_numbers e.report.assigned (replicate max_tasks 0)) && else_no_cores log

-- runs of the machine, and machines made by hand
unfoldable pub core_examples : List Bool
core_examples =
    -- a keeper that comes second in precedence: task 1 is due first and takes core 2
    cores_are (task 9 2 3 ∷ task 9 4 9 ∷ []) (Release 2 4 ∷ Slot 2 ∷ Release 1 2 ∷ Slot 2 ∷ []) ((0 ∷ 1 ∷ []) ∷ (2 ∷ 1 ∷ []) ∷ []) ∷
    -- none has a core: they take theirs in precedence, not in the order of their numbers
    cores_are (task 9 2 5 ∷ task 9 2 3 ∷ []) (Release 1 2 ∷ Release 2 2 ∷ Slot 2 ∷ []) ((2 ∷ 1 ∷ []) ∷ []) ∷
    -- an open task that waits has none
    cores_are three (all_released three ++ Slot 2 ∷ Slot 1 ∷ []) ((1 ∷ 2 ∷ 0 ∷ []) ∷ (0 ∷ 0 ∷ 1 ∷ []) ∷ []) ∷
    -- a task whose core is above k takes the lowest one that no runner keeps
    cores_are three (all_released three ++ Slot 3 ∷ Finish 2 ∷ Slot 2 ∷ []) ((1 ∷ 2 ∷ 3 ∷ []) ∷ (1 ∷ 0 ∷ 2 ∷ []) ∷ []) ∷
    -- a finished task released again at once keeps its core; after a slot in which it did not run it has none
    cores_are every_slot (all_released every_slot ++ Slot 2 ∷ Release 2 1 ∷ Slot 2 ∷ Slot 1 ∷ Release 2 1 ∷ Slot 2 ∷ [])
    ((1 ∷ 2 ∷ []) ∷ (0 ∷ 2 ∷ []) ∷ (0 ∷ 0 ∷ []) ∷ (0 ∷ 1 ∷ []) ∷ []) ∷
    -- three tasks of which two are finished before a slot of one core
    cores_are three (all_released three ++ Slot 3 ∷ Finish 1 ∷ Finish 2 ∷ Slot 1 ∷ []) ((1 ∷ 2 ∷ 3 ∷ []) ∷ (0 ∷ 0 ∷ 1 ∷ []) ∷ []) ∷
    -- a refused slot, a release and a finish of another task keep the record; the core of the finished task is free
    cores_are three (Release 1 3 ∷ Release 2 3 ∷ Slot 2 ∷ Slot 0 ∷ Finish 1 ∷ Release 3 3 ∷ Slot 2 ∷ [])
    ((1 ∷ 2 ∷ 0 ∷ []) ∷ (0 ∷ 2 ∷ 1 ∷ []) ∷ []) ∷
    -- a finish keeps the core of its own task
    eqb (core_at (machine_after (start (table_of three) 1).machine (all_released three ++ Slot 3 ∷ Finish 2 ∷ [])) 1) 2 ∷
    -- a release, a finish, a refused slot, an offer and a commit name no core
    else_no_cores (answers three 4 (all_released three ++ Slot 4 ∷ Finish 1 ∷ Slot 3 ∷ Offer (task 9 1 9) ∷ Commit ∷ [])) ∷
    -- records with 16, 17, a core twice, and 0 twice; entries past the count are no part of the machine
    sound (recording (16 ∷ 1 ∷ [])) ∷
    not (sound (recording (17 ∷ 1 ∷ []))) ∷
    not (sound (recording (3 ∷ 3 ∷ []))) ∷
    sound (recording (0 ∷ 0 ∷ [])) ∷
    sound (recording (3 ∷ 0 ∷ 3 ∷ 17 ∷ [])) ∷
    -- every call on a machine with a core twice is refused by 0, before its own refusals
    same_numbers (refusals (play (recording (3 ∷ 3 ∷ [])) (Release 9 0 ∷ Finish 9 ∷ Slot 0 ∷ Offer (task 5 6 5) ∷ Commit ∷ []))) (replicate 5 0) ∷
    -- an offer keeps the record; a committed task has no core, whatever stood in its entry
    same_numbers (record_after (1 ∷ 2 ∷ 5 ∷ []) (Offer (task 9 1 9) ∷ [])) (1 ∷ 2 ∷ 5 ∷ []) ∷
    same_numbers (record_after (1 ∷ 2 ∷ 5 ∷ []) (Offer (task 9 1 9) ∷ Commit ∷ [])) (1 ∷ 2 ∷ 0 ∷ []) ∷
    -- a slot in which nobody runs clears the record of the table's tasks alone
    same_numbers (record_after (1 ∷ 2 ∷ 5 ∷ []) (Slot 4 ∷ [])) (0 ∷ 0 ∷ 5 ∷ []) ∷
    -- a refused start hands back a machine that records no core
    same_numbers (start empty_table 1).machine.assigned (replicate max_tasks 0) ∷
    []
