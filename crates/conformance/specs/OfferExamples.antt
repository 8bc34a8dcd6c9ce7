-- Examples of offers and commits (document 02, change 10), as entries of a list of computed tests. `all_true` of crate laws is the test; the theorem stands in
-- proofs/ExamplesHold.antt.
use Rattle.std.specs.Prelude.{ℕ, Bool, true, not, List, [], ◌∷◌, eqb, set, take, drop, replicate, None, Option, Some}
use Rattle.laws.specs.Examples.{same_numbers}
use Rattle.tasks.specs.declared.task.Task.{Task}
use Rattle.tasks.specs.Limits.{max_tasks}
use Rattle.tasks.specs.Table.{empty_table}
use Rattle.tasks.specs.Written.{task, table_of}
use Rattle.job.specs.Job.{fresh_job}
use Rattle.machine.specs.Machine.{task_at, holding}
use Rattle.machine.specs.Sound.{sound}
use Rattle.machine.specs.Calls.{start}
use Rattle.machine.specs.Play.{play, machine_after}
use Rattle.machine.specs.InTime.{closed_by_slot}
use Rattle.machine.specs.declared.machine.Machine.{Machine}
use Rattle.machine.specs.declared.call.Call.{Call}
use Rattle.machine.specs.declared.call.Call.TheVariants.{Release, Finish, Slot, Offer, Commit}
use Rattle.conformance.specs.Runs.{line, answers, refusals, run_is, empty_refusals}
use Rattle.conformance.specs.CallExamples.{many, without_tasks, made_by_hand, all_kinds, whole}

-- the numbers of a task, and of what is held: none, or those of the task
unfoldable pub task_numbers : Task → List ℕ
task_numbers t = t.period ∷ t.budget ∷ t.deadline ∷ []

unfoldable pub held_numbers : Option Task → List ℕ
held_numbers None = []
held_numbers (Some t) = task_numbers t

-- the machine after these calls, from a start
unfoldable pub reached : List Task → (cores : ℕ) → List Call → Machine
reached tasks cores calls = machine_after (start (table_of tasks) cores).machine calls

-- after these calls it holds a task of these numbers, or none
unfoldable pub held_is : List Task → (cores : ℕ) → List Call → (numbers : List ℕ) → Bool
held_is tasks cores calls numbers = same_numbers (held_numbers (reached tasks cores calls).held) numbers

-- a machine made by hand: a fresh one that holds this task
unfoldable pub with_held : List Task → (cores : ℕ) → Task → Machine
with_held tasks cores t = holding (start (table_of tasks) cores).machine (Some t)

-- two tasks, to be on 2 cores
unfoldable pub two : List Task
two = task 4 1 4 ∷ task 6 2 5 ∷ []

-- two tasks of document 01's case g, to be on 2 cores: the third of the case is not admitted beside them
unfoldable pub loaded : List Task
loaded = task 10 9 10 ∷ task 10 6 10 ∷ []

-- a commit with nothing offered, an offer, one out of range, one that displaces the first, a release of the task to be, and two commits
unfoldable pub menu : List Call
menu = Commit ∷ Offer (task 10 6 8) ∷ Offer (task 5 6 5) ∷ Offer (task 10 9 10) ∷ Release 3 1 ∷ Commit ∷ Commit ∷ []

-- a job of task 2, and between its release and its last slot an offer, a slot and a commit; then a job of the new task
unfoldable pub amid : List Call
amid = Release 2 2 ∷ Offer (task 10 6 8) ∷ Slot 2 ∷ Commit ∷ Release 3 6 ∷ replicate 6 (Slot 2)

-- a machine made by hand that holds a task, with another task, an open job and a core in the entry that the task will have
unfoldable pub left_over : Machine
left_over =
    record {
      table = record { count = 1; tasks = (table_of (task 6 3 5 ∷ task 7 7 7 ∷ [])).tasks };
      cores = 1;
      jobs = set (replicate max_tasks fresh_job) 1 (record { «open» = true; left = 9; budget = 9; gap = 9 });
      assigned = set (replicate max_tasks 0) 1 17;
      held = Some (task 9 1 9);
    }

-- runs of the machine, and machines made by hand
unfoldable pub offer_examples : List Bool
offer_examples =
    run_is two 2 menu (17 ∷ 5 ∷ 8 ∷ 17 ∷ []) [] ∷
    -- after the refused offer the first is still held; the last displaces it, and is the third task after the commit, which holds none
    held_is two 2 (take 3 menu) (10 ∷ 6 ∷ 8 ∷ []) ∷
    held_is two 2 (take 4 menu) (10 ∷ 9 ∷ 10 ∷ []) ∷
    eqb (reached two 2 (take 5 menu)).table.count 2 ∷
    same_numbers (task_numbers (task_at (reached two 2 (take 6 menu)) 2)) (10 ∷ 9 ∷ 10 ∷ []) ∷
    held_is two 2 (take 6 menu) [] ∷
    eqb (reached two 2 menu).table.count 3 ∷
    -- an offer, a slot and a commit between the release and the closing of a job, and then a job of the new task
    run_is two 2 amid [] (line 2 0 0 ∷ line 6 2 0 ∷ line 4 0 0 ∷ line 4 0 0 ∷ line 4 0 0 ∷ line 4 0 0 ∷ line 4 4 0 ∷ []) ∷
    closed_by_slot 2 2 5 (drop 1 (answers two 2 amid)) ∷
    not (closed_by_slot 2 2 1 (drop 1 (answers two 2 amid))) ∷
    closed_by_slot 3 6 8 (drop 5 (answers two 2 amid)) ∷
    -- releases, finishes, slots and refused calls keep what is held
    held_is two 2 (Offer (task 10 6 8) ∷ Release 1 1 ∷ Release 2 2 ∷ Slot 2 ∷ Finish 2 ∷ Slot 1 ∷ Release 9 1 ∷ Finish 1 ∷ []) (10 ∷ 6 ∷ 8 ∷ []) ∷
    -- an offer that is not admitted leaves an earlier one held, and is not held itself
    run_is loaded 2 (Offer (task 100 1 100) ∷ Offer (task 5 2 5) ∷ []) (13 ∷ []) [] ∷
    held_is loaded 2 (Offer (task 100 1 100) ∷ Offer (task 5 2 5) ∷ []) (100 ∷ 1 ∷ 100 ∷ []) ∷
    held_is (task 5 5 5 ∷ []) 1 (Offer (task 5 5 5) ∷ []) [] ∷
    -- what is held plays no part in the verdict: each of two offers would be admitted, both together would not
    run_is (task 5 5 5 ∷ []) 2 (Offer (task 5 5 5) ∷ Offer (task 5 5 5) ∷ Commit ∷ Offer (task 5 5 5) ∷ Commit ∷ []) (13 ∷ 17 ∷ []) [] ∷
    -- an offer alone changes no later answer, and a refused one and a commit of none tell nothing but their number, at place 0
    run_is two 2 (Release 1 1 ∷ Offer (task 1 1 1) ∷ Slot 2 ∷ Slot 2 ∷ []) [] (line 1 1 0 ∷ line 0 0 0 ∷ []) ∷
    empty_refusals (answers two 2 (Offer (task 5 6 5) ∷ Offer (task 10 10 9) ∷ Offer (task 0 0 0) ∷ Commit ∷ [])) ∷
    empty_refusals (answers (task 5 5 5 ∷ []) 1 (Offer (task 5 5 5) ∷ Commit ∷ [])) ∷
    -- a commit may make the 32nd task, and after it an offer is refused by 12, at place 0, but by 5 where its task is out of range
    run_is (drop 1 many) 16 (Offer (task 40 1 40) ∷ Commit ∷ Offer (task 40 1 40) ∷ Commit ∷ []) (12 ∷ 17 ∷ []) [] ∷
    empty_refusals (answers many 16 (Offer (task 40 1 40) ∷ [])) ∷
    run_is many 16 (Offer (task 5 6 5) ∷ []) (5 ∷ []) [] ∷
    -- on a table that is not admitted no offer is
    run_is whole 1 (Offer (task 1_000_000 1 1_000_000) ∷ Commit ∷ []) (13 ∷ 17 ∷ []) [] ∷
    -- a machine made by hand that holds a task which an offer would take is sound
    sound (with_held two 2 (task 10 6 8)) ∷
    sound (with_held (task 5 5 5 ∷ []) 2 (task 5 5 5)) ∷
    -- one that holds a task out of range, one of 32 tasks that holds any, one whose longer table would not be admitted is not
    not (sound (with_held two 2 (task 5 6 5))) ∷
    not (sound (with_held two 2 (task 0 0 0))) ∷
    not (sound (with_held two 2 (task 1_000_001 1 1))) ∷
    not (sound (with_held many 16 (task 40 1 40))) ∷
    sound (with_held (drop 1 many) 16 (task 40 1 40)) ∷
    not (sound (with_held (task 5 5 5 ∷ []) 1 (task 5 5 5))) ∷
    not (sound (with_held whole 1 (task 1_000_000 1 1_000_000))) ∷
    -- every call on it is refused by 0, the commit and the calls that would be refused otherwise too
    same_numbers (refusals (play (with_held (task 5 5 5 ∷ []) 1 (task 5 5 5)) all_kinds)) (replicate 10 0) ∷
    same_numbers (refusals (play (with_held two 2 (task 5 6 5)) all_kinds)) (replicate 10 0) ∷
    -- and leaves what is held
    same_numbers (held_numbers (machine_after (with_held two 2 (task 5 6 5)) all_kinds).held) (5 ∷ 6 ∷ 5 ∷ []) ∷
    -- what an unsound job makes unsound stays so with a held task that an offer would take
    not (sound (holding (made_by_hand true 4 2 3) (Some (task 9 1 9)))) ∷
    sound (holding (made_by_hand true 4 2 4) (Some (task 9 1 9))) ∷
    same_numbers (refusals (play without_tasks (Commit ∷ []))) (0 ∷ []) ∷
    -- a commit writes all of the new task's entry, whatever stood there
    same_numbers (task_numbers (task_at (machine_after left_over (Commit ∷ [])) 1)) (9 ∷ 1 ∷ 9 ∷ []) ∷
    same_numbers (refusals (play left_over (Release 2 1 ∷ Finish 2 ∷ Commit ∷ Finish 2 ∷ Release 2 1 ∷ Commit ∷ []))) (8 ∷ 8 ∷ 11 ∷ 17 ∷ []) ∷
    -- a start, and a refused one, hold none
    held_is two 2 [] [] ∷
    same_numbers (held_numbers (start empty_table 1).machine.held) [] ∷
    []
