-- Examples beside the cases of document 01, as entries of a list of computed tests: tasks that are added (document 02, changes 6 and 10), a task that turns
-- urgent, refused calls, slots with other cores than the machine's (change 1), jobs of equal deadlines (change 2), and machines made by hand (change 3). `all_true` of crate laws
-- is the test; the theorem stands in proofs/ExamplesHold.antt.
use Rattle.std.specs.Prelude.{ℕ, Bool, true, false, not, List, [], ◌∷◌, ◌++◌, eqb, set, replicate, take, drop, None}
use Rattle.laws.specs.Examples.{same_numbers}
use Rattle.tasks.specs.declared.task.Task.{Task}
use Rattle.tasks.specs.Limits.{max_tasks}
use Rattle.tasks.specs.Table.{empty_table}
use Rattle.tasks.specs.Written.{task, table_of}
use Rattle.job.specs.Job.{fresh_job}
use Rattle.machine.specs.declared.machine.Machine.{Machine}
use Rattle.machine.specs.Sound.{sound}
use Rattle.machine.specs.Play.{play}
use Rattle.machine.specs.InTime.{slot_count, closed_by_slot}
use Rattle.machine.specs.declared.call.Call.{Call}
use Rattle.machine.specs.declared.call.Call.TheVariants.{Release, Finish, Slot, Offer, Commit}
use Rattle.conformance.specs.FormerRelease.{former_release}
use Rattle.conformance.specs.Runs.{line, answers, all_released, refusal_before, refusals, runner_counts, run_is, ignored_is, empty_refusals}
use Rattle.conformance.specs.Cases.{verdict_is, session_is, holds, example}

-- 32 tasks: the last 12 have the earlier deadline
unfoldable pub many : List Task
many = replicate 20 (task 40 2 20) ++ replicate 12 (task 40 3 7)

-- a task that must run in both slots to its deadline
unfoldable pub pressed : List Task
pressed = task 4 2 2 ∷ []

-- its release on 2 cores, then two slots that are refused, then its two slots
unfoldable pub pressed_calls : List Call
pressed_calls = Release 1 2 ∷ Slot 1 ∷ Slot 1 ∷ Slot 2 ∷ Slot 2 ∷ []

-- a slot with k cores between its two slots is refused by 14 and changes nothing: a job that aged in it would be late
unfoldable pub ignored_slot : (k : ℕ) → Bool
ignored_slot k = ignored_is pressed 2 (Release 1 2 ∷ Slot 2 ∷ []) (Slot k) 14 (Slot 2 ∷ []) (line 1 0 0 ∷ line 1 1 0 ∷ [])

-- a machine made by hand that is unsound: it has 2 cores and no task
unfoldable pub without_tasks : Machine
without_tasks = record { table = empty_table; cores = 2; jobs = replicate max_tasks fresh_job; assigned = replicate max_tasks 0; held = None }

-- a machine made by hand: a task 6, 3, 5 on 1 core, with this record
unfoldable pub made_by_hand : (is_open : Bool) → (left budget gap : ℕ) → Machine
made_by_hand is_open left budget gap =
    record {
      table = table_of (task 6 3 5 ∷ []);
      cores = 1;
      jobs = set (replicate max_tasks fresh_job) 0 (record { «open» = is_open; left = left; budget = budget; gap = gap });
      assigned = replicate max_tasks 0;
      held = None;
    }

-- calls of every kind, each but the commit also with a number, need, cores or a task that it refuses
unfoldable pub all_kinds : List Call
all_kinds =
    Release 1 3 ∷ Release 2 3 ∷ Release 1 0 ∷ Finish 1 ∷ Finish 2 ∷ Slot 1 ∷ Slot 0 ∷ Offer (task 9 1 9) ∷ Offer (task 5 6 5) ∷ Commit ∷ []

-- a table that a third task like the two fills beyond its cores
unfoldable pub whole : List Task
whole = task 5 5 5 ∷ task 5 5 5 ∷ []

-- two tasks with an earlier deadline than the third, released a slot after it
unfoldable pub overtaken : List Task
overtaken = task 5 2 5 ∷ task 5 2 5 ∷ task 7 6 7 ∷ []

-- a call on `example` after the first slot, in which task 1 finished and task 2 did not
unfoldable pub ignored : Call → (number : ℕ) → Bool
ignored call number =
    ignored_is example 2 (Release 1 1 ∷ Release 2 2 ∷ Slot 2 ∷ []) call number (Release 3 6 ∷ replicate 6 (Slot 2))
    (line 3 1 0 ∷ line 6 2 0 ∷ line 4 0 0 ∷ line 4 0 0 ∷ line 4 0 0 ∷ line 4 0 0 ∷ line 4 4 0 ∷ [])

-- runs of the machine, and which machines are sound
unfoldable pub call_examples : List Bool
call_examples =
    -- 32 tasks on 16 cores, by the window test: COUNT 12, admitted; on 11 cores the same COUNT, refused
    holds (verdict_is many 16 12 true) ∷
    holds (verdict_is many 11 12 false) ∷
    -- a 33rd task is refused by 12
    run_is many 16 (Offer (task 40 1 40) ∷ []) (12 ∷ []) [] ∷
    -- an offer and a commit between two slots: the task is released and runs
    run_is (task 4 1 4 ∷ task 6 2 5 ∷ []) 2
    (Release 1 1 ∷ Release 2 2 ∷ Slot 2 ∷ Offer (task 10 6 8) ∷ Commit ∷ Release 3 6 ∷ replicate 6 (Slot 2))
    []
    (line 3 1 0 ∷ line 6 2 0 ∷ line 4 0 0 ∷ line 4 0 0 ∷ line 4 0 0 ∷ line 4 0 0 ∷ line 4 4 0 ∷ []) ∷
    -- an offer that the slack test admits and the window test does not, committed before the releases: none is late
    holds (verdict_is (task 4 1 1 ∷ task 4 1 4 ∷ task 5 1 5 ∷ []) 1 2 false) ∷
    run_is (task 4 1 1 ∷ task 4 1 4 ∷ []) 1 (Offer (task 5 1 5) ∷ Commit ∷ Release 1 1 ∷ Release 2 1 ∷ Release 3 1 ∷ replicate 5 (Slot 1)) []
    (line 1 1 0 ∷ line 2 2 0 ∷ line 4 4 0 ∷ line 0 0 0 ∷ line 0 0 0 ∷ []) ∷
    -- an offer that is not admitted changes no later answer
    ignored_is whole 2 (Release 1 5 ∷ Slot 2 ∷ []) (Offer (task 5 5 5)) 13 (Release 2 5 ∷ replicate 5 (Slot 2))
    (line 1 0 0 ∷ line 3 0 0 ∷ line 3 0 0 ∷ line 3 0 0 ∷ line 3 1 0 ∷ line 2 2 0 ∷ []) ∷
    -- and its task is not held and has no number
    run_is whole 2 (Offer (task 5 5 5) ∷ Commit ∷ Release 3 5 ∷ []) (13 ∷ 17 ∷ 8 ∷ []) [] ∷
    -- slot 3 runs task 3, urgent by then, before task 2 with the earlier deadline; tasks 1 and 2 first would make task 3 late
    holds (verdict_is overtaken 2 1 true) ∷
    run_is overtaken 2 (Release 3 6 ∷ Slot 2 ∷ Release 1 2 ∷ Release 2 2 ∷ replicate 6 (Slot 2)) []
    (line 4 0 0 ∷ line 3 0 0 ∷ line 5 1 0 ∷ line 6 2 0 ∷ line 4 0 0 ∷ line 4 0 0 ∷ line 4 4 0 ∷ []) ∷
    -- refused calls that change no later answer: a release too soon, a finish of a closed task
    ignored (Release 1 1) 9 ∷
    ignored (Finish 1) 11 ∷
    -- a release of a task whose job is open
    ignored (Release 2 2) 9 ∷
    -- the task numbers 0 and n + 1
    ignored (Release 0 1) 8 ∷
    ignored (Release 4 1) 8 ∷
    ignored (Finish 0) 8 ∷
    ignored (Finish 4) 8 ∷
    -- an offer out of range, one that is not admitted, and a commit with no held task
    ignored (Offer (task 5 6 5)) 5 ∷
    ignored (Offer (task 10 9 10)) 13 ∷
    ignored Commit 17 ∷
    -- a finish before the job has run: the task stays idle, and its gap stays
    run_is example 2 (Release 1 1 ∷ Release 2 2 ∷ Finish 2 ∷ Release 2 2 ∷ replicate 2 (Slot 2)) (9 ∷ []) (line 1 1 0 ∷ line 0 0 0 ∷ []) ∷
    -- refused slots between two accepted ones: of 0 cores, of one fewer than the machine's, of 17 and of the largest number
    ignored_slot 0 ∷
    ignored_slot 1 ∷
    ignored_slot 17 ∷
    ignored_slot 4_294_967_295 ∷
    -- an unsound machine is told before the slot's cores, below its own and above 16
    same_numbers (refusals (play without_tasks (Slot 1 ∷ Slot 17 ∷ []))) (0 ∷ 0 ∷ []) ∷
    -- two refused slots do not bring the deadline nearer: the job has its two slots after them
    holds (verdict_is pressed 2 1 true) ∷
    run_is pressed 2 pressed_calls (14 ∷ 14 ∷ []) (line 1 0 0 ∷ line 1 1 0 ∷ []) ∷
    -- and they tell nothing but their number
    empty_refusals (take 2 (drop 1 (answers pressed 2 pressed_calls))) ∷
    -- of the calls after the release the claim of demand 3 counts two slots, by the second of which the job is closed
    eqb (slot_count (drop 1 (answers pressed 2 pressed_calls))) 2 ∷
    closed_by_slot 1 2 2 (drop 1 (answers pressed 2 pressed_calls)) ∷
    -- more open tasks than the machine's cores and fewer than the slot's: all run
    run_is example 2 (all_released example ++ Slot 4 ∷ []) [] (line 7 1 0 ∷ []) ∷
    same_numbers (runner_counts (answers example 2 (all_released example ++ Slot 4 ∷ []))) (3 ∷ []) ∷
    -- one open task on 16 cores
    same_numbers (runner_counts (answers example 2 (Release 2 2 ∷ replicate 3 (Slot 16)))) (1 ∷ 1 ∷ 0 ∷ []) ∷
    -- each slot has its own number: two of three open tasks run, then one, which owes more by then, then all three
    run_is (replicate 3 (task 9 2 9)) 1 (all_released (replicate 3 (task 9 2 9)) ++ Slot 2 ∷ Slot 1 ∷ Slot 4 ∷ []) []
    (line 3 0 0 ∷ line 4 0 0 ∷ line 7 7 0 ∷ []) ∷
    -- of equal deadlines the longer job first, by what it owes now: task 2 until both owe 1, then task 1
    holds (session_is (task 9 1 4 ∷ task 9 3 4 ∷ []) 1 (line 2 0 0 ∷ line 2 0 0 ∷ line 1 1 0 ∷ line 2 2 0 ∷ [])) ∷
    -- left goes before budget: task 1 owes less and is due first
    holds (session_is (task 9 1 3 ∷ task 9 3 6 ∷ []) 1 (line 1 1 0 ∷ line 2 0 0 ∷ line 2 0 0 ∷ line 2 2 0 ∷ [])) ∷
    -- both urgent with left 2: task 2 waited for task 3, owes 3 and goes before task 1, which owes 2
    run_is (task 9 2 2 ∷ task 9 3 3 ∷ task 9 1 1 ∷ []) 1 (Release 2 3 ∷ Release 3 1 ∷ Slot 1 ∷ Release 1 2 ∷ Slot 1 ∷ Slot 1 ∷ []) []
    (line 4 4 0 ∷ line 2 0 0 ∷ line 1 0 3 ∷ []) ∷
    -- an open job's gap is at least its left (document 02, change 3): equal is enough, and neither the budget, D nor left + (T − D) bounds it
    not (sound (made_by_hand true 4 2 3)) ∷
    sound (made_by_hand true 4 2 4) ∷
    sound (made_by_hand true 2 1 2) ∷
    sound (made_by_hand true 2 1 4) ∷
    sound (made_by_hand true 5 3 6) ∷
    not (sound (made_by_hand true 1 1 0)) ∷
    sound (made_by_hand true 1 1 1) ∷
    -- a closed task's gap is bounded by T alone
    sound (made_by_hand false 0 0 0) ∷
    sound (made_by_hand false 0 0 6) ∷
    not (sound (made_by_hand false 0 0 7)) ∷
    -- the other bounds of an open job: its gap by T, its left by 1 and D, its budget by 1 and C; and a closed one has neither left nor budget
    not (sound (made_by_hand true 5 3 7)) ∷
    not (sound (made_by_hand true 0 1 6)) ∷
    not (sound (made_by_hand true 6 3 6)) ∷
    not (sound (made_by_hand true 4 0 4)) ∷
    not (sound (made_by_hand true 4 4 4)) ∷
    not (sound (made_by_hand false 1 0 1)) ∷
    not (sound (made_by_hand false 0 1 0)) ∷
    -- a gap below left is told by 0 before all else, and by every call
    same_numbers (refusals (play (made_by_hand true 4 2 3) all_kinds)) (replicate 10 0) ∷
    -- a release of an open job is refused by 9, also in the last slot of its gap
    same_numbers (refusals (play (made_by_hand true 4 2 4) (Release 2 3 ∷ Release 1 3 ∷ []))) (8 ∷ 9 ∷ []) ∷
    same_numbers (refusals (play (made_by_hand true 1 1 1) (Release 1 3 ∷ []))) (9 ∷ []) ∷
    -- by document 01 one of an open job without a gap, which was sound then, was refused by 10
    same_numbers (refusal_before (former_release (made_by_hand true 4 2 0) 1).outcome []) (10 ∷ []) ∷
    -- after a gap of four slots a release is accepted, and not after three
    same_numbers (refusals (play (made_by_hand true 4 2 4) (replicate 3 (Slot 1) ++ Release 1 3 ∷ Slot 1 ∷ Release 1 3 ∷ []))) (9 ∷ []) ∷
    []
