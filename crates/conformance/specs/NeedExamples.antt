-- Examples of jobs that know their need (document 02, change 5), as entries of a list of computed tests. `all_true` of crate laws is the test; the theorem
-- stands in proofs/ExamplesHold.antt.
use Rattle.std.specs.Prelude.{ℕ, Bool, true, not, ◌&&◌, List, [], ◌∷◌, ◌++◌, eqb, drop, replicate}
use Rattle.tasks.specs.declared.task.Task.{Task}
use Rattle.job.specs.declared.job.Job.{Job}
use Rattle.job.specs.Job.{is_urgent}
use Rattle.machine.specs.Machine.{job_at}
use Rattle.machine.specs.Calls.{start}
use Rattle.machine.specs.Play.{machine_after}
use Rattle.machine.specs.InTime.{closed_by_slot}
use Rattle.tasks.specs.Written.{task, table_of}
use Rattle.machine.specs.declared.call.Call.{Call}
use Rattle.machine.specs.declared.call.Call.TheVariants.{Release, Finish, Slot, Offer, Commit}
use Rattle.conformance.specs.FormerRelease.{whole_release}
use Rattle.conformance.specs.Runs.{line, answers, run_is, ignored_is, empty_refusals}
use Rattle.conformance.specs.Cases.{verdict_is, holds}

-- a task that is due soon, and one that must run in every slot to its deadline if it needs its whole budget
unfoldable pub soon_and_long : List Task
soon_and_long = task 9 1 3 ∷ task 9 5 5 ∷ []

-- two tasks alike
unfoldable pub twice : List Task
twice = replicate 2 (task 6 3 5)

-- of three tasks the second waits for the other two, which are due before it
unfoldable pub held_back : List Task
held_back = task 5 1 1 ∷ task 5 4 4 ∷ task 6 1 3 ∷ []

-- their releases, the second with a need below its budget, and four slots
unfoldable pub held_back_calls : List Call
held_back_calls = Release 1 1 ∷ Release 2 3 ∷ Release 3 1 ∷ replicate 4 (Slot 2)

-- the job of the task at an index after these calls, from a start on 1 core
unfoldable pub job_after : List Task → List Call → ℕ → Job
job_after tasks calls i = job_at (machine_after (start (table_of tasks) 1).machine calls) i

-- the job is open, with these numbers
unfoldable pub opens_with : Job → (left budget gap : ℕ) → Bool
opens_with j left budget gap = j.«open» && eqb j.left left && eqb j.budget budget && eqb j.gap gap

-- runs of the machine
unfoldable pub need_examples : List Bool
need_examples =
    -- the second task with a need of 1 is not urgent, and the first, due sooner, goes ahead; with a need of 5 it is, and goes ahead
    not (is_urgent (job_after soon_and_long (Release 1 1 ∷ Release 2 1 ∷ []) 1)) ∷
    is_urgent (job_after soon_and_long (Release 1 1 ∷ Release 2 5 ∷ []) 1) ∷
    not (is_urgent (job_after soon_and_long (Release 1 1 ∷ Release 2 5 ∷ []) 0)) ∷
    run_is soon_and_long 1 (Release 1 1 ∷ Release 2 1 ∷ replicate 3 (Slot 1)) [] (line 1 1 0 ∷ line 2 2 0 ∷ line 0 0 0 ∷ []) ∷
    run_is soon_and_long 1 (Release 1 1 ∷ Release 2 5 ∷ replicate 5 (Slot 1)) []
    (line 2 0 0 ∷ line 2 0 0 ∷ line 1 1 0 ∷ line 2 0 0 ∷ line 2 0 2 ∷ []) ∷
    -- a need of 0, one above the budget, D, T, and as large as a number of the code can be; an unknown task with a bad need
    run_is twice 1
    (Release 1 0 ∷ Release 1 4 ∷ Release 1 5 ∷ Release 1 6 ∷ Release 1 4_294_967_295 ∷ Release 3 0 ∷ Release 0 4 ∷ [])
    (15 ∷ 15 ∷ 15 ∷ 15 ∷ 15 ∷ 8 ∷ 8 ∷ []) [] ∷
    -- while the gap is above 0 bad needs and a good one, of an open job and of a finished one
    run_is twice 1 (Release 1 3 ∷ Release 1 0 ∷ Release 1 4 ∷ Release 1 2 ∷ []) (15 ∷ 15 ∷ 9 ∷ []) [] ∷
    run_is twice 1 (Release 2 2 ∷ Finish 2 ∷ Release 2 0 ∷ Release 2 4 ∷ Release 2 3 ∷ []) (15 ∷ 15 ∷ 9 ∷ []) [] ∷
    -- a need that is refused changes nothing, of a closed job and of an open one, and is told at place 0 with an empty report
    ignored_is twice 1 (Release 1 2 ∷ Slot 1 ∷ []) (Release 2 4) 15 (Release 2 1 ∷ Slot 1 ∷ Slot 1 ∷ []) (line 1 0 0 ∷ line 1 1 0 ∷ line 2 2 0 ∷ []) ∷
    ignored_is twice 1 (Release 1 2 ∷ Slot 1 ∷ []) (Release 1 4) 15 (Slot 1 ∷ []) (line 1 0 0 ∷ line 1 1 0 ∷ []) ∷
    empty_refusals (answers twice 1 (Release 2 0 ∷ Release 2 4 ∷ [])) ∷
    -- the whole budget is a need like any other, and so is 1: left is D and gap is T with each; with the whole budget the job is what the former release made it
    opens_with (job_after twice (Release 1 3 ∷ []) 0) 5 3 6 ∷
    opens_with (job_at (whole_release (start (table_of twice) 1).machine 1).machine 0) 5 3 6 ∷
    opens_with (job_after twice (Release 1 2 ∷ []) 0) 5 2 6 ∷
    opens_with (job_after twice (Release 1 1 ∷ []) 0) 5 1 6 ∷
    opens_with (job_after (task 1_000_000 1_000_000 1_000_000 ∷ []) (Release 1 999_999 ∷ []) 0) 1_000_000 999_999 1_000_000 ∷
    -- of equal deadlines the larger need first, until both owe 1
    run_is twice 1 (Release 1 1 ∷ Release 2 2 ∷ replicate 3 (Slot 1)) [] (line 2 0 0 ∷ line 1 1 0 ∷ line 2 2 0 ∷ []) ∷
    -- a finish before the need has run; after the gap the next job has a need of its own
    opens_with (job_after twice (Release 1 2 ∷ Slot 1 ∷ Finish 1 ∷ replicate 5 (Slot 1) ++ Release 1 3 ∷ []) 0) 5 3 6 ∷
    -- a committed task's need goes by its own budget
    run_is twice 2 (Offer (task 9 1 9) ∷ Commit ∷ Release 3 2 ∷ Release 3 1 ∷ Slot 2 ∷ []) (15 ∷ []) (line 4 4 0 ∷ []) ∷
    -- on an admitted table a job of need 3 waits for an urgent one and is closed by the last slot to its deadline, not before, and has not run its
    -- whole budget of 4
    holds (verdict_is held_back 2 2 true) ∷
    run_is held_back 2 held_back_calls [] (line 5 5 0 ∷ line 2 0 0 ∷ line 2 0 0 ∷ line 2 2 0 ∷ []) ∷
    closed_by_slot 2 3 4 (drop 3 (answers held_back 2 held_back_calls)) ∷
    not (closed_by_slot 2 3 3 (drop 3 (answers held_back 2 held_back_calls))) ∷
    not (closed_by_slot 2 4 4 (drop 3 (answers held_back 2 held_back_calls))) ∷
    -- a late job is not closed
    not (closed_by_slot 2 4 5 (drop 2 (answers soon_and_long 1 (Release 1 1 ∷ Release 2 5 ∷ replicate 5 (Slot 1))))) ∷
    []
