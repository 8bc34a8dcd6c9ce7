-- Runs of the machine, and the words in which computed tests speak of them.
use Rattle.std.specs.Prelude.{ℕ, suc, ◌+◌, Bool, true, false, cond, ◌&&◌, List, [], ◌∷◌, ◌++◌, eqb, replicate, Ok, Err}
use Rattle.laws.specs.Examples.{same_numbers}
use Rattle.tasks.specs.declared.task.Task.{Task}
use Rattle.tasks.specs.Outcome.{Outcome}
use Rattle.tasks.specs.Refusals.{number_of}
use Rattle.tasks.specs.Written.{table_of}
use Rattle.tasks.specs.Flags.{mask}
use Rattle.machine.specs.Calls.{start}
use Rattle.machine.specs.Play.{Entry, play}
use Rattle.machine.specs.InTime.{accepted_slot}
use Rattle.machine.specs.declared.call.Call.{Call}
use Rattle.machine.specs.declared.call.Call.TheVariants.{Release, Slot}

-- the answers to a list of calls, from a fresh machine
unfoldable pub answers : List Task → (cores : ℕ) → List Call → List Entry
answers tasks cores calls = play (start (table_of tasks) cores).machine calls

-- releases of tasks whose first has the number n, each of its whole budget: the cases are document 01's, where "Every release is charged the whole C_i"
unfoldable pub releases_from : (n : ℕ) → List Task → List Call
releases_from n [] = []
releases_from n (t ∷ tasks) = Release n t.budget ∷ releases_from (suc n) tasks

-- these tasks "all released"
unfoldable pub all_released : List Task → List Call
all_released tasks = releases_from 1 tasks

-- a session: the tasks all released, then so many slots; document 02, change 1: "The sessions name k = m"
unfoldable pub session_calls : List Task → (cores slots : ℕ) → List Call
session_calls tasks cores slots = all_released tasks ++ replicate slots (Slot cores)

-- what one slot reports, each as the sum of 2 to the power (task number − 1)
pub record Line : Type 0 where
  pub ran : ℕ
  pub finished : ℕ
  pub late : ℕ

-- a line by its three numbers
unfoldable pub line : (ran finished late : ℕ) → Line
line ran finished late = record { ran = ran; finished = finished; late = late }

-- what the accepted slots of a log report, a line for each
unfoldable pub slot_lines : List Entry → List Line
slot_lines [] = []
slot_lines (e ∷ log) =
    cond (accepted_slot e)
    (record { ran = mask e.report.ran; finished = mask e.report.finished; late = mask e.report.late } ∷ slot_lines log)
    (slot_lines log)

-- two lists have the same lines
unfoldable pub same_lines : List Line → List Line → Bool
same_lines [] [] = true
same_lines [] (y ∷ t) = false
same_lines (x ∷ s) [] = false
same_lines (x ∷ s) (y ∷ t) = eqb x.ran y.ran && eqb x.finished y.finished && eqb x.late y.late && same_lines s t

-- the refusal number of an outcome, if it is one, in front of others
unfoldable pub refusal_before : Outcome → List ℕ → List ℕ
refusal_before (Ok _) numbers = numbers
refusal_before (Err why) numbers = number_of why.reason ∷ numbers

-- the refusal numbers of the refused calls
unfoldable pub refusals : List Entry → List ℕ
refusals [] = []
refusals (e ∷ log) = refusal_before e.outcome (refusals log)

-- the number of runners that each accepted slot gives
unfoldable pub runner_counts : List Entry → List ℕ
runner_counts [] = []
runner_counts (e ∷ log) = cond (accepted_slot e) (e.report.runners ∷ runner_counts log) (runner_counts log)

-- the calls are refused with these numbers, the others carried out, and the accepted slots report these lines
unfoldable pub run_is : List Task → (cores : ℕ) → List Call → (numbers : List ℕ) → List Line → Bool
run_is tasks cores calls numbers lines =
    let log = answers tasks cores calls in same_numbers (refusals log) numbers && same_lines (slot_lines log) lines

-- the call is refused with this number, and the slots report the same lines with it and without it
unfoldable pub ignored_is :
    List Task → (cores : ℕ) → (before : List Call) → Call → (number : ℕ) → (after : List Call) → List Line → Bool
ignored_is tasks cores before call number after lines =
    run_is tasks cores (before ++ call ∷ after) (number ∷ []) lines && run_is tasks cores (before ++ after) [] lines

-- the outcome is a refusal at place 0
unfoldable pub at_place0 : Outcome → Bool
at_place0 (Ok _) = false
at_place0 (Err why) = eqb why.place 0

-- the calls are refused, each at place 0 with a report that "names no task and gives 0 runners"
unfoldable pub empty_refusals : List Entry → Bool
empty_refusals [] = true
empty_refusals (e ∷ log) =
    let r = e.report in
    at_place0 e.outcome && eqb (mask r.ran + mask r.finished + mask r.late + r.runners) 0 && empty_refusals log
