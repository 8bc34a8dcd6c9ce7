-- What the session program prints: document 01, "The table as text".
use Rattle.std.specs.Prelude.{ℕ, zero, suc, ◌+◌, cond, List, [], ◌∷◌, ◌++◌, length, get_or, replicate}
use Rattle.text.specs.Output.{numbers_line}
use Rattle.tasks.specs.declared.task.Task.{Task}
use Rattle.tasks.specs.declared.table.Table.{Table}
use Rattle.tasks.specs.Table.{zero_task}
use Rattle.tasks.specs.Flags.{mask}
use Rattle.tasks.specs.Written.{task, table_of}
use Rattle.machine.specs.Calls.{start}
use Rattle.machine.specs.Play.{Entry, play}
use Rattle.machine.specs.InTime.{is_slot}
use Rattle.machine.specs.declared.answer.Report.{Report}
use Rattle.machine.specs.declared.call.Call.{Call}
use Rattle.machine.specs.declared.call.Call.TheVariants.{Release, Slot}

-- "For each slot it prints the slot's number and the tasks that ran, finished and were late, each as the sum of 2 to the power (task number − 1)"
unfoldable pub slot_line : (number : ℕ) → Report → List ℕ
slot_line number r = numbers_line (number ∷ mask r.ran ∷ mask r.finished ∷ mask r.late ∷ [])

-- the lines of a log's slots, of which the first has the number n
unfoldable pub slot_lines_from : (n : ℕ) → List Entry → List ℕ
slot_lines_from n [] = []
slot_lines_from n (e ∷ log) = cond (is_slot e.call) (slot_line n e.report ++ slot_lines_from (n + 1) log) (slot_lines_from n log)

-- releases of the tasks 1 to n of a table, each of its whole budget: the cases are document 01's, where "Every release is charged the whole C_i"
unfoldable pub releases : Table → (n : ℕ) → List Call
releases t zero = []
releases t (suc n) = releases t n ++ Release (suc n) (get_or t.tasks n zero_task).budget ∷ []

-- the log of a session: the tasks of a table "all released" on a fresh machine, then so many slots; document 02, change 1: "The sessions name
-- k = m"
unfoldable pub session : List Task → (cores slots : ℕ) → List Entry
session tasks cores slots =
    let t = table_of tasks in play (start t cores).machine (releases t (length tasks) ++ replicate slots (Slot cores))

-- "case j for six slots": "Tasks 6, 2, 3; 6, 2, 3; 6, 5, 6 on 2 cores, all released"
unfoldable pub case_j : List Entry
case_j = session (task 6 2 3 ∷ task 6 2 3 ∷ task 6 5 6 ∷ []) 2 6

-- "then k for five": two tasks 5, 5, 5 "released on 1 core"
unfoldable pub case_k : List Entry
case_k = session (task 5 5 5 ∷ task 5 5 5 ∷ []) 1 5

-- the lines of both, "with no line of names and nothing between the two"
unfoldable pub printed : List ℕ
printed = slot_lines_from 1 case_j ++ slot_lines_from 1 case_k

-- the room that an array needs for it: eleven lines of eight bytes
abbrev pub room : ℕ
room = 88
