-- Whether a given table can be judged or started: document 01, "Why a call is not carried out".
use Rattle.std.specs.Prelude.{ℕ, zero, suc, ◌+◌, Bool, cond, not, ◌&&◌, List, Ok, Err, eqb, leb, ltb, get_or}
use Rattle.tasks.specs.Limits.{max_tasks, max_cores}
use Rattle.tasks.specs.Refusals.{refusal}
use Rattle.tasks.specs.Outcome.{Outcome}
use Rattle.tasks.specs.Task.{in_range}
use Rattle.tasks.specs.Table.{zero_task}
use Rattle.tasks.specs.declared.task.Task.{Task}
use Rattle.tasks.specs.declared.table.Table.{Table}
use Rattle.tasks.specs.declared.refusals.Reason.TheVariants.{TooManyTasks, NoTask, TaskOutOfRange, CoresOutOfRange}

-- "5 task by task": the number, from 1, of the first task out of range among the n from index i on; 0 where there is none
unfoldable pub first_out_of_range : List Task → (i n : ℕ) → ℕ
first_out_of_range tasks i zero = 0
first_out_of_range tasks i (suc n) = cond (in_range (get_or tasks i zero_task)) (first_out_of_range tasks (i + 1) n) (i + 1)

-- "m is not 1 to 16", the other way round
unfoldable pub cores_in_range : ℕ → Bool
cores_in_range m = leb 1 m && leb m max_cores

-- "Judging or starting a given table: 3, 6, then 5 task by task, then 7"; "For 3, 4 and 5 the answer carries the value line or task, from 1 (33
-- for number 3)"
unfoldable pub checked : Table → ℕ → Outcome
checked t m =
    let place = first_out_of_range t.tasks 0 t.count in
    cond (ltb max_tasks t.count) (Err (refusal TooManyTasks (max_tasks + 1)))
    (cond (eqb t.count 0) (Err (refusal NoTask 0))
    (cond (not (eqb place 0)) (Err (refusal TaskOutOfRange place)) (cond (not (cores_in_range m)) (Err (refusal CoresOutOfRange 0)) (Ok tt))))
