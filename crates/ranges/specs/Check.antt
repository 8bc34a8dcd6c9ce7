-- Whether ranges can be quoted: document 02, change 9, and document 01, "Why a call is not carried out".
use Rattle.std.specs.Prelude.{ℕ, zero, suc, ◌+◌, Bool, cond, not, ◌&&◌, List, Ok, Err, eqb, leb, ltb, get_or}
use Rattle.tasks.specs.Limits.{max_tasks}
use Rattle.tasks.specs.Refusals.{refusal}
use Rattle.tasks.specs.Task.{in_range}
use Rattle.tasks.specs.Check.{cores_in_range}
use Rattle.tasks.specs.Outcome.{Outcome, first_refusal}
use Rattle.tasks.specs.declared.refusals.Reason.TheVariants.{TooManyTasks, NoTask, TaskOutOfRange, CoresOutOfRange, LeastAboveMost}
use Rattle.ranges.specs.declared.corner.Corner.TheVariants.{Dearest, Cheapest}
use Rattle.ranges.specs.declared.task.Range.{Range}
use Rattle.ranges.specs.declared.task.RangedTask.{RangedTask}
use Rattle.ranges.specs.declared.table.RangedTable.{RangedTable}
use Rattle.ranges.specs.Ranges.{zero_ranged_task, corner_task}

-- "A least above its most", the other way round
unfoldable pub in_order : Range → Bool
in_order r = leb r.least r.most

-- "number 5 is tried for the highest budget with the lowest period and for the lowest with the highest"
unfoldable pub corners_in_range : RangedTask → Bool
corners_in_range r = in_range (corner_task Dearest r) && in_range (corner_task Cheapest r)

-- "number 16, tried for each task just before its 5 and carrying the task", for a least of the period or of the budget
unfoldable pub task_checked : RangedTask → (place : ℕ) → Outcome
task_checked r place =
    cond (not (in_order r.period && in_order r.budget)) (Err (refusal LeastAboveMost place))
    (cond (not (corners_in_range r)) (Err (refusal TaskOutOfRange place)) (Ok tt))

-- "task by task": the refusal of the first task that is refused, among the n from index i on
unfoldable pub tasks_checked : List RangedTask → (i n : ℕ) → Outcome
tasks_checked tasks i zero = Ok tt
tasks_checked tasks i (suc n) = first_refusal (task_checked (get_or tasks i zero_ranged_task) (i + 1)) (tasks_checked tasks (i + 1) n)

-- "m is not 1 to 16"
unfoldable pub cores_checked : (m : ℕ) → Outcome
cores_checked m = cond (cores_in_range m) (Ok tt) (Err (refusal CoresOutOfRange 0))

-- as in document 01, "Judging or starting a given table: 3, 6, then 5 task by task, then 7", where 16 is tried "for each task just before its 5"; "33 for
-- number 3"
unfoldable pub ranges_checked : RangedTable → (m : ℕ) → Outcome
ranges_checked r m =
    cond (ltb max_tasks r.count) (Err (refusal TooManyTasks (max_tasks + 1)))
    (cond (eqb r.count 0) (Err (refusal NoTask 0)) (first_refusal (tasks_checked r.tasks 0 r.count) (cores_checked m)))
