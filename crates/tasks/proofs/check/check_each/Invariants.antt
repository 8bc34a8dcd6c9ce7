-- The invariant: the tasks from i on settle the answer, whichever list the tasks given are those of.
use Rattle.std.proofs.Common.{ℕ, ◌-◌, ◌<◌, ◌≡◌, List, get_or}
use Rattle.tasks.specs.declared.task.Task.{Task}
use Rattle.tasks.specs.Limits.{max_tasks}
use Rattle.tasks.specs.Table.{zero_task}
use Rattle.tasks.specs.Check.{first_out_of_range}
use Rattle.tasks.proofs.check.check_each.Given as goal

abbrev pub invariant-loop-i : goal.invariant-loop-i
invariant-loop-i g l =
    (tasks : List Task) →
    ((i : ℕ) (task : Task) → i < max_tasks → goal.F-post g l.task_at i task → task ≡ get_or tasks i zero_task) →
    first_out_of_range tasks 0 l.count ≡ first_out_of_range tasks l.i (l.count - l.i)
