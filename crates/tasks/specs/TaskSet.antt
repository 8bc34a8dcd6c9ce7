-- A table's tasks as plain numbers, which the admission tests are about.
use Rattle.std.specs.Prelude.{ℕ, List, get_or}
use Rattle.edzl.specs.TaskSet.{TaskSet}
use Rattle.tasks.specs.declared.task.Task.{Task}
use Rattle.tasks.specs.declared.table.Table.{Table}
use Rattle.tasks.specs.Table.{zero_task}

-- the first n of these entries, as the numbers of n tasks
unfoldable pub first_tasks : List Task → ℕ → TaskSet
first_tasks tasks n =
    record {
      count = n;
      period = λ i. (get_or tasks i zero_task).period;
      budget = λ i. (get_or tasks i zero_task).budget;
      deadline = λ i. (get_or tasks i zero_task).deadline;
    }

-- the tasks of a table
unfoldable pub tasks_of : Table → TaskSet
tasks_of t = first_tasks t.tasks t.count
