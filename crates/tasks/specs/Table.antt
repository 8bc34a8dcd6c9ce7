-- A table of tasks: the one without tasks, and the one with a task more.
use Rattle.std.specs.Prelude.{◌+◌, replicate, set}
use Rattle.tasks.specs.Limits.{max_tasks}
use Rattle.tasks.specs.declared.task.Task.{Task}
use Rattle.tasks.specs.declared.table.Table.{Table}

-- the task of zeros: the entries that are no part of a table hold it where the library makes the table, and it is what is read past the last entry
unfoldable pub zero_task : Task
zero_task = record { period = 0; budget = 0; deadline = 0 }

-- "a table of zero tasks with all its numbers 0" (document 01, "Why a call is not carried out")
unfoldable pub empty_table : Table
empty_table = record { count = 0; tasks = replicate max_tasks zero_task }

-- a table of fewer than 32 tasks with a task more, "added at the end of the table" (document 01, "The slot machine")
unfoldable pub with_task : Table → Task → Table
with_task t task = record { count = t.count + 1; tasks = set t.tasks t.count task }
