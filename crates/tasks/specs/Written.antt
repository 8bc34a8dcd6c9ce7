-- Tasks and tables written out, for worked examples, for the cases that the session program plays, and for the tables that some tasks of another make.
use Rattle.std.specs.Prelude.{ℕ, List, [], ◌∷◌}
use Rattle.tasks.specs.declared.task.Task.{Task}
use Rattle.tasks.specs.declared.table.Table.{Table}
use Rattle.tasks.specs.Table.{empty_table, with_task}

-- a task by its three numbers
unfoldable pub task : (period budget deadline : ℕ) → Task
task period budget deadline = record { period = period; budget = budget; deadline = deadline }

-- a table with these tasks added at its end, in order
unfoldable pub table_with : Table → List Task → Table
table_with t [] = t
table_with t (k ∷ tasks) = table_with (with_task t k) tasks

-- the table of these tasks
unfoldable pub table_of : List Task → Table
table_of tasks = table_with empty_table tasks
