-- What a computed test looks through of tables, in one name: a proof `unfolding computing_tables` computes tables written out, and whether they can be judged.
use mathlib.Core.Bool.{Bool, true}
use Rattle.tasks.specs.Task.{in_range}
use Rattle.tasks.specs.Table.{zero_task, empty_table, with_task}
use Rattle.tasks.specs.Written.{task, table_with, table_of}
use Rattle.tasks.specs.Check.{first_out_of_range, cores_in_range, checked}
use Rattle.tasks.specs.Outcome.{is_done}
use Rattle.tasks.specs.TaskSet.{first_tasks, tasks_of}

unfoldable pub computing_tables : Bool
unfolding in_range zero_task empty_table with_task task table_with table_of first_out_of_range cores_in_range checked is_done first_tasks tasks_of
computing_tables = true
