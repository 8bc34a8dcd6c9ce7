-- What an accepted check says of a table's tasks as plain numbers: `well_checked`.
use Prim.Native.Nat.{ℕ}
use mathlib.Core.Path.{◌≡◌}
use mathlib.Core.Bool.{true}
use lib.ListN.{get_or}
use Rattle.edzl.proofs.WellFormed.{TaskFits, WellFormed}
use Rattle.tasks.specs.declared.task.Task.{Task}
use Rattle.tasks.specs.declared.table.Table.{Table}
use Rattle.std.proofs.Common.{Ok}
use Rattle.tasks.specs.Task.{in_range}
use Rattle.tasks.specs.Table.{zero_task}
use Rattle.tasks.specs.Check.{checked}
use Rattle.tasks.specs.TaskSet.{first_tasks, tasks_of}
use Rattle.tasks.proofs.Checked.{passes}
use Rattle.tasks.proofs.Range.{range_of}

task_fits : (t : Task) → in_range t ≡ true → TaskFits t.period t.budget t.deadline
task_fits t h =
    let r = range_of t h in
    record { budget_some = r.budget_some; budget_fits = r.budget_fits; deadline_fits = r.deadline_fits }

pub well_checked : (t : Table) (m : ℕ) → checked t m ≡ Ok tt → WellFormed (tasks_of t)
unfolding WellFormed tasks_of first_tasks
well_checked t m e i h = task_fits (get_or t.tasks i zero_task) ((passes t m e).tasks_fit i h)
