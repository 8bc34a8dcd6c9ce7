-- Ranged tables and their corners: document 02, change 9, "a task's budget and period are only known as a least and a most; the deadline is fixed".
use Rattle.std.specs.Prelude.{ℕ, ◌+◌, ◌≤◌, ◌<◌, ◌≡◌, get_or, replicate, set}
use Rattle.laws.specs.Lists.{replaced}
use Rattle.tasks.specs.Limits.{max_tasks}
use Rattle.tasks.specs.Table.{zero_task, empty_table}
use Rattle.tasks.specs.declared.task.Task.{Task}
use Rattle.tasks.specs.declared.table.Table.{Table}
use Rattle.ranges.specs.declared.corner.Corner.{Corner}
use Rattle.ranges.specs.declared.corner.Corner.TheVariants.{Dearest, Cheapest}
use Rattle.ranges.specs.declared.task.Range.{Range}
use Rattle.ranges.specs.declared.task.RangedTask.{RangedTask}
use Rattle.ranges.specs.declared.table.RangedTable.{RangedTable}

-- the ranged task of zeros: the entries that are no part of a table hold it where the library makes the table, and it is what is read past the last entry
unfoldable pub zero_ranged_task : RangedTask
zero_ranged_task = record { period = record { least = 0; most = 0 }; budget = record { least = 0; most = 0 }; deadline = 0 }

-- a ranged table of zero tasks with all its numbers 0
unfoldable pub empty_ranges : RangedTable
empty_ranges = record { count = 0; tasks = replicate max_tasks zero_ranged_task }

-- a ranged table of fewer than 32 tasks with a task more at its end
unfoldable pub with_ranged_task : RangedTable → RangedTask → RangedTable
with_ranged_task r task = record { count = r.count + 1; tasks = set r.tasks r.count task }

-- "the highest budget with the lowest period and .. the lowest with the highest"
unfoldable pub corner_task : Corner → RangedTask → Task
corner_task Dearest r = record { period = r.period.least; budget = r.budget.most; deadline = r.deadline }
corner_task Cheapest r = record { period = r.period.most; budget = r.budget.least; deadline = r.deadline }

-- the table at a corner: each of its 32 entries, those past the count too
unfoldable pub corner_table : Corner → RangedTable → Table
corner_table corner r =
    record { count = r.count; tasks = replaced max_tasks (λ i. corner_task corner (get_or r.tasks i zero_ranged_task)) empty_table.tasks }

-- a number is "within" a range, either end too
pub record Includes (r : Range) (n : ℕ) : Type 0 where
  pub from_least : r.least ≤ n
  pub to_most : n ≤ r.most

-- a task with its period and its budget within: "the deadline is fixed"
pub record TaskWithin (r : RangedTask) (t : Task) : Type 0 where
  pub period_in : Includes r.period t.period
  pub budget_in : Includes r.budget t.budget
  pub same_deadline : t.deadline ≡ r.deadline

-- a "choice in the ranges": a table of as many tasks, each within the ranges of its own
pub record Within (r : RangedTable) (t : Table) : Type 0 where
  pub same_count : t.count ≡ r.count
  pub each : (i : ℕ) → i < r.count → TaskWithin (get_or r.tasks i zero_ranged_task) (get_or t.tasks i zero_task)
