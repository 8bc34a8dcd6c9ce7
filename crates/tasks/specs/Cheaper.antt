-- When a table on some cores is cheaper than another: document 02, change 8, "Cheaper tables stay sold".
use Rattle.std.specs.Prelude.{ℕ, ◌≤◌, ◌<◌}
use Rattle.edzl.specs.Cheaper.{CheaperTasks}
use Rattle.tasks.specs.Limits.{max_period, max_cores}
use Rattle.tasks.specs.TaskSet.{tasks_of}
use Rattle.tasks.specs.declared.table.Table.{Table}

-- the table t' on m' cores is cheaper than the table t on m cores, or costs the same
pub record Cheaper (t : Table) (m : ℕ) (t' : Table) (m' : ℕ) : Type 0 where
  -- the same tasks or fewer, in their order, each with the same deadline, a budget no larger and a period no smaller
  pub tasks : CheaperTasks (tasks_of t) (tasks_of t')
  -- a budget is lowered "not below 1"
  pub budget_some : (i : ℕ) → i < t'.count → 1 ≤ (tasks_of t').budget i
  -- a period is raised "not above the limit"
  pub period_fits : (i : ℕ) → i < t'.count → (tasks_of t').period i ≤ max_period
  -- a task is removed "while one remains"
  pub one_remains : 1 ≤ t'.count
  -- as many cores or more, "up to 16"
  pub cores_no_fewer : m ≤ m'
  pub cores_fit : m' ≤ max_cores
