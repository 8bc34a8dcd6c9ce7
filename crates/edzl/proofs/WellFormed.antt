-- A task set in which every task is in range, as the theory needs it: the limit on the period plays no part.
use Prim.Native.Nat.{ℕ, ◌≤◌, ◌<◌}
use Rattle.edzl.specs.TaskSet.{TaskSet}

-- "1 ≤ C ≤ D ≤ T", of one task.
pub record TaskFits (period budget deadline : ℕ) : Type 0 where
  pub budget_some : 1 ≤ budget
  pub budget_fits : budget ≤ deadline
  pub deadline_fits : deadline ≤ period

-- The same of every task of the set.
unfoldable pub WellFormed : TaskSet → Type 0
WellFormed tasks =
    (i : ℕ) → i < tasks.count → TaskFits (tasks.period i) (tasks.budget i) (tasks.deadline i)
