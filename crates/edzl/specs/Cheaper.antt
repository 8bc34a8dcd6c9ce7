-- When a set of tasks is cheaper than another: document 02, change 8.
use Rattle.std.specs.Prelude.{ℕ, ◌≤◌, ◌<◌, ◌≡◌}
use Rattle.edzl.specs.TaskSet.{TaskSet}

-- One task of the cheaper set against the one that it was: "with any budget lowered", "with any period raised". "Deadlines are not included".
pub record CheaperTask (dearer : TaskSet) (k : ℕ) (cheaper : TaskSet) (i : ℕ) : Type 0 where
  pub same_deadline : cheaper.deadline i ≡ dearer.deadline k
  pub budget_no_larger : cheaper.budget i ≤ dearer.budget k
  pub period_no_smaller : dearer.period k ≤ cheaper.period i

-- The same tasks or fewer, "with any task removed", in their order, each no dearer than it was.
pub record CheaperTasks (dearer cheaper : TaskSet) : Type 0 where
  -- which task of the dearer set each task of the cheaper one was
  pub was : ℕ → ℕ
  pub was_there : (i : ℕ) → i < cheaper.count → was i < dearer.count
  pub in_order : (i j : ℕ) → i < j → j < cheaper.count → was i < was j
  pub each : (i : ℕ) → i < cheaper.count → CheaperTask dearer (was i) cheaper i
