-- A task and a set of tasks, as plain numbers (document 01, "What belongs to it").
use Rattle.std.specs.Prelude.{ℕ}

-- "A task has three whole numbers: period T (least distance between releases), budget C (most slots that a job runs),
-- deadline D (slots from release)." Each is a function of the task's index, which runs from 0 to below `count`.
pub record TaskSet : Type 0 where
  pub count : ℕ
  pub period : ℕ → ℕ
  pub budget : ℕ → ℕ
  pub deadline : ℕ → ℕ
