-- One task: whether its numbers are within the limits.
use Rattle.std.specs.Prelude.{Bool, ◌&&◌, leb}
use Rattle.tasks.specs.Limits.{max_period}
use Rattle.tasks.specs.declared.task.Task.{Task}

-- "1 ≤ C ≤ D ≤ T ≤ 1,000,000" (document 01, "What belongs to it")
unfoldable pub in_range : Task → Bool
in_range t = leb 1 t.budget && leb t.budget t.deadline && leb t.deadline t.period && leb t.period max_period
