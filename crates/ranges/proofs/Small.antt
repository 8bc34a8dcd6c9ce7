-- The numbers by which a task is refused are small: `task_below`.
use Prim.Native.Nat.{ℕ}
use native.Mathlib.Omega.{arith}
use mathlib.Core.Bool.{not, ◌&&◌}
use Rattle.tasks.specs.Refusals.{refusal}
use Rattle.tasks.specs.declared.refusals.Reason.TheVariants.{LeastAboveMost, TaskOutOfRange}
use Rattle.tasks.proofs.Small.{Below, below_done, below_test}
use Rattle.ranges.specs.declared.task.RangedTask.{RangedTask}
use Rattle.ranges.specs.Check.{in_order, corners_in_range, task_checked}

pub task_below : (r : RangedTask) (place : ℕ) → Below 16 (task_checked r place)
unfolding task_checked
task_below r place =
    below_test 16 (not (in_order r.period && in_order r.budget)) (refusal LeastAboveMost place) (omega arith)
    (below_test 16 (not (corners_in_range r)) (refusal TaskOutOfRange place) (omega arith) (below_done 16 tt))
