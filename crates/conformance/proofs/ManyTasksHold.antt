-- The session of 32 tasks on 16 cores is as `many_tasks` says.
use mathlib.Core.Path.{◌≡◌, refl}
use mathlib.Core.Bool.{true}
use Rattle.conformance.specs.CallExamples.{many}
use Rattle.conformance.specs.ManyTasks.{many_is, many_tasks}
use Rattle.conformance.proofs.Computing.{computing_runs}

pub many_tasks_hold : many_tasks ≡ true
unfolding computing_runs many many_is many_tasks
many_tasks_hold = refl
