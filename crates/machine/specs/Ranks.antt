-- The ranks of a machine's tasks, for the code's search. Only contracts of private functions cite this file.
use Rattle.std.specs.Prelude.{ℕ, Bool, cond, List, replicate}
use Rattle.tasks.specs.Limits.{max_tasks}
use Rattle.job.specs.Rank.{never, rank}
use Rattle.machine.specs.Machine.{job_at}
use Rattle.machine.specs.Pick.{waiting}
use Rattle.laws.specs.Lists.{replaced}
use Rattle.machine.specs.declared.machine.Machine.{Machine}

-- the rank of the task at an index, where some tasks are picked: its job's while it waits, and else `never`
unfoldable pub rank_at : Machine → (picked : List Bool) → ℕ → ℕ
rank_at m picked i = cond (waiting m picked i) (rank (job_at m i)) never

-- the ranks of the tasks; no task past the count waits
unfoldable pub ranks : Machine → (picked : List Bool) → List ℕ
ranks m picked = replaced m.table.count (rank_at m picked) (replicate max_tasks never)
