-- The machine: document 01, "The slot machine".
use Rattle.std.specs.Prelude.{ℕ, Bool, ◌&&◌, leb, get_or, set, replicate, Option, None}
use Rattle.tasks.specs.declared.task.Task.{Task}
use Rattle.tasks.specs.Limits.{max_tasks}
use Rattle.tasks.specs.Table.{empty_table, zero_task}
use Rattle.job.specs.declared.job.Job.{Job}
use Rattle.job.specs.Job.{fresh_job}
use Rattle.machine.specs.declared.machine.Machine.{Machine}

-- "a machine of zeros", which holds no task
unfoldable pub zero_machine : Machine
zero_machine = record { table = empty_table; cores = 0; jobs = replicate max_tasks fresh_job; assigned = replicate max_tasks 0; held = None }

-- the task at an index, from 0
unfoldable pub task_at : Machine → ℕ → Task
task_at m i = get_or m.table.tasks i zero_task

-- the job of the task at an index, from 0
unfoldable pub job_at : Machine → ℕ → Job
job_at m i = get_or m.jobs i fresh_job

-- the core recorded for the task at an index, from 0: document 02, change 4; 0 is "no core"
unfoldable pub core_at : Machine → ℕ → ℕ
core_at m i = get_or m.assigned i 0

-- the machine with another job at an index
unfoldable pub with_job : Machine → ℕ → Job → Machine
with_job m i j = record { table = m.table; cores = m.cores; jobs = set m.jobs i j; assigned = m.assigned; held = m.held }

-- the machine that holds this task, or none: document 02, change 10
unfoldable pub holding : Machine → Option Task → Machine
holding m held = record { table = m.table; cores = m.cores; jobs = m.jobs; assigned = m.assigned; held = held }

-- "The task number is not in the table", the other way round
unfoldable pub in_table : Machine → (number : ℕ) → Bool
in_table m number = leb 1 number && leb number m.table.count
