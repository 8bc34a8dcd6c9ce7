-- Steps 2 to 4 of a slot, by who ran in it: document 01, "The slot machine". `ran` has a flag for each task.
use Rattle.std.specs.Prelude.{ℕ, Bool, false, List, get_or, replicate}
use Rattle.laws.specs.Lists.{replaced}
use Rattle.laws.specs.Sums.{sum_to, bit}
use Rattle.tasks.specs.Limits.{max_tasks}
use Rattle.job.specs.declared.job.Job.{Job}
use Rattle.job.specs.Slot.{charged, aged, is_finished, is_late, settled}
use Rattle.machine.specs.Machine.{job_at}
use Rattle.machine.specs.declared.machine.Machine.{Machine}
use Rattle.machine.specs.declared.answer.Report.{Report}

-- the job of the task at an index after steps 2 and 3
unfoldable pub passed : Machine → (ran : List Bool) → ℕ → Job
passed m ran i = aged (charged (get_or ran i false) (job_at m i))

-- "the number that ran"
unfoldable pub ran_count : Machine → (ran : List Bool) → ℕ
ran_count m ran = sum_to m.table.count (λ i. bit (get_or ran i false))

-- "a refused slot names no task and gives 0 runners", and no core; every call that is no slot reports the same
unfoldable pub no_report : Report
no_report =
    record {
      ran = replicate max_tasks false;
      finished = replicate max_tasks false;
      late = replicate max_tasks false;
      runners = 0;
      assigned = replicate max_tasks 0;
    }

-- "The answer tells for each task whether it ran, finished, was late, and gives the number that ran."; document 02, change 4: "The slot answer gains the
-- core of each runner."
unfoldable pub slot_report : Machine → (ran : List Bool) → (assigned : List ℕ) → Report
slot_report m ran assigned =
    record {
      ran = ran;
      finished = replaced m.table.count (λ i. is_finished (passed m ran i)) (replicate max_tasks false);
      late = replaced m.table.count (λ i. is_late (passed m ran i)) (replicate max_tasks false);
      runners = ran_count m ran;
      assigned = assigned;
    }

-- the machine after steps 2 to 4
unfoldable pub after_slot : Machine → (ran : List Bool) → Machine
after_slot m ran =
    record {
      table = m.table;
      cores = m.cores;
      jobs = replaced m.table.count (λ i. settled (passed m ran i)) m.jobs;
      assigned = m.assigned;
      held = m.held;
    }
