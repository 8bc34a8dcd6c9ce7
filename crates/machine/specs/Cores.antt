-- The cores of a slot's runners, and their record: document 02, change 4.
use Rattle.std.specs.Prelude.{ℕ, zero, suc, List, [], ◌∷◌, ◌++◌, get_or, unwrap_or}
use Rattle.laws.specs.Lists.{replaced}
use Rattle.job.specs.Search.{next_runner}
use Rattle.cores.specs.Assign.{assignment}
use Rattle.machine.specs.Pick.{candidates, pick, runner_count}
use Rattle.machine.specs.declared.machine.Machine.{Machine}

-- the indexes of the first n runners in precedence, where so many are open: each is the next runner among the tasks not yet picked
unfoldable pub runner_order : Machine → (n : ℕ) → List ℕ
runner_order m zero = []
runner_order m (suc n) = runner_order m n ++ unwrap_or (next_runner (candidates m (pick m n))) 0 ∷ []

-- the core of each runner of a slot with k cores, and 0 for every other task
unfoldable pub slot_assignment : Machine → (k : ℕ) → List ℕ
slot_assignment m k = assignment m.assigned k (runner_order m (runner_count m k))

-- "The machine shall record the core of each task that ran in the last slot, and 0, no core, for every other": the machine with these cores recorded for
-- the tasks of its table
unfoldable pub with_assigned : Machine → (assigned : List ℕ) → Machine
with_assigned m assigned =
    record {
      table = m.table;
      cores = m.cores;
      jobs = m.jobs;
      assigned = replaced m.table.count (λ i. get_or assigned i 0) m.assigned;
      held = m.held;
    }
