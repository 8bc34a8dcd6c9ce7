-- The pick of a slot's runners: document 01, "The slot machine", with the slot's own number of cores, k, of document 02, change 1.
use Rattle.std.specs.Prelude.{ℕ, zero, suc, min, Bool, true, false, not, ◌&&◌, List, get_or, set, replicate, Option, Some, None}
use Rattle.laws.specs.Sums.{sum_to, bit}
use Rattle.tasks.specs.Limits.{max_tasks}
use Rattle.job.specs.Precedence.{job_precedes}
use Rattle.job.specs.Search.{Candidates, next_runner}
use Rattle.machine.specs.Machine.{job_at}
use Rattle.machine.specs.declared.machine.Machine.{Machine}

-- "number open"
unfoldable pub open_count : Machine → ℕ
open_count m = sum_to m.table.count (λ i. bit (job_at m i).«open»)

-- "unpicked open tasks": the task at index i is one
unfoldable pub waiting : Machine → (picked : List Bool) → ℕ → Bool
waiting m picked i = (job_at m i).«open» && not (get_or picked i false)

-- the task at index i precedes the task at index j, both open
unfoldable pub precedes : Machine → (i j : ℕ) → Bool
precedes m i j = job_precedes (job_at m i) i (job_at m j) j

-- the tasks of the table, as the search for the next runner goes by them
unfoldable pub candidates : Machine → (picked : List Bool) → Candidates
candidates m picked = record { count = m.table.count; waits = waiting m picked; precedes = precedes m }

-- the picks with that of the task at this index, if there is one
unfoldable pub with_picked : List Bool → Option ℕ → List Bool
with_picked picked None = picked
with_picked picked (Some i) = set picked i true

-- the first n open tasks in precedence, all of them where fewer are open: each pick is the next runner among those not yet picked
unfoldable pub pick : Machine → (n : ℕ) → List Bool
pick m zero = replicate max_tasks false
pick m (suc n) = with_picked (pick m n) (next_runner (candidates m (pick m n)))

-- change 1: "min(k, number open)"
unfoldable pub runner_count : Machine → (k : ℕ) → ℕ
runner_count m k = min k (open_count m)

-- change 1: a slot "picks min(k, number open)", the first open tasks in precedence
unfoldable pub runners : Machine → (k : ℕ) → List Bool
runners m k = pick m (runner_count m k)
