-- Which of two open jobs beats the other, as one number for each, what a table's tasks show by these, and whether a flag stands past the table, for the code. Only contracts of private functions cite this file.
use Rattle.std.specs.Prelude.{ℕ, zero, suc, ◌+◌, ◌-◌, min, max, Bool, true, false, cond, not, ◌&&◌, List, get_or, eqb, leb}
use Rattle.laws.specs.Sums.{sum_to, bit}
use Rattle.tasks.specs.Limits.{max_tasks}
use Rattle.job.specs.declared.job.Job.{Job}
use Rattle.job.specs.Job.{is_urgent}
use Rattle.machine.specs.Machine.{job_at}
use Rattle.machine.specs.declared.machine.Machine.{Machine}
use Rattle.auditing.specs.declared.running.Turns.{Turns}

-- what a job that is not urgent has more: 2^32, more than any left of 32 bits
abbrev pub later : ℕ
later = 4_294_967_296

-- the turn of a closed job: 2^33, more than that of any open one of 32 bits
abbrev pub never : ℕ
never = 8_589_934_592

-- the turn of a job: the smaller goes first
unfoldable pub turn : Job → ℕ
turn j = cond j.«open» (cond (is_urgent j) j.left (later + j.left)) never

-- the last turn of a runner among the first n tasks, 0 where none ran, and the first turn of a task that did not, `never` where all did
unfoldable pub last_to : Machine → (ran : List Bool) → (n : ℕ) → ℕ
last_to m ran zero = 0
last_to m ran (suc n) = cond (get_or ran n false) (max (last_to m ran n) (turn (job_at m n))) (last_to m ran n)

unfoldable pub first_to : Machine → (ran : List Bool) → (n : ℕ) → ℕ
first_to m ran zero = never
first_to m ran (suc n) = cond (get_or ran n false) (first_to m ran n) (min (first_to m ran n) (turn (job_at m n)))

-- what the first n tasks show
unfoldable pub turns_to : Machine → (ran : List Bool) → (n : ℕ) → Turns
turns_to m ran n =
    record {
      open_tasks = sum_to n (λ i. bit (job_at m i).«open»);
      runners = sum_to n (λ i. bit (get_or ran i false));
      last = last_to m ran n;
      first = first_to m ran n;
    }

-- as many ran as there are cores or open tasks, no closed one, and none after the first turn of an idle task
unfoldable pub in_order : Turns → (cores : ℕ) → Bool
in_order t cores = eqb t.runners (min cores t.open_tasks) && not (eqb t.last never) && leb t.last t.first

-- none of the n flags from index i on is set
unfoldable pub none_from : (ran : List Bool) → (i n : ℕ) → Bool
none_from ran i zero = true
none_from ran i (suc n) = not (get_or ran i false) && none_from ran (suc i) n

-- no flag of a task is set from the count on
unfoldable pub none_past : (ran : List Bool) → (count : ℕ) → Bool
none_past ran count = none_from ran count (max_tasks - count)
