-- A table's numbers in flat lists, as the code of the tests holds them, and the inverse of a period.
use Rattle.std.specs.Prelude.{ℕ, ◌/◌, ◌≤◌, ◌<◌, ◌≡◌, List, get_or}
use Rattle.edzl.specs.TaskSet.{TaskSet}
use Rattle.tasks.specs.declared.task.Task.{Task}
use Rattle.tasks.specs.Limits.{max_period}
use Rattle.tasks.specs.Table.{zero_task}

-- The lists have the numbers of the first n tasks.
pub record SameNumbers (tasks : List Task) (n : ℕ) (periods budgets deadlines : List ℕ) : Type 0 where
  pub same_period : (i : ℕ) → i < n → get_or periods i 0 ≡ (get_or tasks i zero_task).period
  pub same_budget : (i : ℕ) → i < n → get_or budgets i 0 ≡ (get_or tasks i zero_task).budget
  pub same_deadline : (i : ℕ) → i < n → get_or deadlines i 0 ≡ (get_or tasks i zero_task).deadline

-- The first n tasks of three lists.
abbrev pub listed : (periods budgets deadlines : List ℕ) (n : ℕ) → TaskSet
listed periods budgets deadlines n =
    record { count = n; period = λ i. get_or periods i 0; budget = λ i. get_or budgets i 0; deadline = λ i. get_or deadlines i 0 }

-- Each of these tasks is in range.
abbrev pub Ranges : (n : ℕ) (periods budgets deadlines : List ℕ) → Type 0
Ranges n periods budgets deadlines =
    (i : ℕ) → i < n
    → (1 ≤ get_or budgets i 0)
    × (get_or budgets i 0 ≤ get_or deadlines i 0)
    × (get_or deadlines i 0 ≤ get_or periods i 0)
    × (get_or periods i 0 ≤ max_period)

-- The inverse of a period: the largest number of 32 bits divided by it, rounded down.
abbrev pub inverse_of : ℕ → ℕ
inverse_of period = 4_294_967_295 / period
