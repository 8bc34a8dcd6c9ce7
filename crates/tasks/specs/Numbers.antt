-- A table's numbers in three lists, as arrays of plain numbers hold them, which can be lent where a table would be copied.
use Rattle.std.specs.Prelude.{ℕ, zero, suc, ◌+◌, List, [], ◌∷◌, map, get_or, replicate}
use Rattle.tasks.specs.Limits.{max_tasks}
use Rattle.tasks.specs.declared.task.Task.{Task}
use Rattle.tasks.specs.declared.table.Table.{Table}
use Rattle.tasks.specs.declared.table.TaskNumbers.{TaskNumbers}

-- T of each entry
unfoldable pub periods_of : List Task → List ℕ
periods_of tasks = map (λ (task : Task). task.period) tasks

-- C of each entry
unfoldable pub budgets_of : List Task → List ℕ
budgets_of tasks = map (λ (task : Task). task.budget) tasks

-- D of each entry
unfoldable pub deadlines_of : List Task → List ℕ
deadlines_of tasks = map (λ (task : Task). task.deadline) tasks

-- the n entries from index i on, with T, C and D from three lists
unfoldable pub entries_from : (periods budgets deadlines : List ℕ) (i n : ℕ) → List Task
entries_from periods budgets deadlines i zero = []
entries_from periods budgets deadlines i (suc n) =
    record { period = get_or periods i 0; budget = get_or budgets i 0; deadline = get_or deadlines i 0 } ∷ entries_from periods budgets deadlines (i + 1) n

-- all 32 entries of a table; where a list is shorter its numbers are 0
unfoldable pub tasks_from : (periods budgets deadlines : List ℕ) → List Task
tasks_from periods budgets deadlines = entries_from periods budgets deadlines 0 max_tasks

-- the table of n tasks with these entries
unfoldable pub table_from : (periods budgets deadlines : List ℕ) (n : ℕ) → Table
table_from periods budgets deadlines n = record { count = n; tasks = tasks_from periods budgets deadlines }

-- T, C and D of each entry
abbrev pub numbers_of : List Task → TaskNumbers
numbers_of tasks = record { periods = periods_of tasks; budgets = budgets_of tasks; deadlines = deadlines_of tasks }

-- numbers that are all 0
unfoldable pub zero_numbers : TaskNumbers
zero_numbers = record { periods = replicate max_tasks 0; budgets = replicate max_tasks 0; deadlines = replicate max_tasks 0 }

-- the task at an index; where a list is shorter its numbers are 0
unfoldable pub numbers_at : TaskNumbers → (i : ℕ) → Task
numbers_at numbers i = record { period = get_or numbers.periods i 0; budget = get_or numbers.budgets i 0; deadline = get_or numbers.deadlines i 0 }

-- all 32 entries of a table with these numbers
abbrev pub numbered_tasks : TaskNumbers → List Task
numbered_tasks numbers = tasks_from numbers.periods numbers.budgets numbers.deadlines

-- the table of n tasks with these numbers
abbrev pub numbered_table : TaskNumbers → (n : ℕ) → Table
numbered_table numbers n = table_from numbers.periods numbers.budgets numbers.deadlines n
