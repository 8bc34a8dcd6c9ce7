-- What document 02's change 8 does to a table, one budget or period changed or a task removed, and some of its tasks alone; and that each makes it cheaper. Tasks are
-- named by their index, from 0.
use Rattle.std.specs.Prelude.{ℕ, suc, ◌+◌, ◌≤◌, ◌<◌, ◌≡◌, Bool, true, false, List, [], ◌∷◌, ◌++◌, get_or, set, take, drop, Ok}
use Rattle.tasks.specs.Limits.{max_period, max_cores}
use Rattle.tasks.specs.Table.{zero_task}
use Rattle.tasks.specs.TaskSet.{tasks_of}
use Rattle.tasks.specs.Written.{task, table_of}
use Rattle.tasks.specs.Check.{checked}
use Rattle.tasks.specs.Cheaper.{Cheaper}
use Rattle.tasks.specs.declared.task.Task.{Task}
use Rattle.tasks.specs.declared.table.Table.{Table}

-- the table with this budget, any number, for task i
unfoldable pub with_budget : Table → (i budget : ℕ) → Table
with_budget t i budget =
    let old = get_or t.tasks i zero_task in
    record { count = t.count; tasks = set t.tasks i (task old.period budget old.deadline) }

-- the table with this period, any number, for task i
unfoldable pub with_period : Table → (i period : ℕ) → Table
with_period t i period =
    let old = get_or t.tasks i zero_task in
    record { count = t.count; tasks = set t.tasks i (task period old.budget old.deadline) }

-- the tasks of a table, without the entries past its count
unfoldable pub list_of : Table → List Task
list_of t = take t.count t.tasks

-- the table without task i; those after it move up
unfoldable pub without_task : Table → (i : ℕ) → Table
without_task t i = table_of (take i (list_of t) ++ drop (suc i) (list_of t))

-- the tasks whose flag is true, in their order; one for which there is no flag is not among them
unfoldable pub chosen : (flags : List Bool) → List Task → List Task
chosen [] tasks = []
chosen (flag ∷ flags) [] = []
chosen (true ∷ flags) (one ∷ tasks) = one ∷ chosen flags tasks
chosen (false ∷ flags) (one ∷ tasks) = chosen flags tasks

-- the table of the chosen tasks
unfoldable pub chosen_table : Table → (flags : List Bool) → Table
chosen_table t flags = table_of (chosen flags (list_of t))

-- `holds` is true of what each sentence of change 8 makes of the table t on m cores, and of any choice of its tasks that is not empty
pub record AfterTrims (holds : Table → (m : ℕ) → Type 0) (t : Table) (m : ℕ) : Type 0 where
  -- "with one core more, up to 16"
  pub core_more : m + 1 ≤ max_cores → holds t (m + 1)
  -- "with any budget lowered, not below 1"
  pub budget_lowered : (i budget : ℕ) → i < t.count → 1 ≤ budget → budget ≤ (tasks_of t).budget i → holds (with_budget t i budget) m
  -- "with any period raised, not above the limit"
  pub period_raised : (i period : ℕ) → i < t.count → (tasks_of t).period i ≤ period → period ≤ max_period → holds (with_period t i period) m
  -- "with any task removed while one remains"
  pub task_removed : (i : ℕ) → i < t.count → 2 ≤ t.count → holds (without_task t i) m
  -- any choice that is not empty
  pub some_chosen : (flags : List Bool) → 1 ≤ (chosen_table t flags).count → holds (chosen_table t flags) m

-- of a table that can be judged each of them makes a cheaper one
unfoldable pub TrimsCheaper : Type 0
TrimsCheaper = (t : Table) (m : ℕ) → checked t m ≡ Ok tt → AfterTrims (Cheaper t m) t m
