-- A table's numbers in three lists. Others cite `entry_at`, `entry_from`, an entry; `from_entries`, all of them; `from_lists`, that the lists of entries make these entries; of lists as long
-- as a table (`Long`) `periods_from`, `budgets_from` and `deadlines_from`, that their entries have these numbers, and `set_from`, an entry replaced.
use Prim.Native.Nat.{ℕ, zero, suc, ◌+◌, ◌<◌}
use native.Mathlib.Nat.{add-zero}
use native.Mathlib.Omega.{arith}
use mathlib.Core.Path.{◌≡◌, refl, sym, ap, ◌∙◌}
use mathlib.Core.List.{List}
use lib.ListN.{length, get_or, set, length-map, length-set, get_or-map}
use lib.Seq.{get_or-set_same, get_or-set_other, ext_get_or}
use Rattle.laws.proofs.CaseSplits.{by_equal}
use Rattle.tasks.specs.Limits.{max_tasks}
use Rattle.tasks.specs.declared.task.Task.{Task}
use Rattle.tasks.specs.Table.{zero_task}
use Rattle.tasks.specs.Numbers.{periods_of, budgets_of, deadlines_of, entries_from, tasks_from}

-- the task at an index of three lists
abbrev pub entry_at : (periods budgets deadlines : List ℕ) → ℕ → Task
entry_at periods budgets deadlines i = record { period = get_or periods i 0; budget = get_or budgets i 0; deadline = get_or deadlines i 0 }

-- three lists as long as a table
pub record Long (periods budgets deadlines : List ℕ) : Type 0 where
  pub periods_long : length periods ≡ max_tasks
  pub budgets_long : length budgets ≡ max_tasks
  pub deadlines_long : length deadlines ≡ max_tasks

module _ (periods budgets deadlines : List ℕ) where
  from_index : (n i j : ℕ) → j < n → get_or (entries_from periods budgets deadlines i n) j zero_task ≡ entry_at periods budgets deadlines (i + j)
  unfolding entries_from
  from_index zero i j h = absurd (omega arith)
  from_index (suc n) i zero h = rw (add-zero i)
  from_index (suc n) i (suc j) h = let e : i + 1 + j ≡ i + suc j = omega arith in from_index n (i + 1) j (omega arith) ∙ rw e

  pub entry_from : (i : ℕ) → i < max_tasks → get_or (tasks_from periods budgets deadlines) i zero_task ≡ entry_at periods budgets deadlines i
  unfolding tasks_from
  entry_from i h = let e : 0 + i ≡ i = omega arith in from_index max_tasks 0 i h ∙ rw e

  length_entries : (n i : ℕ) → length (entries_from periods budgets deadlines i n) ≡ n
  unfolding entries_from
  length_entries zero i = refl
  length_entries (suc n) i = ap suc (length_entries n (i + 1))

  length_from : length (tasks_from periods budgets deadlines) ≡ max_tasks
  unfolding tasks_from
  length_from = length_entries max_tasks 0

  -- Entries with these numbers at every index are those of the lists.
  pub from_entries : (tasks : List Task) → length tasks ≡ max_tasks →
      ((i : ℕ) → i < max_tasks → get_or tasks i zero_task ≡ entry_at periods budgets deadlines i) →
      tasks_from periods budgets deadlines ≡ tasks
  from_entries tasks long same =
      ext_get_or zero_task (tasks_from periods budgets deadlines) tasks (length_from ∙ sym long)
      (λ i inside. let h : i < max_tasks = omega (arith, length_from) in entry_from i h ∙ sym (same i h))

  -- The numbers of one column.
  column :
      (f : Task → ℕ) (numbers : List ℕ) → f zero_task ≡ 0 → length numbers ≡ max_tasks
      → ((i : ℕ) → f (entry_at periods budgets deadlines i) ≡ get_or numbers i 0)
      → (l : List ℕ) → length l ≡ max_tasks → ((i : ℕ) → get_or l i (f zero_task) ≡ f (get_or (tasks_from periods budgets deadlines) i zero_task))
      → l ≡ numbers
  column f numbers none long same l l-long at =
      ext_get_or 0 l numbers (l-long ∙ sym long)
      (λ i inside.
      let h : i < max_tasks = omega (arith, l-long) in
      let at_i : get_or l i 0 ≡ f (get_or (tasks_from periods budgets deadlines) i zero_task) = rw none at (at i) in
      at_i ∙ ap f (entry_from i h) ∙ same i)

  module _ (long : Long periods budgets deadlines) where
    pub periods_from : periods_of (tasks_from periods budgets deadlines) ≡ periods
    unfolding periods_of zero_task
    periods_from =
        column (λ (t : Task). t.period) periods refl long.periods_long (λ i. refl) (periods_of (tasks_from periods budgets deadlines))
        (length-map (tasks_from periods budgets deadlines) (λ (t : Task). t.period) ∙ length_from)
        (λ i. get_or-map (λ (t : Task). t.period) (tasks_from periods budgets deadlines) i zero_task)

    pub budgets_from : budgets_of (tasks_from periods budgets deadlines) ≡ budgets
    unfolding budgets_of zero_task
    budgets_from =
        column (λ (t : Task). t.budget) budgets refl long.budgets_long (λ i. refl) (budgets_of (tasks_from periods budgets deadlines))
        (length-map (tasks_from periods budgets deadlines) (λ (t : Task). t.budget) ∙ length_from)
        (λ i. get_or-map (λ (t : Task). t.budget) (tasks_from periods budgets deadlines) i zero_task)

    pub deadlines_from : deadlines_of (tasks_from periods budgets deadlines) ≡ deadlines
    unfolding deadlines_of zero_task
    deadlines_from =
        column (λ (t : Task). t.deadline) deadlines refl long.deadlines_long (λ i. refl) (deadlines_of (tasks_from periods budgets deadlines))
        (length-map (tasks_from periods budgets deadlines) (λ (t : Task). t.deadline) ∙ length_from)
        (λ i. get_or-map (λ (t : Task). t.deadline) (tasks_from periods budgets deadlines) i zero_task)

pub from_lists : (tasks : List Task) → length tasks ≡ max_tasks → tasks_from (periods_of tasks) (budgets_of tasks) (deadlines_of tasks) ≡ tasks
unfolding periods_of budgets_of deadlines_of zero_task
from_lists tasks long =
    from_entries (periods_of tasks) (budgets_of tasks) (deadlines_of tasks) tasks long
    (λ i h.
    rw (
      get_or-map (λ (t : Task). t.period) tasks i zero_task,
      get_or-map (λ (t : Task). t.budget) tasks i zero_task,
      get_or-map (λ (t : Task). t.deadline) tasks i zero_task,
    ))

pub set_from :
    (periods budgets deadlines : List ℕ)
    → Long periods budgets deadlines
    → (k : ℕ) (task : Task)
    → k < max_tasks
    → set (tasks_from periods budgets deadlines) k task
    ≡ tasks_from (set periods k task.period) (set budgets k task.budget) (set deadlines k task.deadline)
set_from periods budgets deadlines long k task h =
    sym
    (from_entries (set periods k task.period) (set budgets k task.budget) (set deadlines k task.deadline) (set (tasks_from periods budgets deadlines) k task)
    (length-set (tasks_from periods budgets deadlines) k task ∙ length_from periods budgets deadlines)
    (λ i l.
    by_equal i k
    (λ e.
    rw (
      e,
      get_or-set_same (tasks_from periods budgets deadlines) k task zero_task (omega (arith, length_from periods budgets deadlines)),
      get_or-set_same periods k task.period 0 (omega (arith, long.periods_long)),
      get_or-set_same budgets k task.budget 0 (omega (arith, long.budgets_long)),
      get_or-set_same deadlines k task.deadline 0 (omega (arith, long.deadlines_long)),
    ))
    (λ ne.
    rw (
      get_or-set_other (tasks_from periods budgets deadlines) k i task zero_task ne,
      get_or-set_other periods k i task.period 0 ne,
      get_or-set_other budgets k i task.budget 0 ne,
      get_or-set_other deadlines k i task.deadline 0 ne,
    )
    (entry_from periods budgets deadlines i l))))
