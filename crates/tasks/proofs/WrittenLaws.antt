-- The table of a list of tasks, of which there are at most 32: `count_of`, how many it has, and `entry_of`, that they are the list's.
use Prim.Native.Nat.{ℕ, zero, suc, ◌+◌, ◌≤◌, ◌<◌}
use native.Mathlib.Omega.{arith}
use native.Mathlib.Nat.{add-zero, zero-add}
use mathlib.Core.Path.{◌≡◌, refl, ◌∙◌}
use mathlib.Core.List.{List, [], ◌∷◌}
use lib.ListN.{get_or, length, length-set, length-replicate}
use lib.Seq.{get_or-set_same, get_or-set_other}
use Rattle.tasks.specs.Limits.{max_tasks}
use Rattle.tasks.specs.Table.{zero_task, empty_table, with_task}
use Rattle.tasks.specs.Written.{table_with, table_of}
use Rattle.tasks.specs.declared.task.Task.{Task}
use Rattle.tasks.specs.declared.table.Table.{Table}

-- the same of a table with the tasks of a list added at its end
count_with : (tasks : List Task) (t : Table) → (table_with t tasks).count ≡ t.count + length tasks
unfolding table_with with_task
count_with [] t = omega arith
count_with (one ∷ tasks) t = omega (arith, count_with tasks (with_task t one))

-- its old entries stay
old_entry : (tasks : List Task) (t : Table) (i : ℕ) → i < t.count →
    get_or (table_with t tasks).tasks i zero_task ≡ get_or t.tasks i zero_task
unfolding table_with with_task
old_entry [] t i h = refl
old_entry (one ∷ tasks) t i h =
    old_entry tasks (with_task t one) i (omega arith) ∙ get_or-set_other t.tasks t.count i one zero_task (omega arith)

new_entry : (tasks : List Task) (t : Table) (i : ℕ) →
    t.count + length tasks ≤ length t.tasks →
    i < length tasks →
    get_or (table_with t tasks).tasks (t.count + i) zero_task ≡ get_or tasks i zero_task
unfolding table_with with_task
new_entry [] t i fits h = absurd (omega arith)
new_entry (one ∷ tasks) t zero fits h =
    rw (add-zero t.count)
    (old_entry tasks (with_task t one) t.count (omega arith) ∙ get_or-set_same t.tasks t.count one zero_task (omega arith))
new_entry (one ∷ tasks) t (suc i) fits h =
    let e : t.count + suc i ≡ (t.count + 1) + i = omega arith in
    rw e (new_entry tasks (with_task t one) i (rw length-set (omega arith)) (omega arith))

module _ (tasks : List Task) where
  pub count_of : (table_of tasks).count ≡ length tasks
  unfolding table_of empty_table
  count_of = omega (arith, count_with tasks empty_table)

  pub entry_of : length tasks ≤ max_tasks → (i : ℕ) → i < length tasks → get_or (table_of tasks).tasks i zero_task ≡ get_or tasks i zero_task
  unfolding table_of empty_table
  entry_of few i h =
      rw (zero-add i) at (new_entry tasks empty_table i (omega (arith, length-replicate max_tasks zero_task)) h)
