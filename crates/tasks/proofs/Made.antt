-- A table's entries made one by one of three lists: `made`, the first i of them, with `none_made`, `one_more` and `all_made`.
use Rattle.std.proofs.Common.{ℕ, ◌+◌, ◌≡◌, refl, sym, List}
use lib.ListN.{set, replicate}
use Rattle.laws.specs.Lists.{replaced}
use Rattle.laws.proofs.Replaced.{replaced_more, replaced_at, length_replaced}
use Rattle.tasks.specs.declared.task.Task.{Task}
use Rattle.tasks.specs.Limits.{max_tasks}
use Rattle.tasks.specs.Table.{zero_task, empty_table}
use Rattle.tasks.specs.Numbers.{tasks_from}
use Rattle.tasks.proofs.Numbers.{entry_at, from_entries}

module _ (periods budgets deadlines : List ℕ) where
  -- the first i entries of the lists, and zeros after them
  abbrev pub made : (i : ℕ) → List Task
  made i = replaced i (entry_at periods budgets deadlines) (replicate max_tasks zero_task)

  pub none_made : empty_table.tasks ≡ made 0
  unfolding empty_table replaced
  none_made = refl

  pub one_more : (tasks : List Task) (i : ℕ) → tasks ≡ made i → set tasks i (entry_at periods budgets deadlines i) ≡ made (i + 1)
  one_more tasks i e = replaced_more _ _ _ e refl

  pub all_made : made max_tasks ≡ tasks_from periods budgets deadlines
  all_made =
      let entry = entry_at periods budgets deadlines in
      let zeros = replicate max_tasks zero_task in
      sym
      (from_entries periods budgets deadlines (made max_tasks) (length_replaced entry zeros max_tasks)
      (λ i h. replaced_at entry zeros zero_task max_tasks i h h))
