-- `RangedTable::at` meets its contract: each call of the closure gives the task at the corner.
use Rattle.std.proofs.Common.{ℕ, ◌<◌, ◌≡◌, List, length, get_or, rules, arith, refl, sym, ◌∙◌}
use lib.ListN.{length-replicate}
use lib.Seq.{ext_get_or}
use Rattle.laws.specs.Lists.{replaced}
use Rattle.laws.proofs.Replaced.{length_replaced, replaced_at}
use Rattle.tasks.specs.declared.task.Task.{Task}
use Rattle.tasks.specs.Limits.{max_tasks}
use Rattle.tasks.specs.Table.{zero_task, empty_table}
use Rattle.ranges.specs.Ranges.{zero_ranged_task, corner_task, corner_table}
use Rattle.ranges.proofs.Mapped.{mapped_at}
use Rattle.ranges.proofs.table.RangedTable.at.Goals as goal

-- a list of 32 tasks, each that of f, is the empty table's list with all its entries replaced
all_replaced : (f : ℕ → Task) (tasks : List Task) → length tasks ≡ max_tasks →
    ((i : ℕ) → i < max_tasks → get_or tasks i zero_task ≡ f i) →
    tasks ≡ replaced max_tasks f empty_table.tasks
unfolding empty_table
all_replaced f tasks long each =
    let whole = length-replicate max_tasks zero_task in
    ext_get_or zero_task tasks (replaced max_tasks f empty_table.tasks)
    (long ∙ sym (length_replaced f empty_table.tasks max_tasks ∙ whole))
    (λ i h. each i (omega arith) ∙ sym (replaced_at f empty_table.tasks zero_task max_tasks i (omega arith) (omega (arith, whole))))

pub returns : goal.returns
unfolding corner_table zero_task zero_ranged_task
returns c =
    let at_corner = corner_task c.args.corner in
    let items = c.map.ensures.items in
    let each : (i : ℕ) → i < max_tasks → get_or c.map.result i zero_task ≡ at_corner (get_or c.args.self.tasks i zero_ranged_task)
    = λ i h.
    mapped_at _ (λ p. p.0.now ≡ c.args.corner) at_corner (λ p q x y keeps called. search rules)
    c.args.self.tasks c.map.result zero_ranged_task zero_task max_tasks 0 _ refl items.each i (omega arith) h in
    rw (← all_replaced (λ i. at_corner (get_or c.args.self.tasks i zero_ranged_task)) c.map.result items.long each)
