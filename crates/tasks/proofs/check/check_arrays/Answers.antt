-- `check_arrays` meets its contract: the tasks given are those whose numbers are lent.
use Rattle.std.proofs.Common.{◌≡◌, sym, ◌∙◌, rules}
use Rattle.tasks.specs.Numbers.{tasks_from, table_from}
use Rattle.tasks.proofs.Numbers.{entry_at, entry_from}
use Rattle.tasks.proofs.check.check_arrays.Goals as goal

pub returns : goal.returns
unfolding table_from
returns c =
    let a = c.args in
    c.check_tasks.ensures (tasks_from a.periods.now a.budgets.now a.deadlines.now)
    (λ i task inside given.
    let is : task ≡ entry_at a.periods.now a.budgets.now a.deadlines.now i = search rules in
    is ∙ sym (entry_from a.periods.now a.budgets.now a.deadlines.now i inside))
