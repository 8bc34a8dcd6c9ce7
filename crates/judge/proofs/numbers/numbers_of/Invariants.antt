-- The invariant: the numbers of the tasks before i are filled in.
use Rattle.std.proofs.Common.{◌≡◌, get_or}
use Rattle.laws.specs.Lists.{replaced}
use Rattle.tasks.specs.Table.{zero_task}
use Rattle.judge.proofs.numbers.numbers_of.Given as goal

abbrev pub invariant-loop-i : goal.invariant-loop-i
invariant-loop-i l = record {
  periods : l.numbers.periods ≡ replaced l.i (λ j. (get_or l.table.tasks j zero_task).period) l.initial.numbers.periods;
  budgets : l.numbers.budgets ≡ replaced l.i (λ j. (get_or l.table.tasks j zero_task).budget) l.initial.numbers.budgets;
  deadlines : l.numbers.deadlines ≡ replaced l.i (λ j. (get_or l.table.tasks j zero_task).deadline) l.initial.numbers.deadlines;
}
