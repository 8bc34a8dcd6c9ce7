-- `check` meets its contract: the tasks given are those of the table.
use Rattle.std.proofs.Common.{rules}
use Rattle.tasks.specs.Table.{zero_task}
use Rattle.tasks.proofs.check.check.Goals as goal

pub returns : goal.returns
unfolding zero_task
returns c = c.check_tasks.ensures c.args.table.tasks (λ i task inside given. search rules)
