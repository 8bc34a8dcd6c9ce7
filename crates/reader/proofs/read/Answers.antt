-- The table of the numbers that were read, or the refusal.
use Rattle.std.proofs.Common.{refl}
use Rattle.tasks.specs.Table.{zero_task, empty_table}
use Rattle.tasks.specs.Numbers.{periods_of, budgets_of, deadlines_of, zero_numbers}
use Rattle.reader.specs.Reading.{refused}
use Rattle.reader.proofs.NumbersRead.{table_is, refusal_is}
use Rattle.reader.proofs.read.Goals as goal

pub fill-requires : goal.fill-requires
unfolding zero_numbers empty_table zero_task periods_of budgets_of deadlines_of
fill-requires c = rw c.zero-numbers.ensures (record { zeros = (refl, refl, refl) })

pub returns-in-Ok : goal.returns-in-Ok
returns-in-Ok c = rw c.table.ensures (table_is _ _ _ _ _ c.fill.ensures.text_read _ c.in-Ok.is)

pub returns-in-Err : goal.returns-in-Err
unfolding refused
returns-in-Err c = rw c.empty.ensures (refusal_is _ _ _ c.fill.ensures.text_read _ c.in-Err.is)
