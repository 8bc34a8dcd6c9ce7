-- Each turn makes one entry more; the last makes them all.
use Rattle.std.proofs.Common.{◌≡◌, arith, rules}
use Rattle.tasks.specs.Limits.{max_tasks}
use Rattle.tasks.specs.Numbers.{table_from, numbers_at}
use Rattle.tasks.proofs.Made.{none_made, one_more, all_made}
use Rattle.tasks.proofs.table.TaskNumbers.table.Goals as goal

pub loop-i-init : goal.loop-i-init
loop-i-init c = record { count = search rules; tasks = rw c.empty-table.ensures (none_made _ _ _) }

pub loop-i-preserved : goal.loop-i-preserved
unfolding numbers_at
loop-i-preserved c = record { count = search rules; tasks = rw c.at.ensures (one_more _ _ _ _ _ c.loop-i.invariant.tasks) }

pub returns : goal.returns
unfolding table_from
returns c =
    let a = c.args.self.now in
    let whole : c.loop-i.i ≡ max_tasks = omega arith in
    rw (← c.loop-i.invariant.count, ← all_made a.periods a.budgets a.deadlines, ← whole, ← c.loop-i.invariant.tasks)
