-- Each turn is one of Showing.antt's.
use Rattle.std.proofs.Common.{arith}
use Rattle.tasks.specs.Table.{zero_task}
use Rattle.job.specs.Job.{fresh_job}
use Rattle.machine.specs.Machine.{task_at, job_at, core_at}
use Rattle.probe.proofs.Showing.{show_none, show_more, show_all}
use Rattle.probe.proofs.output.put_entries.Goals as goal

pub loop-i-init : goal.loop-i-init
loop-i-init c = show_none _ _

pub loop-i-preserved : goal.loop-i-preserved
unfolding task_at job_at core_at zero_task fresh_job
loop-i-preserved c = show_more _ _ _ _ c.loop-i.invariant c.loop-i-test.true _ c.put_entry.ensures

pub returns : goal.returns
returns c = show_all _ _ _ _ c.loop-i.invariant (omega arith)
