use Rattle.std.proofs.Common.{arith}
use lib.ListN.{length-set}
use Rattle.script.proofs.ReportNumbers.{list_none, list_runner, list_other, list_all}
use Rattle.script.proofs.output.list_report.Goals as goal
use Rattle.script.proofs.output.list_report.Goals.{then-report-i, else-report-i}

pub loop-i-init : goal.loop-i-init
loop-i-init c = list_none _ _ _ (simp length-set c.told-numbers)

pub loop-i-preserved : goal.loop-i-preserved
loop-i-preserved c =
    elim c.if-report-i.branch [
      | then-report-i w ↦ rw (w.numbers-is, w.n-is) (list_runner _ _ _ _ _ _ c.loop-i.invariant (omega arith) w.if-report-i.true)
      | else-report-i w ↦ rw (w.numbers-is, w.n-is) (list_other _ _ _ _ _ _ c.loop-i.invariant (omega arith) w.if-report-i.false)
    ]

pub returns : goal.returns
returns c = list_all c.args.report _ _ _ _ _ _ _ c.told-numbers c.mask.ensures c.mask-2.ensures c.mask-3.ensures c.loop-i.invariant c.loop-i-test.false
