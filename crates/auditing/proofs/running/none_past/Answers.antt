use Rattle.std.proofs.Common.{◌≡◌, ◌∙◌, ◌+◌, ◌-◌, suc, arith, add-one}
use Rattle.tasks.specs.Limits.{max_tasks}
use Rattle.auditing.specs.Turn.{none_from}
use Rattle.auditing.proofs.running.none_past.Goals as goal

pub loop-i-preserved : goal.loop-i-preserved
unfolding none_from
loop-i-preserved c =
    let more : max_tasks - c.loop-i.i ≡ suc (max_tasks - (c.loop-i.i + 1)) = omega arith in
    c.loop-i.invariant ∙ rw (more, c.if-ran-i.false, add-one c.loop-i.i)
