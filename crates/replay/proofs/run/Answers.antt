use Rattle.std.proofs.Common.{arith, rules}
use Rattle.script.proofs.OutputLaws.{refused_put}
use Rattle.replay.specs.Script.{printed_after_start, printed_for}
use Rattle.replay.proofs.run.Goals as goal

pub returns-in-Ok : goal.returns-in-Ok
unfolding printed_for printed_after_start
returns-in-Ok c = rw (← c.start.ensures, c.in-Ok.is) c.play.ensures

pub returns-in-Err : goal.returns-in-Err
unfolding printed_for printed_after_start
returns-in-Err c =
    rw (← c.start.ensures, c.in-Err.is, ← c.number.ensures) (refused_put _ (omega arith) _ (search rules) c.put_refused.ensures)
