-- `released` meets its contract: each turn releases a task more.
use Rattle.std.proofs.Common.{add-one}
use Rattle.tasks.specs.Table.{zero_task}
use Rattle.session.proofs.Playing.{released_none, released_more}
use Rattle.session.proofs.released.Goals as goal

pub loop-i-init : goal.loop-i-init
loop-i-init c = released_none _ _

pub loop-i-preserved : goal.loop-i-preserved
unfolding zero_task
loop-i-preserved c = rw (c.release.ensures, add-one c.loop-i.i) (released_more _ _ _ _ c.loop-i.invariant)
