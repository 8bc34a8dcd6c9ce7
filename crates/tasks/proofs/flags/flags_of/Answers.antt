-- `flags_of` meets its contract.
use Rattle.std.proofs.Common.{arith}
use Rattle.tasks.proofs.FlagsLaws.{named_none, named_more, named_all}
use Rattle.tasks.proofs.flags.flags_of.Goals as goal

pub loop-i-init : goal.loop-i-init
loop-i-init c = named_none _

pub loop-i-preserved : goal.loop-i-preserved
loop-i-preserved c = named_more _ _ _ _ c.loop-i.invariant c.loop-i-test.true

pub returns : goal.returns
returns c = named_all _ _ _ _ c.loop-i.invariant (omega (arith, c.loop-i.invariant.within))
