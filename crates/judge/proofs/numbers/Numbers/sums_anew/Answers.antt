-- `sums_anew` meets its contract.
use Rattle.std.proofs.Common.{refl, arith}
use Rattle.laws.specs.Lists.{replaced}
use Rattle.laws.proofs.Replaced.{replaced_more, replaced_at}
use Rattle.judge.proofs.numbers.Numbers.sums_anew.Goals as goal

pub loop-k-init : goal.loop-k-init
unfolding replaced
loop-k-init c = refl

pub loop-k-preserved : goal.loop-k-preserved
loop-k-preserved c = replaced_more _ _ _ c.loop-k.invariant c.sum_of.ensures

pub returns : goal.returns
returns c = λ k h. rw c.loop-k.invariant (replaced_at _ _ 0 c.loop-k.k k (omega arith) (omega arith))
