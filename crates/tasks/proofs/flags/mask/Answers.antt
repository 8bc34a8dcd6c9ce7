-- `mask` meets its contract.
use Rattle.std.proofs.Common.{◌≡◌, length, arith, rules}
use Rattle.tasks.proofs.MaskLaws.{masked_none, masked_small, masked_more}
use Rattle.tasks.proofs.flags.mask.Goals as goal

pub loop-i-init : goal.loop-i-init
loop-i-init c =
    let all : length c.args.named ≡ 32 = search rules in
    masked_none _ all

pub overflow_mul-sum : goal.overflow_mul-sum
overflow_mul-sum c = omega (arith, masked_small _ _ _ c.loop-i.invariant)

pub overflow_add-sum : goal.overflow_add-sum
overflow_add-sum c = omega (arith, masked_small _ _ _ (masked_more _ _ _ c.loop-i.invariant c.loop-i-test.true))

pub loop-i-preserved : goal.loop-i-preserved
loop-i-preserved c = masked_more _ _ _ c.loop-i.invariant c.loop-i-test.true

pub returns : goal.returns
returns c =
    let none : c.loop-i.i ≡ 0 = omega arith in
    rw none at c.loop-i.invariant.sum_is
