-- Each turn is one of Keeping.antt's.
use Rattle.std.proofs.Common.{arith}
use Rattle.cores.proofs.Keeping.{keeping_none, keeping_more, keeping_large, keeping_far}
use Rattle.cores.proofs.assign.keep.Goals as goal

pub loop-n-init : goal.loop-n-init
loop-n-init c = rw (c.requires.no_cores, c.requires.no_flags) (keeping_none _ _ _)

pub loop-n-preserved-then-core-lt-USED_FLAGS : goal.loop-n-preserved-then-core-lt-USED_FLAGS
loop-n-preserved-then-core-lt-USED_FLAGS c =
    rw c.kept_core-core.ensures
    (keeping_more _ _ _ _ _ _ c.loop-n.invariant c.loop-n-test.true c.if-i-lt-MAX_TASKS.true (omega (arith, c.if-core-lt-USED_FLAGS.true, c.kept_core-core.ensures)))

pub loop-n-preserved-else-core-lt-USED_FLAGS : goal.loop-n-preserved-else-core-lt-USED_FLAGS
loop-n-preserved-else-core-lt-USED_FLAGS c =
    rw c.kept_core-core.ensures
    (keeping_large _ _ _ _ _ _ c.loop-n.invariant c.loop-n-test.true c.if-i-lt-MAX_TASKS.true (omega (arith, c.if-core-lt-USED_FLAGS.false, c.kept_core-core.ensures)))

pub loop-n-preserved : goal.loop-n-preserved
loop-n-preserved c = keeping_far _ _ _ _ _ _ c.loop-n.invariant c.loop-n-test.true (omega (arith, c.if-i-lt-MAX_TASKS.false))
