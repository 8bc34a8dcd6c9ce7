-- Each turn is one of Seen.antt's.
use Rattle.std.proofs.Common.{◌≡◌, sym, arith}
use Rattle.cores.proofs.Seen.{seen_none, seen_0, seen_more, too_large, seen_twice}
use Rattle.cores.proofs.record.cores_sound.Goals as goal

pub loop-n-init : goal.loop-n-init
loop-n-init c = seen_none _

pub returns-then-core-gt-MAX_CORES : goal.returns-then-core-gt-MAX_CORES
returns-then-core-gt-MAX_CORES c = sym (too_large _ _ _ c.loop-n.invariant c.loop-n-test.true c.if-core-gt-MAX_CORES.true)

pub returns-then-seen-core : goal.returns-then-seen-core
returns-then-seen-core c =
    sym (seen_twice _ _ _ c.loop-n.invariant c.loop-n-test.true (omega (arith, c.if-core-gt-MAX_CORES.false)) (omega (arith, c.if-core-ne0.true)) c.if-seen-core.true)

pub loop-n-preserved-then-core-ne0 : goal.loop-n-preserved-then-core-ne0
loop-n-preserved-then-core-ne0 c =
    seen_more _ _ _ c.loop-n.invariant c.loop-n-test.true (omega (arith, c.if-core-gt-MAX_CORES.false)) (omega (arith, c.if-core-ne0.true)) c.if-seen-core.false

pub loop-n-preserved : goal.loop-n-preserved
loop-n-preserved c =
    seen_0 _ _ _ c.loop-n.invariant c.loop-n-test.true (omega (arith, c.if-core-gt-MAX_CORES.false)) (omega (arith, c.if-core-ne0.false))

pub returns : goal.returns
returns c =
    let e : c.loop-n.n ≡ 0 = omega arith in
    sym (rw e at c.loop-n.invariant.rest_sound)
