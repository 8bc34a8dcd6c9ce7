-- The first core that is not used, or none is.
use Rattle.std.proofs.Common.{arith, sym}
use Rattle.laws.proofs.CaseSplits.{by_equal}
use Rattle.cores.proofs.UnusedLaws.{first_is_lem, none_unused}
use Rattle.cores.proofs.assign.first_unused.Goals as goal

pub returns-then-not-used-core : goal.returns-then-not-used-core
returns-then-not-used-core c = sym (first_is_lem _ 1 _ _ c.loop-core.invariant (omega arith) (omega arith) c.if-not-used-core.true)

pub loop-core-preserved : goal.loop-core-preserved
loop-core-preserved c =
    λ x some below.
    by_equal x c.loop-core.core
    (λ e. rw e c.if-not-used-core.false)
    (λ ne. c.loop-core.invariant x some (omega arith))

pub returns-else-not-used-core : goal.returns-else-not-used-core
returns-else-not-used-core c =
    sym (none_unused _ 1 _ λ x some below.
    by_equal x c.loop-core.core
    (λ e. rw e c.if-not-used-core.false)
    (λ ne. c.loop-core.invariant x some (omega arith)))

pub returns : goal.returns
returns c = sym (none_unused _ 1 _ (λ x some below. c.loop-core.invariant x some (omega arith)))
