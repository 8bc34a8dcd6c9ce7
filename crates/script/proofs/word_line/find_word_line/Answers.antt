use Rattle.std.proofs.Common.{sym}
use Rattle.script.proofs.WordLineLaws.{looking_none, looked_all, not_ended_lem, looked_here, looking_more}
use Rattle.script.proofs.word_line.find_word_line.Goals as goal

pub loop-at-init : goal.loop-at-init
loop-at-init c = looking_none _ _

pub returns-then-rest-length : goal.returns-then-rest-length
returns-then-rest-length c = not_ended_lem _ _ _ _ c.loop-at.invariant _ c.find-length.ensures c.if-rest-length.true

pub returns-then-same : goal.returns-then-same
returns-then-same c =
    looked_here _ _ _ _ c.loop-at.invariant _ c.find-length.ensures c.if-rest-length.false (sym c.if-same.ensures)

pub loop-at-preserved : goal.loop-at-preserved
loop-at-preserved c =
    looking_more _ _ _ _ c.loop-at.invariant _ c.find-length.ensures c.if-rest-length.false (sym c.if-same.ensures)

pub returns : goal.returns
returns c = looked_all _ _ _ _ c.loop-at.invariant c.loop-at-test.false
