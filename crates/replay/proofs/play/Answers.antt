use borrow.Author.Tests.{eqb-true, eqb-false}
use Rattle.std.proofs.Common.{arith, sym, ◌+◌}
use Rattle.laws.proofs.Parts.{from_length}
use Rattle.replay.proofs.Playing.{play_none, play_all, not_ended, no_call, play_more}
use Rattle.replay.proofs.play.Goals as goal

pub loop-rest-init : goal.loop-rest-init
loop-rest-init c = (play_none _ _ _ _, omega arith)

pub returns-then-rest-length : goal.returns-then-rest-length
returns-then-rest-length c =
    not_ended _ _ _ _ _ _ _ c.loop-rest.invariant.0 c.put_bad_line.ensures _ c.find-length.ensures (omega (arith, eqb-false _ _ (sym c.loop-rest-test.ensures))) c.if-rest-length.true

pub returns-in_default : goal.returns-in_default
returns-in_default c =
    no_call _ _ _ _ _ _ _ c.loop-rest.invariant.0 c.put_bad_line-in_default.ensures _ c.find-length.ensures c.if-rest-length.false
    (sym c.in_default.ensures)

pub loop-rest-preserved : goal.loop-rest-preserved
loop-rest-preserved c = (
  rw c.step-answer.ensures
      (play_more _ _ _ _ _ _ _ c.loop-rest.invariant.0 _ c.find-length.ensures c.if-rest-length.false _ (sym c.in-Some.ensures) _
      (rw c.step-answer.ensures at c.put_answer.ensures)),
  omega (arith, c.loop-rest.invariant.1, c.if-rest-length.false, from_length c.loop-rest.rest.now (c.find-length.result + 1)),
)

pub returns : goal.returns
returns c = play_all _ _ _ _ _ _ _ c.loop-rest.invariant.0 (omega (arith, eqb-true _ _ (sym c.loop-rest-test.ensures)))
