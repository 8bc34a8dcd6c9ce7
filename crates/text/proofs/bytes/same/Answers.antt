-- Texts of other lengths are not the same; each turn moves one byte of the question into the answer so far.
use Rattle.std.proofs.Common.{sym, ◌∙◌, arith}
use mathlib.Core.Bool.{and-true}
use Rattle.text.proofs.WordLaws.{other_length, same_next, all_agree}
use Rattle.text.proofs.bytes.same.Goals as goal

pub returns-then-a-b : goal.returns-then-a-b
returns-then-a-b c = other_length _ _ c.if-a-b.true

pub loop-i-preserved : goal.loop-i-preserved
loop-i-preserved c = c.loop-i.invariant ∙ same_next _ _ _ c.if-a-b.false (omega arith) c.loop-i.equal

pub returns : goal.returns
returns c =
    let a = c.args in
    sym (c.loop-i.invariant ∙ rw (all_agree a.a.now a.b.now c.loop-i.i c.if-a-b.false (omega arith)) (and-true _))
