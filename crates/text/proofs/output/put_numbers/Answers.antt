-- Each turn puts a space and a number; byte 10 is put last.
use Rattle.std.proofs.Common.{arith}
use Rattle.laws.proofs.Parts.{empty}
use Rattle.text.specs.Output.{numbers_line}
use Rattle.text.proofs.Putting.{put_then}
use Rattle.text.proofs.NumbersLine.{next_number, no_number}
use Rattle.text.proofs.output.put_numbers.Goals as goal

pub returns-in_default : goal.returns-in_default
unfolding numbers_line
returns-in_default c = rw (empty c.args.numbers.now (omega (arith, c.in_default.ensures.cases))) c.put.ensures

pub loop-number-init : goal.loop-number-init
loop-number-init c = λ after r rest. rest

pub loop-number-preserved : goal.loop-number-preserved
loop-number-preserved c =
    λ after r rest.
    c.loop-number.invariant after r
    (rw (next_number c.in-Some.others.now c.loop-number.number-index c.loop-number-test.true)
    (put_then c.put-at.ensures (put_then c.put_number-at-in-loop-number.ensures rest)))

pub returns : goal.returns
unfolding numbers_line
returns c =
    let others = c.in-Some.others.now in
    rw c.in-Some.ensures.cases.0
    (put_then c.put_number-at.ensures
    (c.loop-number.invariant _ _ (rw (no_number others c.loop-number.number-index c.loop-number-test.false) c.put-2.ensures)))
