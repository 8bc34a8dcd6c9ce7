-- A byte more is put in each turn; where there is no room, nothing of the rest changes the array.
use Rattle.std.proofs.Common.{arith, drop}
use lib.ListN.{take-append-drop, length-drop}
use Rattle.std.proofs.lemmas.List.{take_more}
use Rattle.text.proofs.Putting.{put_none, put_byte, put_over, put_full}
use Rattle.text.proofs.output.put.Goals as goal

pub loop-byte-init : goal.loop-byte-init
loop-byte-init c = put_none _ _

pub returns-then-output-at : goal.returns-then-output-at
returns-then-output-at c =
    let s = c.args.text.now in
    let i = c.loop-byte.byte-index in
    let whole = put_full c.loop-byte.invariant (drop i s) c.if-output-at.true in
    rw (take-append-drop i s) at whole

pub returns-then-output-at-2 : goal.returns-then-output-at-2
returns-then-output-at-2 c =
    let s = c.args.text.now in
    let i = c.loop-byte.byte-index in
    let whole = put_over c.loop-byte.invariant (drop i s) (omega (arith, length-drop i s)) c.if-output-at-2.true in
    rw (take-append-drop i s) at whole

pub loop-byte-preserved : goal.loop-byte-preserved
loop-byte-preserved c =
    rw (take_more c.args.text.now c.loop-byte.byte-index 0 c.loop-byte-test.true) (put_byte c.loop-byte.invariant _ (omega arith))
