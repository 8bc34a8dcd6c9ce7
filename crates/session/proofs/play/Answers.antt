-- Each turn puts the line of a slot more.
use Rattle.std.proofs.Common.{arith, ◌≡◌, ◌+◌, ◌-◌}
use Rattle.text.proofs.Putting.{put_nothing, put_append}
use Rattle.session.proofs.Playing.{next_slot, no_slot}
use Rattle.session.proofs.play.Goals as goal

pub loop-i-init : goal.loop-i-init
loop-i-init c = let e : c.args.slots - 0 ≡ c.args.slots = omega arith in rw e

pub loop-i-preserved : goal.loop-i-preserved
loop-i-preserved c =
    let next = next_slot (c.loop-i.i + 1) c.loop-i.machine c.args.cores c.args.slots c.loop-i.i c.loop-i-test.true in
    grind (arith, put_append)

pub returns : goal.returns
returns c =
    let none = no_slot (c.loop-i.i + 1) c.loop-i.machine c.args.cores c.args.slots c.loop-i.i c.loop-i-test.false in
    grind (arith, put_nothing)
