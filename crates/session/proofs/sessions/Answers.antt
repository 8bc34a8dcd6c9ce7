-- The lines of one case after those of the other, which have room.
use Rattle.std.proofs.Common.{arith}
use Rattle.text.proofs.Putting.{put_append, put_all, new_used, new_room}
use Rattle.session.specs.Printed.{printed}
use Rattle.session.proofs.CaseLinesHold.{printed_few}
use Rattle.session.proofs.sessions.Goals as goal

pub returns : goal.returns
unfolding printed
returns c =
    let new = c.new-output.ensures in
    put_all _ printed (new_used new) (grind (arith, put_append)) (new_room new printed_few)
