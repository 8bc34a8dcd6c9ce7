use Rattle.std.proofs.Common.{lit≤}
use Rattle.text.proofs.Putting.{new_used, new_room}
use Rattle.script.proofs.OutputLaws.{within_all}
use Rattle.audit.specs.Opening.{opening_line}
use Rattle.audit.proofs.printed_line.Goals as goal

pub returns-in-Ok : goal.returns-in-Ok
unfolding opening_line
returns-in-Ok c =
    let new = c.new-output.ensures in
    rw (c.in-Ok.is, ← c.conclude.ensures) (within_all _ _ (new_used new) c.put_audit.ensures (new_room new (lit≤ tt)))

pub returns-in-Err : goal.returns-in-Err
unfolding opening_line
returns-in-Err c =
    let new = c.new-output.ensures in
    rw c.in-Err.is (within_all _ _ (new_used new) c.put_bad_line.ensures (new_room new (lit≤ tt)))
