-- By whether a line is bad; there is room for what is put.
use Rattle.std.proofs.Common.{lit≤}
use Rattle.text.proofs.Putting.{new_used, new_room}
use Rattle.script.proofs.OutputLaws.{within_all}
use Rattle.probe.specs.Printed.{printed_input}
use Rattle.probe.proofs.probe.Goals as goal

pub returns-in-Ok : goal.returns-in-Ok
unfolding printed_input
returns-in-Ok c = rw c.in-Ok.ensures (within_all _ _ (new_used c.new-output.ensures) c.make.ensures (new_room c.new-output.ensures (lit≤ tt)))

pub returns-in-Err : goal.returns-in-Err
unfolding printed_input
returns-in-Err c = rw c.in-Err.ensures (within_all _ _ (new_used c.new-output.ensures) c.put_bad_line.ensures (new_room c.new-output.ensures (lit≤ tt)))
