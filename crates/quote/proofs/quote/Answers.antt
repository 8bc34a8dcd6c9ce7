-- By the outcome of reading the text; there is room for what is put.
use Rattle.std.proofs.Common.{lit≤, arith}
use Rattle.text.proofs.Putting.{new_used, new_room}
use Rattle.quote.specs.Printed.{printed_after, printed}
use Rattle.quote.proofs.PrintedFew.{printed_held}
use Rattle.quote.proofs.quote.Goals as goal

pub returns-in-Ok : goal.returns-in-Ok
unfolding printed printed_after
returns-in-Ok c =
    let new = c.new-output.ensures in
    printed_held _ c.args.text.now (new_room new (lit≤ tt)) (new_used new) (rw (← c.read.ensures, c.in-Ok.is) (grind arith))

pub returns-in-Err : goal.returns-in-Err
unfolding printed printed_after
returns-in-Err c =
    let new = c.new-output.ensures in
    printed_held _ c.args.text.now (new_room new (lit≤ tt)) (new_used new) (rw (← c.read.ensures, c.in-Err.is) (grind arith))
