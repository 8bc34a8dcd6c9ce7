-- There is room for what is put.
use Rattle.std.proofs.Common.{lit≤}
use Rattle.text.proofs.Putting.{new_used, new_room}
use Rattle.lines.proofs.PrintedFew.{printed_held}
use Rattle.lines.proofs.printed.Goals as goal

pub returns : goal.returns
returns c =
    let new = c.new-output.ensures in
    printed_held _ c.args.test c.args.text.now (new_room new (lit≤ tt)) (new_used new) c.put_printed.ensures
