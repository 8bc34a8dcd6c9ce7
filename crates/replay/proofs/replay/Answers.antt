-- `replay` meets its contract: what is printed has room.
use Rattle.std.proofs.Common.{arith}
use Rattle.text.proofs.Putting.{new_used, new_room}
use Rattle.script.proofs.OutputLaws.{within_all}
use Rattle.replay.proofs.replay.Goals as goal

pub returns : goal.returns
returns c = within_all _ _ (new_used c.requires) c.put_replay.ensures (new_room c.requires (omega arith))
