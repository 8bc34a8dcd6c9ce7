-- The word, and the numbers of a task.
use Rattle.std.proofs.Common.{rules, arith}
use Rattle.text.proofs.Putting.{put_append}
use Rattle.probe.specs.Output.{held_line}
use Rattle.probe.proofs.Showing.{held_few}
use Rattle.probe.proofs.output.put_held.Goals as goal

pub returns-in-None : goal.returns-in-None
unfolding held_line
returns-in-None c = rw c.in-None.is (record { whole = c.put-in-None.ensures; few = omega arith })

pub returns-in-Some : goal.returns-in-Some
unfolding held_line
returns-in-Some c = rw c.in-Some.is (record { whole = grind (arith, put_append); few = held_few _ (search rules) (search rules) (search rules) })
