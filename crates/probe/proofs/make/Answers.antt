-- The line of the answer, and those of the machine after the call.
use Rattle.script.specs.Output.{answer_room}
use Rattle.script.proofs.OutputLaws.{within_then}
use Rattle.script.proofs.FewBytes.{few_bytes}
use Rattle.probe.specs.Output.{machine_room}
use Rattle.probe.specs.Printed.{shown}
use Rattle.probe.proofs.make.Goals as goal

pub returns : goal.returns
unfolding shown
returns c =
    rw (← c.step-answer.ensures)
    (within_then answer_room machine_room _ _ (record { whole = c.put_answer.ensures; few = rw c.step-answer.ensures (few_bytes _ _) }) c.put_machine.ensures)
