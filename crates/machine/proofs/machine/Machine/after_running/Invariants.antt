-- The tasks so far have passed the slot.
use Rattle.machine.proofs.SlotTurn.{Turned}
use Rattle.machine.proofs.machine.Machine.after_running.Given as goal

abbrev pub invariant-loop-i : goal.invariant-loop-i
invariant-loop-i l = Turned l.initial.self l.ran l.assigned l.self l.finished l.late l.i
