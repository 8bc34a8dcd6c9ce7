-- The invariant: the answers to the rest of the text are still to come, and its first line's number is small enough.
use Rattle.std.proofs.Common.{◌+◌, ◌*◌, ◌≤◌, length}
use Rattle.replay.specs.Script.{call_room}
use Rattle.replay.proofs.Playing.{answered, Playing}
use Rattle.replay.proofs.play.Given as goal

abbrev pub invariant-loop-rest : goal.invariant-loop-rest
invariant-loop-rest l =
    Playing l.initial.output (answered l.initial.machine l.first l.text) l.output l.machine l.line l.rest (call_room * length l.text)
    × (l.line + length l.rest ≤ l.first + length l.text)

abbrev pub decreases-loop-rest : goal.decreases-loop-rest
decreases-loop-rest l = length l.rest
