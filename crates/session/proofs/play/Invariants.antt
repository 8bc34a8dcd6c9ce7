-- The invariant: the lines of the slots from the next on are still to come.
use Rattle.std.proofs.Common.{◌≡◌, ◌+◌, ◌-◌}
use Rattle.text.specs.Output.{put}
use Rattle.session.proofs.Playing.{slots_from}
use Rattle.session.proofs.play.Given as goal

abbrev pub invariant-loop-i : goal.invariant-loop-i
invariant-loop-i l =
    put l.output (slots_from (l.i + 1) l.machine l.cores (l.slots - l.i)) ≡ put l.fn.output (slots_from 1 l.fn.machine l.cores l.slots)
