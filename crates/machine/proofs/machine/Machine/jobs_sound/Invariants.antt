-- The jobs so far are sound.
use Rattle.std.proofs.Common.{◌≡◌, true}
use Rattle.machine.specs.Sound.{jobs_sound}
use Rattle.machine.proofs.machine.Machine.jobs_sound.Given as goal

abbrev pub invariant-loop-i : goal.invariant-loop-i
invariant-loop-i l = jobs_sound l.self l.i ≡ true
