-- A table that passes the check has no more tasks than there are recorded cores.
use Rattle.std.proofs.Common.{arith}
use Rattle.std.proofs.lemmas.List.{length-take}
use Rattle.machine.proofs.SoundLaws.{checked_fits}
use Rattle.machine.proofs.machine.Machine.is_sound.Goals as goal

pub slice_bounds-cores_sound-end : goal.slice_bounds-cores_sound-end
slice_bounds-cores_sound-end c = grind (arith, checked_fits, length-take)
