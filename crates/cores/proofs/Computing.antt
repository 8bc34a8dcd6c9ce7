-- What a computed test looks through of this crate, in one name.
use mathlib.Core.Bool.{Bool, true}
use Rattle.cores.specs.Assign.{kept_core, kept, is_among, first_unused, taken, assignment}
use Rattle.cores.specs.Record.{cores_sound}

unfoldable pub computing_cores : Bool
unfolding kept_core kept is_among first_unused taken assignment cores_sound
computing_cores = true
