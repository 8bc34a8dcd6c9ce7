-- Sound records of cores: document 02, change 4.
use Rattle.std.specs.Prelude.{ℕ, List, [], ◌∷◌, Bool, true, not, ◌&&◌, ◌||◌, eqb, leb}
use Rattle.tasks.specs.Limits.{max_cores}
use Rattle.cores.specs.Assign.{is_among}

-- "a recorded core above 16, or one core recorded twice", the other way round, of the cores recorded for the tasks of a table: 0 is no core
unfoldable pub cores_sound : List ℕ → Bool
cores_sound [] = true
cores_sound (core ∷ assigned) = leb core max_cores && (eqb core 0 || not (is_among assigned core)) && cores_sound assigned
