-- Sound machines: document 01, "Why a call is not carried out", number 0, which document 02, changes 3, 4 and 10, extend.
use Rattle.std.specs.Prelude.{ℕ, zero, suc, Bool, true, ◌&&◌, take}
use Rattle.tasks.specs.Check.{checked}
use Rattle.tasks.specs.Outcome.{is_done}
use Rattle.job.specs.Sound.{job_sound}
use Rattle.cores.specs.Record.{cores_sound}
use Rattle.machine.specs.Machine.{task_at, job_at}
use Rattle.machine.specs.Offer.{held_sound}
use Rattle.machine.specs.declared.machine.Machine.{Machine}

-- the first n jobs are sound
unfoldable pub jobs_sound : Machine → (n : ℕ) → Bool
jobs_sound m zero = true
jobs_sound m (suc n) = jobs_sound m n && job_sound (task_at m n) (job_at m n)

-- "a start would refuse its table or m", the other way round, every job is sound, and so are the cores recorded for the tasks of the table and the
-- held task
unfoldable pub sound : Machine → Bool
sound m =
    is_done (checked m.table m.cores) && jobs_sound m m.table.count && cores_sound (take m.table.count m.assigned)
    && held_sound m.held m.table m.cores
