-- Sound jobs as they were before document 02's change 3, for the theorem `release_as_before` (proofs/ReleaseAsBefore.antt).
use Rattle.std.specs.Prelude.{Bool, cond, ◌&&◌, leb}
use Rattle.tasks.specs.declared.task.Task.{Task}
use Rattle.job.specs.declared.job.Job.{Job}
use Rattle.job.specs.Sound.{open_sound, closed_sound}

-- document 01: "a gap is above T, a closed task has left or budget above 0, or an open one has left outside 1 to D or budget outside 1 to C", the
-- other way round
unfoldable pub former_job_sound : Task → Job → Bool
former_job_sound t j = leb j.gap t.period && cond j.«open» (open_sound t j) (closed_sound j)
