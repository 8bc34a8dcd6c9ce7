-- Sound jobs: document 01, "Why a call is not carried out", number 0, which document 02, change 3, extends.
use Rattle.std.specs.Prelude.{Bool, cond, ◌&&◌, eqb, leb}
use Rattle.tasks.specs.declared.task.Task.{Task}
use Rattle.job.specs.declared.job.Job.{Job}

-- "an open one has left outside 1 to D or budget outside 1 to C", the other way round
unfoldable pub open_sound : Task → Job → Bool
open_sound t j =
    leb 1 j.left && leb j.left t.deadline && leb 1 j.budget && leb j.budget t.budget

-- "a closed task has left or budget above 0", the other way round
unfoldable pub closed_sound : Job → Bool
closed_sound j = eqb j.left 0 && eqb j.budget 0

-- change 3: "an open task whose gap is below its left", the other way round
unfoldable pub gap_covers_left : Job → Bool
gap_covers_left j = leb j.left j.gap

-- "a gap is above T", the other way round, and the rules for an open and for a closed job
unfoldable pub job_sound : Task → Job → Bool
job_sound t j = leb j.gap t.period && cond j.«open» (gap_covers_left j && open_sound t j) (closed_sound j)
