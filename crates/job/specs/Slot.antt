-- What a slot does to one job, in its steps 2 to 4: document 01, "The slot machine".
use Rattle.std.specs.Prelude.{◌-◌, Bool, cond, not, ◌&&◌, ◌||◌, eqb}
use Rattle.laws.specs.Sums.{bit}
use Rattle.job.specs.Job.{closed_job}
use Rattle.job.specs.declared.job.Job.{Job}

-- "(2) Each picked task's budget falls by 1."
unfoldable pub charged : (ran : Bool) → Job → Job
charged ran j = record { «open» = j.«open»; left = j.left; budget = j.budget - bit ran; gap = j.gap }

-- "(3) Every open task's left, and every gap above 0, falls by 1."
unfoldable pub aged : Job → Job
aged j =
    record { «open» = j.«open»; left = cond j.«open» (j.left - 1) j.left; budget = j.budget; gap = j.gap - 1 }

-- "(4) An open task with budget 0 closes and is reported finished"
unfoldable pub is_finished : Job → Bool
is_finished j = j.«open» && eqb j.budget 0

-- "any other with left 0 closes and is reported late"
unfoldable pub is_late : Job → Bool
is_late j = j.«open» && not (eqb j.budget 0) && eqb j.left 0

-- a job after step 4: closed where it is finished or late
unfoldable pub settled : Job → Job
settled j = cond (is_finished j || is_late j) (closed_job j) j
