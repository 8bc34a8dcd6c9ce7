-- What a computed test looks through of a job's definitions, in one name: a proof `unfolding computing_jobs` computes jobs and searches.
use mathlib.Core.Bool.{Bool, true}
use Rattle.job.specs.Job.{fresh_job, need_in_range, released_job, closed_job, is_urgent}
use Rattle.job.specs.Slot.{charged, aged, is_finished, is_late, settled}
use Rattle.job.specs.Sound.{open_sound, closed_sound, gap_covers_left, job_sound}
use Rattle.job.specs.Precedence.{longer_first, left_first, by_urgency, job_precedes}
use Rattle.job.specs.Search.{unpreceded, is_next, first_next, next_runner}

unfoldable pub computing_jobs : Bool
unfolding
    fresh_job need_in_range released_job closed_job is_urgent charged aged is_finished is_late settled open_sound closed_sound gap_covers_left job_sound
    longer_first left_first by_urgency job_precedes unpreceded is_next first_next next_runner
computing_jobs = true
