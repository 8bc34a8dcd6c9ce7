-- The release as it was before document 02's change 5, for the theorem `whole_as_before`, and as it was before change 3, with soundness as it was, for the
-- theorem `release_as_before` (proofs/ReleaseAsBefore.antt). Beside these theorems only an example of each cites them.
use Rattle.std.specs.Prelude.{ℕ, zero, suc, ◌-◌, Bool, true, cond, not, ◌&&◌, ltb}
use Rattle.tasks.specs.declared.refusals.Reason.TheVariants.{UnsoundMachine, NoSuchTask, ReleasedTooSoon, JobStillOpen}
use Rattle.tasks.specs.Check.{checked}
use Rattle.tasks.specs.Outcome.{is_done}
use Rattle.tasks.specs.declared.task.Task.{Task}
use Rattle.job.specs.declared.job.Job.{Job}
use Rattle.conformance.specs.FormerSound.{former_job_sound}
use Rattle.machine.specs.Machine.{task_at, job_at, with_job, in_table}
use Rattle.machine.specs.Sound.{sound}
use Rattle.machine.specs.Calls.{done, refuse}
use Rattle.machine.specs.declared.machine.Machine.{Machine}
use Rattle.machine.specs.declared.answer.Answer.{Answer}

-- document 01: "it becomes open, left = D_i, budget = C_i, gap = T_i. Every release is charged the whole C_i."
unfoldable pub whole_job : Task → Job
whole_job t = record { «open» = true; left = t.deadline; budget = t.budget; gap = t.period }

-- before change 5, on the present machine: document 01's "Release: 8, 9, 10", after 0, where change 3 takes "number 10 out of the list"
unfoldable pub whole_release : Machine → (number : ℕ) → Answer
whole_release m number =
    let i = number - 1 in
    cond (not (sound m)) (refuse m UnsoundMachine)
    (cond (not (in_table m number)) (refuse m NoSuchTask)
    (cond (ltb 0 (job_at m i).gap) (refuse m ReleasedTooSoon) (done (with_job m i (whole_job (task_at m i))))))

-- the first n jobs were sound
unfoldable pub former_jobs_sound : Machine → (n : ℕ) → Bool
former_jobs_sound m zero = true
former_jobs_sound m (suc n) = former_jobs_sound m n && former_job_sound (task_at m n) (job_at m n)

-- document 01's number 0, the other way round
unfoldable pub former_sound : Machine → Bool
former_sound m = is_done (checked m.table m.cores) && former_jobs_sound m m.table.count

-- document 01: "Release: 8, 9, 10", after 0; "10. A release comes while the task's job is still open."
unfoldable pub former_release : Machine → (number : ℕ) → Answer
former_release m number =
    let i = number - 1 in
    cond (not (former_sound m)) (refuse m UnsoundMachine)
    (cond (not (in_table m number)) (refuse m NoSuchTask)
    (cond (ltb 0 (job_at m i).gap) (refuse m ReleasedTooSoon)
    (cond (job_at m i).«open» (refuse m JobStillOpen) (done (with_job m i (whole_job (task_at m i)))))))
