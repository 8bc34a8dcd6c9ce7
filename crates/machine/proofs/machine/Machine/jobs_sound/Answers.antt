-- One more job is sound, or one that is not is enough.
use Rattle.std.proofs.Common.{refl, sym, ◌∙◌, add-one}
use Rattle.tasks.specs.Table.{zero_task}
use Rattle.job.specs.Job.{fresh_job}
use Rattle.machine.specs.Machine.{task_at, job_at}
use Rattle.machine.specs.Sound.{jobs_sound}
use Rattle.machine.proofs.SoundLaws.{one_unsound}
use Rattle.machine.proofs.machine.Machine.jobs_sound.Goals as goal

pub loop-i-init : goal.loop-i-init
unfolding jobs_sound
loop-i-init c = refl

pub loop-i-preserved : goal.loop-i-preserved
unfolding jobs_sound task_at job_at zero_task fresh_job
loop-i-preserved c = rw (add-one c.loop-i.i, c.loop-i.invariant) (sym c.is_sound.ensures ∙ c.if-not-is_sound.false)

pub returns-then-not-is_sound : goal.returns-then-not-is_sound
unfolding task_at job_at zero_task fresh_job
returns-then-not-is_sound c =
    sym (one_unsound c.args.self _ c.loop-i.i (sym c.is_sound.ensures ∙ c.if-not-is_sound.true) c.loop-i-test.true)
