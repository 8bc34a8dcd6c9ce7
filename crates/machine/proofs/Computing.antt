-- What a computed test looks through, in one name: a proof `unfolding computing` computes verdicts and runs of the machine.
use mathlib.Core.Bool.{Bool, true}
use Rattle.tasks.proofs.Computing.{computing_tables}
use Rattle.judge.proofs.Computing.{computing_verdicts}
use Rattle.job.proofs.Computing.{computing_jobs}
use Rattle.cores.proofs.Computing.{computing_cores}
use Rattle.machine.specs.Machine.{zero_machine, task_at, job_at, with_job, holding, in_table}
use Rattle.machine.specs.Pick.{open_count, waiting, precedes, candidates, with_picked, pick, runner_count, runners}
use Rattle.machine.specs.Slot.{passed, ran_count, no_report, slot_report, after_slot}
use Rattle.machine.specs.Cores.{runner_order, slot_assignment, with_assigned}
use Rattle.machine.specs.Offer.{offer_verdict, offer_checked, held_sound}
use Rattle.machine.specs.Sound.{jobs_sound, sound}
use Rattle.machine.specs.Calls.{done, refuse, start_after, start, release, finish, slot_cores_in_range, slot, offer_after, offer, with_joined, commit_held, commit, step}
use Rattle.machine.specs.Play.{play}
use Rattle.machine.specs.InTime.{is_slot, accepted_slot}
use Rattle.tasks.specs.Flags.{mask}
use Rattle.tasks.specs.Outcome.{first_refusal}
use Rattle.judge.specs.SlackJudge.{admission_values_of}

unfoldable pub computing : Bool
unfolding
    computing_tables computing_verdicts computing_jobs computing_cores
    zero_machine task_at job_at with_job holding in_table
    open_count waiting precedes candidates with_picked pick runner_count runners
    passed ran_count no_report slot_report after_slot
    runner_order slot_assignment with_assigned
    first_refusal admission_values_of offer_verdict offer_checked held_sound
    jobs_sound sound
    done refuse start_after start release finish slot_cores_in_range slot offer_after offer with_joined commit_held commit step play
    is_slot accepted_slot
    mask
computing = true
