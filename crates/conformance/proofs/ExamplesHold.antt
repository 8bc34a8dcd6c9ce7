-- The examples all hold: `call_examples_hold`, `core_examples_hold`, `need_examples_hold` and `offer_examples_hold`. A run on a table that is not admitted can be late, and the claim of
-- demand 3 is false of it: `late_run_refuted`.
use Rattle.std.proofs.Common.{Ok}
use mathlib.Core.Path.{◌≡◌, refl}
use mathlib.Core.Bool.{true}
use mathlib.Core.List.{[]}
use lib.ListN.{get_or, take}
use Rattle.laws.specs.Examples.{all_true}
use Rattle.laws.proofs.CaseSplits.{not_both}
use Rattle.tasks.specs.Written.{table_of}
use Rattle.machine.specs.Machine.{core_at}
use Rattle.machine.specs.Slot.{no_report}
use Rattle.machine.specs.Play.{Entry}
use Rattle.machine.specs.InTime.{is_finish_of, accepted_finish, says_ran, says_finished, slot_count, up_to_slot, ran_whole, any_finish, closed_by_slot, InTime}
use Rattle.machine.specs.declared.call.Call.TheVariants.{Slot}
use Rattle.conformance.specs.FormerSound.{former_job_sound}
use Rattle.conformance.specs.FormerRelease.{whole_job, whole_release, former_jobs_sound, former_sound, former_release}
use Rattle.conformance.specs.Runs.{answers, session_calls}
use Rattle.conformance.specs.CallExamples.{many, pressed, pressed_calls, ignored_slot, without_tasks, made_by_hand, all_kinds, whole, overtaken, ignored, call_examples}
use Rattle.conformance.specs.CoreExamples.{core_lines, same_lists, cores_are, three, every_slot, recording, record_after, else_no_cores, core_examples}
use Rattle.conformance.specs.NeedExamples.{soon_and_long, twice, held_back, held_back_calls, job_after, opens_with, need_examples}
use Rattle.conformance.specs.OfferExamples.{task_numbers, held_numbers, reached, held_is, with_held, two, loaded, menu, amid, left_over, offer_examples}
use Rattle.conformance.proofs.Computing.{computing_runs}

pub call_examples_hold : all_true call_examples ≡ true
unfolding computing_runs says_ran says_finished slot_count up_to_slot ran_whole accepted_finish is_finish_of any_finish closed_by_slot many pressed pressed_calls ignored_slot without_tasks made_by_hand all_kinds whole overtaken ignored whole_job former_job_sound former_jobs_sound former_sound former_release call_examples
call_examples_hold = refl

pub core_examples_hold : all_true core_examples ≡ true
unfolding computing_runs core_at core_lines same_lists cores_are three every_slot recording record_after else_no_cores core_examples
core_examples_hold = refl

pub need_examples_hold : all_true need_examples ≡ true
unfolding computing_runs says_ran says_finished up_to_slot ran_whole accepted_finish is_finish_of any_finish closed_by_slot soon_and_long twice job_after opens_with held_back held_back_calls whole_job whole_release need_examples
need_examples_hold = refl

pub offer_examples_hold : all_true offer_examples ≡ true
unfolding computing_runs says_ran says_finished up_to_slot ran_whole accepted_finish is_finish_of any_finish closed_by_slot many without_tasks made_by_hand all_kinds whole task_numbers held_numbers reached held_is with_held two loaded menu amid left_over offer_examples
offer_examples_hold = refl

-- the log of case k, in whose last slot both tasks are late; the claim fails of task 2
pub late_run_refuted : InTime (table_of whole) (answers whole 1 (session_calls whole 1 5)) → ⊥
unfolding computing_runs whole
late_run_refuted claim =
    let log = answers whole 1 (session_calls whole 1 5) in
    let last : Entry = get_or log 6 (record { call = Slot 1; outcome = Ok tt; report = no_report }) in
    not_both true refl (claim.none_late (take 6 log) [] last refl refl 1)
