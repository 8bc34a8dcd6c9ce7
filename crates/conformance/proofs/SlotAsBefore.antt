-- On every sound machine a slot without its cores is the slot of before on the machine without cores (`slot_as_before`), and no other call depends on the
-- recorded cores (`release_alike`, `finish_alike`, `offer_alike`, `commit_alike`). So two sound machines that differ in their cores alone answer alike
-- (`cores_play_no_part`), and over every list of calls from a start the answers without their cores are those of before (`list_as_before`).
use Rattle.tasks.specs.declared.refusals.Reason.{Reason}
use Rattle.std.proofs.Common.{Ok, Err, None, Option, Some}
use Prim.Native.Nat.{ℕ, ◌-◌}
use mathlib.Core.Path.{◌≡◌, refl, sym, ap, ◌∙◌}
use mathlib.Core.Bool.{true, cond, not}
use mathlib.Core.List.{List, [], ◌∷◌}
use lib.Dec.{ltb}
use Rattle.laws.proofs.CaseSplits.{of_either}
use Rattle.laws.proofs.Replaced.{set_replicate}
use Rattle.tasks.specs.declared.task.Task.{Task}
use Rattle.tasks.specs.declared.table.Table.{Table}
use Rattle.tasks.specs.Outcome.{Outcome}
use Rattle.tasks.specs.Limits.{max_tasks}
use Rattle.tasks.specs.declared.refusals.Reason.TheVariants.{UnsoundMachine}
use Rattle.job.specs.Job.{need_in_range}
use Rattle.machine.specs.Machine.{task_at, job_at, with_job, holding, in_table}
use Rattle.machine.specs.Offer.{offer_checked}
use Rattle.machine.specs.Slot.{passed, ran_count, no_report, slot_report, after_slot}
use Rattle.machine.specs.Cores.{with_assigned}
use Rattle.machine.specs.Sound.{sound}
use Rattle.machine.specs.Calls.{done, refuse, start_after, start, release, finish, slot_cores_in_range, slot, offer_after, offer, with_joined, commit_held, commit, step}
use Rattle.machine.specs.Play.{play}
use Rattle.machine.specs.declared.machine.Machine.{Machine}
use Rattle.machine.specs.declared.call.Call.{Call}
use Rattle.machine.specs.declared.call.Call.TheVariants.{Release, Finish, Slot, Offer, Commit}
use Rattle.machine.specs.declared.answer.Answer.{Answer}
use Rattle.machine.proofs.SoundLaws.{make_sound, sound_checks, sound_job, sound_held}
use Rattle.machine.proofs.CoresKept.{fresh_cores}
use Rattle.machine.proofs.SoundKept.{call_keeps, start_sound, start_outcome}
use Rattle.conformance.specs.FormerSlot.{no_cores, machine_without_cores, report_without_cores, answer_without_cores, log_without_cores, former_slot, former_step, former_play}
use Rattle.conformance.proofs.SamePick.{other, same_runners}

module _ (m : Machine) where
  module _ (ok : sound m ≡ true) where
    pub sound_without : sound (machine_without_cores m) ≡ true
    unfolding machine_without_cores no_cores task_at job_at
    sound_without = make_sound (machine_without_cores m) (sound_checks m ok) (sound_job m ok) (fresh_cores m.table.count max_tasks) (sound_held m ok)

    refused : (reason : Reason) → answer_without_cores (refuse m reason) ≡ refuse (machine_without_cores m) reason
    unfolding answer_without_cores report_without_cores no_cores refuse no_report
    refused reason = refl

    -- past the test that refuses an unsound machine, which neither is
    past_0 : (a b : Answer) → answer_without_cores a ≡ b
        → answer_without_cores (cond (not (sound m)) (refuse m UnsoundMachine) a)
        ≡ cond (not (sound (machine_without_cores m))) (refuse (machine_without_cores m) UnsoundMachine) b
    past_0 a b e = rw (ok, sound_without) e

    pub slot_as_before : (k : ℕ) → answer_without_cores (slot m k) ≡ former_slot (machine_without_cores m) k
    unfolding slot former_slot slot_cores_in_range answer_without_cores machine_without_cores report_without_cores after_slot with_assigned slot_report passed ran_count job_at other
    slot_as_before k = past_0 _ _ (of_either answer_without_cores (not (slot_cores_in_range m k)) (refused _) (rw (same_runners m no_cores m.held k)))

    pub release_alike : (number need : ℕ) → answer_without_cores (release m number need) ≡ release (machine_without_cores m) number need
    unfolding release answer_without_cores machine_without_cores report_without_cores no_cores in_table job_at task_at done with_job no_report
    release_alike number need =
        past_0 _ _
        (of_either answer_without_cores (not (in_table m number)) (refused _)
        (of_either answer_without_cores (not (need_in_range (task_at m (number - 1)) need)) (refused _)
        (of_either answer_without_cores (ltb 0 (job_at m (number - 1)).gap) (refused _) refl)))

    pub finish_alike : (number : ℕ) → answer_without_cores (finish m number) ≡ finish (machine_without_cores m) number
    unfolding finish answer_without_cores machine_without_cores report_without_cores no_cores in_table job_at done with_job no_report
    finish_alike number =
        past_0 _ _ (of_either answer_without_cores (not (in_table m number)) (refused _) (of_either answer_without_cores (not (job_at m (number - 1)).«open») (refused _) refl))

    offered_alike : (t : Task) (checks : Outcome) → answer_without_cores (offer_after checks m t) ≡ offer_after checks (machine_without_cores m) t
    unfolding offer_after answer_without_cores machine_without_cores report_without_cores no_cores done holding no_report
    offered_alike t (Ok tt) = refl
    offered_alike t (Err why) = refl

    pub offer_alike : (t : Task) → answer_without_cores (offer m t) ≡ offer (machine_without_cores m) t
    unfolding offer machine_without_cores
    offer_alike t = past_0 _ _ (offered_alike t (offer_checked m.table m.cores t))

    -- a commit records no core for its task, and none stands there
    joined_alike : (t : Task) → machine_without_cores (with_joined m t) ≡ with_joined (machine_without_cores m) t
    unfolding machine_without_cores no_cores with_joined
    joined_alike t = rw (set_replicate {A = ℕ} max_tasks m.table.count 0)

    held_alike : (held : Option Task) → answer_without_cores (commit_held held m) ≡ commit_held held (machine_without_cores m)
    unfolding commit_held answer_without_cores report_without_cores no_cores done no_report
    held_alike None = refused _
    held_alike (Some t) = rw (joined_alike t)

    pub commit_alike : answer_without_cores (commit m) ≡ commit (machine_without_cores m)
    unfolding commit machine_without_cores
    commit_alike = past_0 _ _ (held_alike m.held)

    call_as_before : (call : Call) → answer_without_cores (step m call) ≡ former_step (machine_without_cores m) call
    unfolding step former_step
    call_as_before (Release number need) = release_alike number need
    call_as_before (Finish number) = finish_alike number
    call_as_before (Slot k) = slot_as_before k
    call_as_before (Offer t) = offer_alike t
    call_as_before Commit = commit_alike

pub cores_play_no_part :
    (m m' : Machine) → sound m ≡ true → sound m' ≡ true → machine_without_cores m ≡ machine_without_cores m'
    → (call : Call) → answer_without_cores (step m call) ≡ answer_without_cores (step m' call)
cores_play_no_part m m' ok ok' same call =
    call_as_before m ok call ∙ ap (λ (b : Machine). former_step b call) same ∙ sym (call_as_before m' ok' call)

log_as_before : (calls : List Call) (m : Machine) → sound m ≡ true → log_without_cores (play m calls) ≡ former_play (machine_without_cores m) calls
unfolding play log_without_cores former_play answer_without_cores
log_as_before [] m ok = refl
log_as_before (call ∷ calls) m ok =
    let rest = log_as_before calls (step m call).machine (call_keeps m ok call).is_sound in
    rw (← call_as_before m ok call, rest)

module _ (t : Table) (cores : ℕ) (starts : (start t cores).outcome ≡ Ok tt) where
  -- a start records no core
  fresh_without : machine_without_cores (start t cores).machine ≡ (start t cores).machine
  unfolding machine_without_cores no_cores start start_after done
  fresh_without = rw (sym (start_outcome t cores) ∙ starts)

  pub list_as_before : (calls : List Call) → log_without_cores (play (start t cores).machine calls) ≡ former_play (start t cores).machine calls
  list_as_before calls =
      log_as_before calls (start t cores).machine (start_sound t cores starts).is_sound
      ∙ ap (λ (m : Machine). former_play m calls) fresh_without
