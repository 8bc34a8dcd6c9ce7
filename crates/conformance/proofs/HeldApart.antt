-- On a sound machine a release, a finish and a slot answer as if none were held, and keep what is: `held_plays_no_part`.
use Rattle.tasks.specs.declared.refusals.Reason.{Reason}
use Rattle.std.proofs.Common.{None}
use Prim.Native.Nat.{ℕ, ◌-◌}
use mathlib.Core.Path.{◌≡◌, refl}
use mathlib.Core.Bool.{true, false, cond, not}
use lib.Dec.{ltb}
use Rattle.laws.proofs.CaseSplits.{of_either, not_both}
use Rattle.tasks.specs.declared.refusals.Reason.TheVariants.{UnsoundMachine}
use Rattle.job.specs.Job.{need_in_range}
use Rattle.machine.specs.Machine.{task_at, job_at, with_job, holding, in_table}
use Rattle.machine.specs.Pick.{open_count, runner_count}
use Rattle.machine.specs.Slot.{passed, ran_count, slot_report, after_slot}
use Rattle.machine.specs.Cores.{slot_assignment, with_assigned}
use Rattle.machine.specs.Offer.{held_sound}
use Rattle.machine.specs.Sound.{sound}
use Rattle.machine.specs.Calls.{done, refuse, release, finish, slot_cores_in_range, slot, step}
use Rattle.machine.specs.declared.machine.Machine.{Machine}
use Rattle.machine.specs.declared.call.Call.{Call}
use Rattle.machine.specs.declared.call.Call.TheVariants.{Release, Finish, Slot, Offer, Commit}
use Rattle.machine.specs.declared.answer.Answer.{Answer}
use Rattle.machine.proofs.SoundLaws.{make_sound, sound_checks, sound_job, sound_cores}
use Rattle.conformance.specs.FormerJoin.{holding_none, answer_holding, comes_between, HeldPlaysNoPart}
use Rattle.conformance.proofs.SamePick.{other, same_order, same_runners}

module _ (m : Machine) (ok : sound m ≡ true) where
  pub sound_none : sound (holding_none m) ≡ true
  unfolding holding_none holding task_at job_at held_sound
  sound_none = make_sound (holding_none m) (sound_checks m ok) (sound_job m ok) (sound_cores m ok) refl

  -- the answer of the machine that holds none, with what m holds
  abbrev keeping : Answer → Answer
  keeping = answer_holding m.held

  refused : (reason : Reason) → keeping (refuse (holding_none m) reason) ≡ refuse m reason
  unfolding answer_holding holding_none holding refuse
  refused reason = refl

  -- past the test that refuses an unsound machine, which neither is
  past_0 : (a b : Answer) → keeping a ≡ b
      → keeping (cond (not (sound (holding_none m))) (refuse (holding_none m) UnsoundMachine) a) ≡ cond (not (sound m)) (refuse m UnsoundMachine) b
  past_0 a b e = rw (ok, sound_none) e

  release_alike : (number need : ℕ) → keeping (release (holding_none m) number need) ≡ release m number need
  unfolding release answer_holding holding_none holding in_table job_at task_at done with_job
  release_alike number need =
      past_0 _ _
      (of_either keeping (not (in_table m number)) (refused _)
      (of_either keeping (not (need_in_range (task_at m (number - 1)) need)) (refused _)
      (of_either keeping (ltb 0 (job_at m (number - 1)).gap) (refused _) refl)))

  finish_alike : (number : ℕ) → keeping (finish (holding_none m) number) ≡ finish m number
  unfolding finish answer_holding holding_none holding in_table job_at done with_job
  finish_alike number =
      past_0 _ _
      (of_either keeping (not (in_table m number)) (refused _) (of_either keeping (not (job_at m (number - 1)).«open») (refused _) refl))

  slot_alike : (k : ℕ) → keeping (slot (holding_none m) k) ≡ slot m k
  unfolding slot slot_cores_in_range answer_holding holding_none holding after_slot with_assigned slot_report slot_assignment passed ran_count runner_count open_count job_at other
  slot_alike k =
      past_0 _ _
      (of_either keeping (not (slot_cores_in_range m k)) (refused _)
      (rw (same_runners m m.assigned None k, same_order m m.assigned None (runner_count m k))))

  by_call : (call : Call) → comes_between call ≡ true → keeping (step (holding_none m) call) ≡ step m call
  unfolding step comes_between
  by_call (Release number need) b = release_alike number need
  by_call (Finish number) b = finish_alike number
  by_call (Slot k) b = slot_alike k
  by_call (Offer t) b = not_both false b refl
  by_call Commit b = not_both false b refl

pub held_plays_no_part : HeldPlaysNoPart
unfolding HeldPlaysNoPart
held_plays_no_part = by_call
