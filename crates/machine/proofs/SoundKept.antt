-- A start gives a sound machine or is refused (`start_sound`), and every call keeps a sound machine sound (`call_keeps`). So every machine of every
-- list of calls from a start is sound and has the cores started on: `always_sound`. A slot of such a list is refused exactly where its cores are out of
-- range (`slot_outcome`): no other refusal takes a slot out of the promise. A slot with given runners keeps a sound machine sound too: `slot_with_keeps`.
use Rattle.tasks.specs.Refusals.{refusal}
use Rattle.std.proofs.Common.{Ok, Err, Option, Some}
use Prim.Native.Nat.{ℕ, ◌+◌, ◌-◌, ◌<◌}
use mathlib.Core.Path.{◌≡◌, refl, sym, ◌∙◌}
use mathlib.Core.Bool.{Bool, true, false, cond, ◌&&◌}
use mathlib.Core.List.{List, [], ◌∷◌}
use native.Mathlib.Omega.{arith}
use lib.Dec.{leb}
use lib.ListN.{length, get_or, replicate}
use lib.Seq.{get_or-set_other}
use Rattle.laws.proofs.CaseSplits.{by_order, by_equal, by_test}
use Rattle.laws.proofs.Replaced.{replicate_entry}
use Rattle.tasks.specs.declared.task.Task.{Task}
use Rattle.tasks.specs.declared.table.Table.{Table}
use Rattle.tasks.specs.Limits.{max_tasks, max_cores}
use Rattle.tasks.specs.declared.refusals.Reason.TheVariants.{SlotCoresOutOfRange}
use Rattle.tasks.specs.Check.{checked}
use Rattle.tasks.specs.Table.{zero_task, with_task}
use Rattle.tasks.specs.Outcome.{is_done}
use Rattle.tasks.proofs.OutcomeLaws.{by_outcome}
use Rattle.judge.proofs.Admitted.{admission_means}
use Rattle.job.specs.declared.job.Job.{Job}
use Rattle.job.specs.Job.{fresh_job}
use Rattle.job.specs.Sound.{job_sound}
use Rattle.job.proofs.SoundLaws.{gap_within, fresh_sound, released_sound, ended_sound, slot_sound}
use Rattle.machine.specs.Machine.{task_at, job_at, with_job, holding}
use Rattle.machine.specs.Slot.{passed, after_slot}
use Rattle.machine.specs.Cores.{with_assigned}
use Rattle.machine.specs.Offer.{held_sound}
use Rattle.machine.specs.Sound.{sound}
use Rattle.machine.specs.Calls.{done, refuse, start_after, start, slot_cores_in_range, slot, slot_with, with_joined, step}
use Rattle.machine.specs.Play.{machine_after}
use Rattle.machine.specs.declared.machine.Machine.{Machine}
use Rattle.machine.specs.declared.call.Call.{Call}
use Rattle.machine.proofs.State.{job_set, job_unset, job_other}
use Rattle.machine.proofs.SoundLaws.{make_sound, sound_checks, sound_passes, sound_job, sound_cores, sound_held}
use Rattle.machine.proofs.CoresKept.{fresh_cores, slot_cores, no_cores_lem, join_cores}
use Rattle.machine.proofs.SlotStep.{after_slot_job}
use Rattle.machine.proofs.JobSteps.{old_job, new_job}
use Rattle.machine.proofs.CallCases.{ReleaseTaken, FinishTaken, SlotTaken, OfferTaken, CommitTaken, after_release, after_finish, by_call}

-- the machine is sound, and has so many cores
pub record SoundOn (cores : ℕ) (m : Machine) : Type 0 where
  pub is_sound : sound m ≡ true
  pub cores_are_lem : m.cores ≡ cores

module _ (m : Machine) (ok : sound m ≡ true) where
  -- another job at an index, sound for the task there
  set_sound : (i : ℕ) (j : Job) → job_sound (task_at m i) j ≡ true → job_sound (task_at m i) (job_at (with_job m i j) i) ≡ true
  set_sound i j fine =
      by_order (length m.jobs) i
      (λ short. rw (job_unset m i j short) (fresh_sound (task_at m i)))
      (λ long. rw (job_set m i j long) fine)

  job_keeps : (i : ℕ) (j : Job) → job_sound (task_at m i) j ≡ true → SoundOn m.cores (with_job m i j)
  unfolding with_job task_at
  job_keeps i j fine =
      record {
        is_sound =
            make_sound (with_job m i j) (sound_checks m ok)
            (λ k h.
            by_equal k i
            (λ e. rw e (set_sound i j fine))
            (λ ne. rw (job_other m i j k ne) (sound_job m ok k h)))
            (sound_cores m ok)
            (sound_held m ok);
        cores_are_lem = refl;
      }

  release_keeps : (number need : ℕ) → ReleaseTaken m number need → SoundOn m.cores (after_release m number need)
  unfolding after_release task_at
  release_keeps number need taken =
      let i : ℕ = number - 1 in
      job_keeps i _ (released_sound (task_at m i) need ((sound_passes m ok).tasks_fit i taken.task.inside) taken.needed)

  finish_keeps : (number : ℕ) → FinishTaken m number → SoundOn m.cores (after_finish m number)
  unfolding after_finish
  finish_keeps number taken =
      let i : ℕ = number - 1 in
      job_keeps i _ (ended_sound (task_at m i) (job_at m i) (gap_within (task_at m i) (job_at m i) (sound_job m ok i taken.task.inside)))

  -- whoever ran
  slot_job : (ran : List Bool) (i : ℕ) → i < m.table.count → job_sound (task_at m i) (job_at (after_slot m ran) i) ≡ true
  unfolding passed
  slot_job ran i h = rw (after_slot_job m ran i h) (slot_sound (task_at m i) (job_at m i) (get_or ran i false) (sound_job m ok i h))

  slot_keeps : (k : ℕ) (ran : List Bool) (assigned : List ℕ) → SlotTaken m k ran assigned → SoundOn m.cores (with_assigned (after_slot m ran) assigned)
  unfolding after_slot with_assigned task_at job_at
  slot_keeps k ran assigned taken =
      record {
        is_sound =
            make_sound (with_assigned (after_slot m ran) assigned) (sound_checks m ok) (slot_job ran)
            (slot_cores m.table.count k ran assigned m.assigned taken.placed taken.few_cores)
            (sound_held m ok);
        cores_are_lem = refl;
      }

  -- whoever is said to have run, with no core recorded
  pub slot_with_keeps : (ran : List Bool) → SoundOn m.cores (slot_with m ran).machine
  unfolding slot_with after_slot with_assigned task_at job_at
  slot_with_keeps ran =
      rw ok
      (record {
        is_sound =
            make_sound (with_assigned (after_slot m ran) (replicate max_tasks 0)) (sound_checks m ok) (slot_job ran)
            (no_cores_lem m.table.count max_tasks m.assigned)
            (sound_held m ok);
        cores_are_lem = refl;
      })

  -- whatever is held, if an offer of it passes
  holding_keeps : (held : Option Task) → held_sound held m.table m.cores ≡ true → SoundOn m.cores (holding m held)
  unfolding holding task_at job_at
  holding_keeps held fits =
      record { is_sound = make_sound (holding m held) (sound_checks m ok) (sound_job m ok) (sound_cores m ok) fits; cores_are_lem = refl }

  offer_keeps : (t : Task) → OfferTaken m t → SoundOn m.cores (holding m (Some t))
  unfolding held_sound is_done
  offer_keeps t taken = holding_keeps (Some t) (rw taken.passes)

  -- the tasks that a longer table had, with their jobs, and the new one
  module _ (t : Task) where
    old_task : (i : ℕ) → i < m.table.count → task_at (with_joined m t) i ≡ task_at m i
    unfolding with_joined with_task task_at
    old_task i h = get_or-set_other m.table.tasks m.table.count i t zero_task (λ e. omega arith)

    each_job : (i : ℕ) → i < m.table.count + 1 → job_sound (task_at (with_joined m t) i) (job_at (with_joined m t) i) ≡ true
    each_job i h =
        by_order m.table.count i
        (λ last. let e : i ≡ m.table.count = omega arith in rw (e, new_job m t) (fresh_sound _))
        (λ old. rw (old_task i old, old_job m t i old) (sound_job m ok i old))

    commit_keeps : CommitTaken m t → SoundOn m.cores (with_joined m t)
    unfolding with_joined with_task held_sound
    commit_keeps taken =
        record {
          is_sound =
              make_sound (with_joined m t) (admission_means (with_task m.table t) m.cores taken.fits.admits).checks each_job
              (join_cores m.table.count m.assigned (sound_cores m ok))
              refl;
          cores_are_lem = refl;
        }

  pub call_keeps : (call : Call) → SoundOn m.cores (step m call).machine
  call_keeps =
      by_call m (λ call answer. SoundOn m.cores answer.machine)
      (λ call why told. record { is_sound = ok; cores_are_lem = refl })
      release_keeps
      finish_keeps
      slot_keeps
      offer_keeps
      commit_keeps

-- a start is refused where its table or its cores are
pub start_outcome : (t : Table) (cores : ℕ) → (start t cores).outcome ≡ checked t cores
unfolding start start_after done
start_outcome t cores = by_outcome (checked t cores) (λ e. rw e) (λ why e. rw e)

-- the start is not refused
module _ (t : Table) (cores : ℕ) (starts : (start t cores).outcome ≡ Ok tt) where
  checks : checked t cores ≡ Ok tt
  checks = sym (start_outcome t cores) ∙ starts

  pub start_sound : SoundOn cores (start t cores).machine
  unfolding start start_after done job_at held_sound
  start_sound =
      rw checks
      (record {
        is_sound =
            make_sound _ checks (λ i h. rw (replicate_entry max_tasks i fresh_job) (fresh_sound _)) (fresh_cores t.count max_tasks)
            refl;
        cores_are_lem = refl;
      })

  after_more : (calls : List Call) (m : Machine) → SoundOn cores m → SoundOn cores (machine_after m calls)
  unfolding machine_after
  after_more [] m on = on
  after_more (call ∷ calls) m on =
      let next = call_keeps m on.is_sound call in
      after_more calls (step m call).machine (record { is_sound = next.is_sound; cores_are_lem = next.cores_are_lem ∙ on.cores_are_lem })

  pub always_sound : (calls : List Call) → SoundOn cores (machine_after (start t cores).machine calls)
  always_sound calls = after_more calls (start t cores).machine start_sound

  pub slot_outcome :
      (calls : List Call) (k : ℕ)
      → (slot (machine_after (start t cores).machine calls) k).outcome
      ≡ cond (leb cores k && leb k max_cores) (Ok tt) (Err (refusal SlotCoresOutOfRange 0))
  unfolding slot slot_cores_in_range refuse
  slot_outcome calls k =
      let on = always_sound calls in
      rw (on.is_sound, on.cores_are_lem)
      (by_test (leb cores k && leb k max_cores) (λ e. rw e) (λ e. rw e))
