-- The invariant of a machine on an admitted table: a fresh machine has it (`kept_fresh`), every call keeps it (`kept_call`), and by it no
-- job is late in a slot (`slot_on_time`).
use Rattle.std.proofs.Common.{Option, None}
use Prim.Native.Nat.{ℕ, ◌-◌, ◌≤◌, ◌<◌}
use mathlib.Core.Path.{◌≡◌}
use mathlib.Core.Bool.{Bool, true, false}
use mathlib.Core.List.{List}
use lib.ListN.{length, get_or, replicate, length-set, length-replicate}
use Rattle.tasks.specs.declared.task.Task.{Task}
use Rattle.tasks.specs.declared.table.Table.{Table}
use Rattle.tasks.specs.Limits.{max_tasks}
use Rattle.tasks.specs.Table.{with_task}
use Rattle.laws.specs.Sums.{bit}
use Rattle.edzl.specs.Slack.{slack_admits}
use Rattle.edzl.proofs.Invariant.{Fresh}
use Rattle.edzl.proofs.Safe.{Safe, safe_fresh, safe_release, safe_finish, safe_slot, on_time, safe_join}
use Rattle.tasks.specs.TaskSet.{first_tasks, tasks_of}
use Rattle.judge.specs.SlackJudge.{admission}
use Rattle.job.specs.declared.job.Job.{Job}
use Rattle.job.specs.Job.{fresh_job}
use Rattle.machine.specs.Machine.{job_at, with_job, holding}
use Rattle.machine.specs.Slot.{after_slot}
use Rattle.machine.specs.Cores.{with_assigned}
use Rattle.machine.specs.Calls.{done, start_after, start, with_joined, step}
use Rattle.machine.specs.declared.machine.Machine.{Machine}
use Rattle.machine.specs.declared.call.Call.{Call}
use Rattle.machine.proofs.State.{jobs_of}
use Rattle.machine.proofs.SlotStep.{LegalSlot, slot_step}
use Rattle.tasks.proofs.TaskSetLaws.{well_checked}
use Rattle.judge.proofs.Admitted.{SlackAdmits, admission_means}
use Rattle.laws.proofs.Replaced.{replicate_entry, length_replaced}
use Rattle.machine.proofs.SoundLaws.{sound_fits}
use Rattle.machine.proofs.CallCases.{ReleaseTaken, FinishTaken, CommitTaken, after_release, after_finish, by_call}
use Rattle.machine.proofs.JobSteps.{release_step, finish_step, join_step}

pub record Kept (m : Machine) : Type 0 where
  pub safe : Safe (tasks_of m.table) m.cores (jobs_of m)
  pub admits : slack_admits (tasks_of m.table) m.cores ≡ true
  -- so that a job that is set is there
  pub all_jobs : length m.jobs ≡ max_tasks

-- the machine of a start that is not refused
unfoldable pub fresh_machine : Table → (cores : ℕ) → Machine
fresh_machine t cores = record { table = t; cores = cores; jobs = replicate max_tasks fresh_job; assigned = replicate max_tasks 0; held = None }

module _ (t : Table) (cores : ℕ) (yes-admitted : (admission t cores).admits ≡ true) where
  means : SlackAdmits t cores
  means = admission_means t cores yes-admitted

  pub started : (start t cores).machine ≡ fresh_machine t cores
  unfolding start start_after done fresh_machine
  started = rw means.checks

  fresh_jobs : Fresh (tasks_of t) (jobs_of (fresh_machine t cores))
  unfolding tasks_of first_tasks jobs_of job_at fresh_machine fresh_job
  fresh_jobs =
      record {
        none = λ i h.
            let job = replicate_entry max_tasks i fresh_job in
            record { closed = rw job; left_none = rw job; budget_none = rw job };
        gap_none = λ i h. rw (replicate_entry max_tasks i fresh_job);
      }

  pub kept_fresh : Kept (fresh_machine t cores)
  unfolding fresh_machine
  kept_fresh =
      record {
        safe = safe_fresh _ _ _ fresh_jobs;
        admits = means.admits;
        all_jobs = length-replicate max_tasks fresh_job;
      }

module _ (m : Machine) (kept : Kept m) where
  -- a call that sets one job keeps the rest
  kept_job : (i : ℕ) (j : Job) → Safe (tasks_of m.table) m.cores (jobs_of (with_job m i j)) → Kept (with_job m i j)
  unfolding with_job
  kept_job i j safe = record { safe = safe; admits = kept.admits; all_jobs = rw length-set kept.all_jobs }

  pub kept_release : (number need : ℕ) → ReleaseTaken m number need → Kept (after_release m number need)
  unfolding tasks_of first_tasks after_release
  kept_release number need taken =
      kept_job _ _
      (safe_release _ (sound_fits m taken.task.is_sound) _ _ _ kept.safe _ taken.task.inside
      (release_step m kept.all_jobs number need taken))

  kept_finish : (number : ℕ) → FinishTaken m number → Kept (after_finish m number)
  unfolding tasks_of first_tasks after_finish
  kept_finish number taken =
      kept_job _ _
      (safe_finish _ (sound_fits m taken.task.is_sound) _ _ _ kept.safe _ taken.task.inside
      (finish_step m kept.all_jobs number taken))

  -- what is held plays no part
  kept_offer : (held : Option Task) → Kept (holding m held)
  unfolding holding jobs_of job_at
  kept_offer held = record { safe = kept.safe; admits = kept.admits; all_jobs = kept.all_jobs }

  kept_commit : (t : Task) → CommitTaken m t → Kept (with_joined m t)
  unfolding with_joined
  kept_commit t taken =
      let longer = admission_means (with_task m.table t) m.cores taken.fits.admits in
      record {
        safe = safe_join _ _ _ _ _ (well_checked _ _ longer.checks) (join_step m t) kept.safe;
        admits = longer.admits;
        all_jobs = rw length-set kept.all_jobs;
      }

  pub kept_slot : (ran : List Bool) (assigned : List ℕ) → LegalSlot m ran → Kept (with_assigned (after_slot m ran) assigned)
  unfolding after_slot with_assigned jobs_of job_at
  kept_slot ran assigned legal =
      record {
        safe = safe_slot _ (sound_fits m legal.is_sound) _ _ _ kept.safe kept.admits _ (slot_step m ran legal);
        admits = kept.admits;
        all_jobs = rw length_replaced kept.all_jobs;
      }

  -- a job owes no more after a slot than it has slots left
  pub slot_on_time :
      (ran : List Bool) → LegalSlot m ran → (i : ℕ) → i < m.table.count → (jobs_of m).is_open i ≡ true
      → (jobs_of m).budget i - bit (get_or ran i false) ≤ (jobs_of m).left i - 1
  unfolding tasks_of first_tasks
  slot_on_time ran legal =
      on_time _ (sound_fits m legal.is_sound) _ _ _ kept.safe kept.admits _ (slot_step m ran legal)

  pub kept_call : (call : Call) → Kept (step m call).machine
  kept_call =
      by_call m (λ call answer. Kept answer.machine)
      (λ call why told. kept)
      kept_release
      kept_finish
      (λ k ran assigned taken. kept_slot ran assigned taken.legal)
      (λ t taken. kept_offer _)
      kept_commit
