-- One accepted line of a log. Others cite, of its running: `running_sound`, `running_is`, what the machine answers to it, `after_is`, the machine after it,
-- `by_rules` and `legal_line`, that its runners are a legal choice; of the table: `running_table`, `line_table` and `task_range`; of the invariant:
-- `kept_running`, `kept_ran` and `kept_line`; and of one task's job: `release_found`, what a release found; `still_going` and `opened_going`, the job at the
-- running, where the line does not finish it; `going_next`, the job after the running; and `closed_stays`, that of a closed task with a gap.
use Prim.Native.Nat.{ℕ, suc, ◌-◌, ◌≤◌, ◌<◌}
use native.Mathlib.Omega.{arith}
use mathlib.Core.Path.{◌≡◌, refl, sym, ap, ◌∙◌}
use mathlib.Core.Bool.{true, false, ◌&&◌}
use mathlib.Core.List.{List, [], ◌∷◌}
use lib.ListN.{replicate}
use Rattle.laws.specs.Sums.{bit}
use Rattle.laws.proofs.CaseSplits.{by_test, not_both}
use Rattle.laws.proofs.Booleans.{and_left, and_right}
use Rattle.tasks.specs.Limits.{max_tasks}
use Rattle.tasks.specs.Outcome.{is_done}
use Rattle.tasks.specs.Flags.{flags_of}
use Rattle.tasks.proofs.Range.{Range, range_of}
use Rattle.job.specs.Job.{released_job}
use Rattle.machine.specs.Machine.{task_at, job_at}
use Rattle.machine.specs.Slot.{after_slot}
use Rattle.machine.specs.Cores.{with_assigned}
use Rattle.machine.specs.Sound.{sound}
use Rattle.machine.specs.Calls.{slot_with, step}
use Rattle.machine.specs.Play.{machine_after}
use Rattle.machine.specs.declared.machine.Machine.{Machine}
use Rattle.machine.specs.declared.call.Call.{Call}
use Rattle.machine.specs.declared.answer.Answer.{Answer}
use Rattle.machine.proofs.State.{jobs_of, same_job}
use Rattle.machine.proofs.SoundLaws.{sound_passes}
use Rattle.machine.proofs.SlotStep.{LegalSlot}
use Rattle.machine.proofs.CallCases.{slot_answer}
use Rattle.machine.proofs.Kept.{Kept, kept_call, kept_slot}
use Rattle.machine.proofs.Going.{Going, going_same, going_on}
use Rattle.auditing.specs.Line.{release_at, finish_at, line_calls, all_taken, legal_run, before_running, running_of, line_taken, after_line}
use Rattle.auditing.specs.InTimeLog.{names}
use Rattle.auditing.specs.declared.line.LogLine.{LogLine}
use Rattle.auditing.proofs.SoundRun.{whole_job}
use Rattle.auditing.proofs.LineByParts.{sound_before, releases_of, finishes_of, between, calls_parts, before_parts}
use Rattle.auditing.proofs.LineCalls.{Alike, alike_after, named_called, release_opened, finish_closed, release_one, finish_one}
use Rattle.auditing.proofs.LineCalls.{with_release, with_finish, released_jobs, finished_jobs}
use Rattle.auditing.proofs.AllowedRun.{legal_means}
use Rattle.auditing.proofs.TheoryChoice.{legal_running}

-- every call keeps the invariant
kept_after : (calls : List Call) (m : Machine) → Kept m → Kept (machine_after m calls)
unfolding machine_after
kept_after [] m kept = kept
kept_after (call ∷ calls) m kept = kept_after calls (step m call).machine (kept_call m kept call)

-- what the release of the task at index i found, and the job that it made
pub record ReleaseFound (m : Machine) (line : LogLine) (i : ℕ) : Type 0 where
  pub inside : i < m.table.count
  pub was_free : (job_at m i).gap ≡ 0
  pub was_closed : (job_at m i).«open» ≡ false
  pub job_is : job_at (between m line) i ≡ released_job (task_at m i) (task_at m i).budget

module _ (m : Machine) (line : LogLine) (taken : line_taken m line ≡ true) where
  -- all but the rules of the running
  carried_out : (all_taken m (line_calls m.table line) && is_done (running_of m line).outcome) ≡ true
  unfolding line_taken
  carried_out = and_left _ (legal_run (before_running m line) (flags_of line.ran)) taken

  pub running_sound : sound (before_running m line) ≡ true
  unfolding running_of
  running_sound = sound_before _ _ (and_right (all_taken m (line_calls m.table line)) _ carried_out)

  pub running_is : running_of m line ≡ slot_answer (before_running m line) (flags_of line.ran) (replicate max_tasks 0)
  unfolding running_of slot_with
  running_is = rw running_sound

  pub after_is : after_line m line ≡ with_assigned (after_slot (before_running m line) (flags_of line.ran)) (replicate max_tasks 0)
  unfolding after_line
  after_is = ap (λ (a : Answer). a.machine) running_is

  pub by_rules : legal_run (before_running m line) (flags_of line.ran) ≡ true
  unfolding line_taken
  by_rules = and_right (all_taken m (line_calls m.table line) && is_done (running_of m line).outcome) _ taken

  pub legal_line : LegalSlot (before_running m line) (flags_of line.ran)
  legal_line = legal_running (before_running m line) (flags_of line.ran) (legal_means (before_running m line) (flags_of line.ran) by_rules) running_sound

  -- the calls before the running
  both_taken : (all_taken m (releases_of m line) ≡ true) × (all_taken (between m line) (finishes_of line) ≡ true)
  both_taken =
      let all = sym (calls_parts m line) ∙ and_left _ _ carried_out in
      (and_left _ _ all, and_right (all_taken m (releases_of m line)) _ all)

  between_alike : Alike m (between m line)
  between_alike = alike_after (release_at m.table) (release_one m.table) (flags_of line.released) 0 m both_taken.0

  pub running_table : (before_running m line).table ≡ m.table
  running_table =
      rw (before_parts m line)
      ((alike_after finish_at finish_one (flags_of line.finished) 0 (between m line) both_taken.1).same_table ∙ between_alike.same_table)

  pub line_table : (after_line m line).table ≡ m.table
  unfolding with_assigned after_slot
  line_table = rw after_is running_table

  pub task_range : (i : ℕ) → i < m.table.count → Range (task_at m i)
  unfolding task_at
  task_range i h =
      let fits = (sound_passes (before_running m line) running_sound).tasks_fit i (rw running_table h) in
      range_of (task_at m i) (rw running_table at fits)

  -- the running keeps the invariant, and an open job that still owes goes on
  pub kept_ran : Kept (before_running m line) → Kept (after_line m line)
  kept_ran kept = rw after_is (kept_slot (before_running m line) kept (flags_of line.ran) (replicate max_tasks 0) legal_line)

  pub going_next :
      (i l b : ℕ) → Going (before_running m line) i l b → (b' : ℕ) → b - bit (names i line.ran) ≡ b' → 1 ≤ b' → Going (after_line m line) i (l - 1) b'
  unfolding names
  going_next i l b going b' owes some = rw after_is (going_on going (flags_of line.ran) (replicate max_tasks 0) legal_line b' owes some)

  module _ (kept : Kept m) where
    pub kept_running : Kept (before_running m line)
    unfolding before_running
    kept_running = kept_after (line_calls m.table line) m kept

    pub kept_line : Kept (after_line m line)
    kept_line = kept_ran kept_running

    module _ (i : ℕ) where
      -- the job after the releases, and after the finishes
      job_between : job_at (between m line) i ≡ with_release m.table (flags_of line.released) i (job_at m i)
      job_between = released_jobs (flags_of line.released) m.table m refl kept.all_jobs both_taken.0 i

      job_running : job_at (before_running m line) i ≡ with_finish (flags_of line.finished) i (job_at (between m line) i)
      job_running =
          rw (before_parts m line)
          (finished_jobs (flags_of line.finished) (between m line) (between_alike.same_long ∙ kept.all_jobs) both_taken.1 i)

      unreleased : names i line.released ≡ false → job_at (between m line) i ≡ job_at m i
      unfolding names with_release
      unreleased off = job_between ∙ rw off

      unfinished : names i line.finished ≡ false → job_at (before_running m line) i ≡ job_at (between m line) i
      unfolding names with_finish
      unfinished off = job_running ∙ rw off

      pub release_found : names i line.released ≡ true → ReleaseFound m line i
      unfolding names release_at task_at with_release whole_job
      release_found on =
          let at = named_called (release_at m.table) (release_one m.table) (flags_of line.released) m both_taken.0 i on in
          let opened = release_opened at.found (suc i) (task_at m i).budget at.done in
          let same : suc i - 1 ≡ i = omega arith in
          record {
            inside = rw (same, at.alike.same_table) at opened.taken.task.inside;
            was_free = rw (same, at.same_job) at opened.taken.was_free;
            was_closed = rw (same, at.same_job) at opened.taken.was_closed;
            job_is = job_between ∙ rw on;
          }

      -- a finish finds an open job
      finish_found : names i line.finished ≡ true → (job_at (between m line) i).«open» ≡ true
      unfolding names finish_at
      finish_found on =
          let at = named_called finish_at finish_one (flags_of line.finished) (between m line) both_taken.1 i on in
          let closed = finish_closed at.found (suc i) at.done in
          let same : suc i - 1 ≡ i = omega arith in
          rw (same, at.same_job) at closed.taken.was_open

      pub still_going : (l b : ℕ) → Going m i l b → names i line.finished ≡ false → Going (before_running m line) i l b
      unfolding jobs_of
      still_going l b going off =
          let closed : job_at (between m line) i ≡ job_at m i =
          by_test (names i line.released)
          (λ on. not_both (job_at m i).«open» going.is_open (release_found on).was_closed)
          unreleased in
          going_same going (before_running m line) kept_running (rw running_table going.inside)
          (same_job m (before_running m line) i (unfinished off ∙ closed))

      pub opened_going :
          names i line.released ≡ true → names i line.finished ≡ false
          → Going (before_running m line) i (task_at m i).deadline (task_at m i).budget
      unfolding jobs_of released_job
      opened_going on off =
          let found = release_found on in
          let job = unfinished off ∙ found.job_is in
          record { kept = kept_running; inside = rw running_table found.inside; is_open = rw job; left_is = rw job; budget_is = rw job }

      pub closed_stays : (job_at m i).«open» ≡ false → 0 < (job_at m i).gap → job_at (before_running m line) i ≡ job_at m i
      closed_stays closed some =
          let as_before : job_at (between m line) i ≡ job_at m i =
          by_test (names i line.released) (λ on. absurd (omega (arith, (release_found on).was_free))) unreleased in
          by_test (names i line.finished)
          (λ on. not_both (job_at m i).«open» (rw as_before at (finish_found on)) closed)
          (λ off. unfinished off ∙ as_before)
