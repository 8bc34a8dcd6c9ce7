-- How often a task runs in the lines of a window. Others cite `released_runs`: a job that a line releases and that none of the D lines from that line on
-- finishes has exactly C runs in them, if the log goes so far. After its last run its task rests (`Rests`): it has a gap for the rest of the window, so
-- that no line of it can release the task, and it does not run.
use Prim.Native.Nat.{ℕ, zero, suc, ◌+◌, ◌-◌, ◌≤◌, ◌<◌}
use native.Mathlib.Omega.{arith}
use mathlib.Core.Path.{◌≡◌, refl, ◌∙◌}
use mathlib.Core.Bool.{Bool, true, false, ◌||◌}
use mathlib.Core.List.{List, [], ◌∷◌}
use lib.ListN.{length, get_or, take}
use Rattle.laws.specs.Sums.{bit}
use Rattle.laws.proofs.CaseSplits.{by_order, by_test, not_both}
use Rattle.laws.proofs.SumLaws.{bit_false, bit_small}
use Rattle.tasks.specs.TaskSet.{first_tasks, tasks_of}
use Rattle.tasks.specs.Flags.{flags_of}
use Rattle.edzl.proofs.Slot.{SlotEffect}
use Rattle.job.proofs.SoundLaws.{open_numbers}
use Rattle.machine.specs.Machine.{task_at, job_at}
use Rattle.machine.specs.Cores.{with_assigned}
use Rattle.machine.specs.declared.machine.Machine.{Machine}
use Rattle.machine.proofs.State.{jobs_of}
use Rattle.machine.proofs.SoundLaws.{sound_passes, sound_job}
use Rattle.machine.proofs.SlotStep.{slot_step}
use Rattle.machine.proofs.Kept.{Kept}
use Rattle.machine.proofs.Going.{Going, left_some, budget_some}
use Rattle.auditing.specs.Line.{before_running, line_taken, after_line}
use Rattle.auditing.specs.InTimeLog.{names, runs_in, finished_in}
use Rattle.auditing.specs.declared.line.LogLine.{LogLine}
use Rattle.auditing.proofs.AllowedRun.{legal_means}
use Rattle.auditing.proofs.LineSteps.{running_sound, after_is, by_rules, legal_line, running_table, line_table, task_range, kept_ran, going_next}
use Rattle.auditing.proofs.LineSteps.{kept_line, release_found, still_going, opened_going, closed_stays}
use Rattle.auditing.proofs.LogTaken.{lines_taken, first_taken, rest_taken}

-- the first lines of a list that is not empty
take_first : (l : ℕ) (line : LogLine) (rest : List LogLine) → 1 ≤ l → take l (line ∷ rest) ≡ line ∷ take (l - 1) rest
take_first zero line rest some = absurd (omega arith)
take_first (suc l) line rest some = let same : suc l - 1 ≡ l = omega arith in rw same

either_false : (a b : Bool) → (a || b) ≡ false → (a ≡ false) × (b ≡ false)
either_false true b e = not_both true refl e
either_false false b e = (refl, e)

module _ (i : ℕ) where
  runs_more : (line : LogLine) (ls : List LogLine) → runs_in i (line ∷ ls) ≡ bit (names i line.ran) + runs_in i ls
  unfolding runs_in bit
  runs_more line ls = by_test (names i line.ran) (λ e. rw e (omega arith)) (λ e. rw e (omega arith))

  finished_parts : (line : LogLine) (ls : List LogLine) → finished_in i (line ∷ ls) ≡ false → (names i line.finished ≡ false) × (finished_in i ls ≡ false)
  unfolding finished_in
  finished_parts line ls = either_false (names i line.finished) (finished_in i ls)

  -- the task has no open job, and a gap for g lines more
  record Rests (m : Machine) (g : ℕ) : Type 0 where
    kept : Kept m
    inside : i < m.table.count
    closed : (job_at m i).«open» ≡ false
    gap_covers : g ≤ (job_at m i).gap

  module _ (m : Machine) (line : LogLine) (taken : line_taken m line ≡ true) where
    -- what the running did to the task's job
    running_effect :
        i < (before_running m line).table.count
        → SlotEffect (λ k. get_or (flags_of line.ran) k false) (jobs_of (before_running m line)) (jobs_of (after_line m line)) i
    unfolding jobs_of job_at with_assigned tasks_of first_tasks
    running_effect inside = rw (after_is m line taken) ((slot_step (before_running m line) (flags_of line.ran) (legal_line m line taken)).effect i inside)

    idle_line : (g : ℕ) → Rests m (suc g) → names i line.ran ≡ false
    unfolding names
    idle_line g rests =
        let B = before_running m line in
        let same = closed_stays m line taken rests.kept i rests.closed (omega (arith, rests.gap_covers)) in
        let within : i < B.table.count = rw (running_table m line taken) rests.inside in
        by_test (get_or (flags_of line.ran) i false)
        (λ runs.
        not_both (job_at m i).«open»
        (rw same at
        ((legal_means B (flags_of line.ran) (by_rules m line taken)).opened i (omega (arith, (sound_passes B (running_sound m line taken)).count_fits)) runs))
        rests.closed)
        (λ idle. idle)

    rests_next : (g : ℕ) → Rests m (suc g) → Rests (after_line m line) g
    unfolding jobs_of
    rests_next g rests =
        let same = closed_stays m line taken rests.kept i rests.closed (omega (arith, rests.gap_covers)) in
        let effect = running_effect (rw (running_table m line taken) rests.inside) in
        record {
          kept = kept_line m line taken rests.kept;
          inside = rw (line_table m line taken) rests.inside;
          closed = (effect.stays_closed (rw same rests.closed)).closed;
          gap_covers = rw (effect.gap_falls, same) (omega (arith, rests.gap_covers));
        }

    -- after its last run the task rests
    module _ (l b : ℕ) (going : Going (before_running m line) i l b) where
      ends : b ≤ bit (names i line.ran) → Rests (after_line m line) (l - 1)
      unfolding jobs_of names
      ends last =
          let B = before_running m line in
          let effect = running_effect going.inside in
          let numbers = open_numbers (task_at B i) (job_at B i) (sound_job B (running_sound m line taken) i going.inside) going.is_open in
          record {
            kept = kept_ran m line taken going.kept;
            inside = rw (line_table m line taken) (rw (running_table m line taken) at going.inside);
            closed = (effect.closes_finished going.is_open (omega (arith, going.budget_is))).closed;
            gap_covers = rw effect.gap_falls (omega (arith, numbers.gap_covers, going.left_is));
          }

  -- while it rests, the task does not run
  rests_idle : (ls : List LogLine) (m : Machine) (g : ℕ) → lines_taken m ls ≡ true → Rests m g → runs_in i (take g ls) ≡ 0
  unfolding runs_in
  rests_idle ls m zero all rests = refl
  rests_idle [] m (suc g) all rests = refl
  rests_idle (line ∷ ls) m (suc g) all rests =
      let taken = first_taken m line ls all in
      let later = rests_idle ls (after_line m line) g (rest_taken m line ls all) (rests_next m line taken g rests) in
      runs_more line (take g ls) ∙ omega (arith, bit_false _ (idle_line m line taken g rests))

  -- an open job of the task that none of the lines that it has left finishes runs in them as often as it owes
  AllRun : List LogLine → Type 0
  AllRun ls =
      (m : Machine) (l b : ℕ) → lines_taken m ls ≡ true → Going m i l b → l ≤ length ls → finished_in i (take l ls) ≡ false
      → runs_in i (take l ls) ≡ b

  -- from the running of a line on
  module _ (m : Machine) (line : LogLine) (rest : List LogLine) (all : lines_taken m (line ∷ rest) ≡ true) where
    run_on :
        AllRun rest → (l b : ℕ) → Going (before_running m line) i l b → l ≤ suc (length rest) → finished_in i (take (l - 1) rest) ≡ false
        → runs_in i (take l (line ∷ rest)) ≡ b
    unfolding AllRun
    run_on more l b going bound none =
        let taken = first_taken m line rest all in
        let others = rest_taken m line rest all in
        let ran = bit (names i line.ran) in
        rw (take_first l line rest (left_some going))
        (runs_more line (take (l - 1) rest)
        ∙ by_order b ran
        (λ last.
        let idle = rests_idle rest (after_line m line) (l - 1) others (ends m line taken l b going last) in
        omega (arith, bit_small (names i line.ran), budget_some going))
        (λ owes.
        let later = more (after_line m line) (l - 1) (b - ran) others (going_next m line taken i l b going (b - ran) refl (omega arith)) (omega arith) none in
        omega arith))

  all_run : (ls : List LogLine) → AllRun ls
  unfolding AllRun
  all_run [] m l b all going bound none = absurd (omega (arith, left_some going))
  all_run (line ∷ rest) m l b all going bound none =
      let parts = finished_parts line (take (l - 1) rest) (rw (take_first l line rest (left_some going)) at none) in
      run_on m line rest all (all_run rest) l b
      (still_going m line (first_taken m line rest all) going.kept i l b going parts.0)
      bound
      parts.1

  pub released_runs :
      (m : Machine) (line : LogLine) (rest : List LogLine) → Kept m → lines_taken m (line ∷ rest) ≡ true → names i line.released ≡ true
      → let window = take (task_at m i).deadline (line ∷ rest) in
      (task_at m i).deadline ≤ length (line ∷ rest) → finished_in i window ≡ false → runs_in i window ≡ (task_at m i).budget
  released_runs m line rest kept all on bound none =
      let taken = first_taken m line rest all in
      let deadline = (task_at m i).deadline in
      let some : 1 ≤ deadline = omega (arith, task_range m line taken i (release_found m line taken kept i on).inside) in
      let parts = finished_parts line (take (deadline - 1) rest) (rw (take_first deadline line rest some) at none) in
      run_on m line rest all (all_run rest) deadline (task_at m i).budget (opened_going m line taken kept i on parts.0) bound parts.1
