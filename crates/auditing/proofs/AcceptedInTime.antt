-- An accepted log over an admitted table is in time: `accepted_in_time`.
use Prim.Native.Nat.{ℕ, ◌≤◌}
use native.Mathlib.Omega.{arith}
use mathlib.Core.Path.{◌≡◌}
use mathlib.Core.Bool.{true, false, ◌||◌, or-true}
use mathlib.Core.List.{List, ◌∷◌, ◌++◌}
use lib.Dec.{eqb}
use lib.ListN.{get_or, length, replicate, take}
use borrow.Author.Tests.{eq-eqb}
use Rattle.laws.proofs.CaseSplits.{by_test}
use Rattle.tasks.specs.Limits.{max_tasks}
use Rattle.tasks.specs.Table.{zero_task}
use Rattle.tasks.specs.Flags.{flags_of}
use Rattle.tasks.specs.declared.table.Table.{Table}
use Rattle.machine.specs.Machine.{task_at}
use Rattle.machine.specs.Calls.{start}
use Rattle.machine.specs.declared.machine.Machine.{Machine}
use Rattle.machine.proofs.InTimeHolds.{slot_in_time}
use Rattle.auditing.specs.Line.{before_running, running_of}
use Rattle.auditing.specs.InTimeLog.{log_lines, names, runs_in, finished_in, after_lines, AcceptedInTime}
use Rattle.auditing.specs.declared.line.LogLine.{LogLine}
use Rattle.auditing.proofs.LineSteps.{legal_line, running_is, kept_running}
use Rattle.auditing.proofs.LogTaken.{Reached, first_taken, reached_after, reached_first}
use Rattle.auditing.proofs.RunsInWindow.{released_runs}

module _ (t : Table) (m : Machine) (line : LogLine) (after : List LogLine) (reached : Reached t m (line ∷ after)) (i : ℕ) where
  not_late : get_or (running_of m line).report.late i false ≡ false
  not_late =
      let taken = first_taken m line after reached.all_taken_lem in
      rw (running_is m line taken)
      (slot_in_time (before_running m line) (kept_running m line taken reached.kept) (flags_of line.ran) (replicate max_tasks 0)
      (legal_line m line taken) i)

  closed_in_window :
      names i line.released ≡ true
      → let task = get_or t.tasks i zero_task in
      let window = take task.deadline (line ∷ after) in
      task.deadline ≤ length (line ∷ after) → (eqb task.budget (runs_in i window) || finished_in i window) ≡ true
  unfolding task_at
  closed_in_window on bound =
      let task = get_or t.tasks i zero_task in
      let window = take task.deadline (line ∷ after) in
      by_test (finished_in i window)
      (λ ends. rw (ends, or-true))
      (λ none.
      let runs = rw reached.table_is at (released_runs i m line after reached.kept reached.all_taken_lem on) in
      rw (eq-eqb task.budget (runs_in i window) (omega (arith, runs bound none))))

pub accepted_in_time : AcceptedInTime
unfolding AcceptedInTime
accepted_in_time t cores s admits accepted =
    let first = reached_first t cores s admits accepted in
    let at : (before after : List LogLine) (line : LogLine) → log_lines s ≡ before ++ line ∷ after
    → Reached t (after_lines (start t cores).machine before) (line ∷ after) =
    λ before after line split. reached_after t before (line ∷ after) (start t cores).machine (rw split at first) in
    record {
      none_late = λ before after line split i. not_late t _ line after (at before after line split) i;
      all_closed = λ before after line i split. closed_in_window t _ line after (at before after line split) i;
    }
