-- What an accepted log over an admitted table says: document 02, change 11, "an accepted log over a table that the sharper test admits has no late job".
use Rattle.std.specs.Prelude.{ℕ, suc, ◌≤◌, ◌≡◌, List, [], ◌∷◌, ◌++◌, map, Bool, true, false, cond, ◌||◌, eqb, length, get_or, take}
use Rattle.text.specs.Lines.{line_end, after, lines}
use Rattle.tasks.specs.declared.table.Table.{Table}
use Rattle.tasks.specs.Table.{zero_task}
use Rattle.tasks.specs.Flags.{flags_of}
use Rattle.judge.specs.SlackJudge.{admission}
use Rattle.machine.specs.Calls.{start}
use Rattle.machine.specs.declared.machine.Machine.{Machine}
use Rattle.auditing.specs.Log.{values_of}
use Rattle.auditing.specs.Line.{running_of, after_line}
use Rattle.auditing.specs.Audit.{accepted_log, audited}
use Rattle.auditing.specs.declared.line.LogLine.{LogLine}

-- the value lines of a log, after its names line
unfoldable pub log_lines : List ℕ → List LogLine
log_lines s = map values_of (lines (after line_end s))

-- a value names the task at an index, from 0
unfoldable pub names : ℕ → (value : ℕ) → Bool
names i value = get_or (flags_of value) i false

-- in how many of some lines the task ran
unfoldable pub runs_in : (i : ℕ) → List LogLine → ℕ
runs_in i [] = 0
runs_in i (line ∷ ls) = cond (names i line.ran) (suc (runs_in i ls)) (runs_in i ls)

-- whether one of some lines finishes the task
unfoldable pub finished_in : (i : ℕ) → List LogLine → Bool
finished_in i [] = false
finished_in i (line ∷ ls) = names i line.finished || finished_in i ls

-- the machine after some lines
unfoldable pub after_lines : Machine → List LogLine → Machine
after_lines m [] = m
after_lines m (line ∷ ls) = after_lines (after_line m line) ls

-- the claim of the lines of a log over the table t on m cores
pub record InTimeLog (t : Table) (cores : ℕ) (ls : List LogLine) : Type 0 where
  -- "no late job": at no line's running does the machine report one
  pub none_late :
      (before after : List LogLine) (line : LogLine) → ls ≡ before ++ line ∷ after
      → (i : ℕ) → get_or (running_of (after_lines (start t cores).machine before) line).report.late i false ≡ false
  -- each job released in a line has in D lines from that line on, if the log goes so far, its C runs or a finish: read from the log alone
  pub all_closed :
      (before after : List LogLine) (line : LogLine) (i : ℕ) → ls ≡ before ++ line ∷ after → names i line.released ≡ true
      → let task = get_or t.tasks i zero_task in
      let window = take task.deadline (line ∷ after) in
      task.deadline ≤ length (line ∷ after) → (eqb task.budget (runs_in i window) || finished_in i window) ≡ true

-- an accepted log over a table that the slack test admits is in time
unfoldable pub AcceptedInTime : Type 0
AcceptedInTime =
    (t : Table) (cores : ℕ) (s : List ℕ) → (admission t cores).admits ≡ true → audited t cores s ≡ accepted_log → InTimeLog t cores (log_lines s)
