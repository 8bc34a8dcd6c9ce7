-- Logs of our own machine in this form: document 02, change 11, "Logs of our own machine in this form, from a fresh one on whole budgets with k = m and no
-- commit, are accepted".
use Rattle.std.specs.Prelude.{ℕ, ◌-◌, ◌≡◌, List, [], ◌∷◌, ◌++◌, Bool, true, false, cond, not, ◌&&◌, ◌||◌, eqb, get_or, set, replicate, Ok}
use Rattle.text.specs.Lines.{line_end}
use Rattle.text.specs.Output.{numbers_line}
use Rattle.tasks.specs.declared.table.Table.{Table}
use Rattle.tasks.specs.Limits.{max_tasks}
use Rattle.tasks.specs.Table.{zero_task}
use Rattle.tasks.specs.Outcome.{is_done}
use Rattle.tasks.specs.Flags.{mask}
use Rattle.machine.specs.Calls.{start}
use Rattle.machine.specs.Play.{Entry, play}
use Rattle.machine.specs.declared.call.Call.{Call}
use Rattle.machine.specs.declared.call.Call.TheVariants.{Release, Finish, Slot, Offer, Commit}
use Rattle.machine.specs.declared.answer.Report.{Report}
use Rattle.auditing.specs.Log.{names_line}
use Rattle.auditing.specs.Audit.{accepted_log, audited}
use Rattle.auditing.specs.declared.line.LogLine.{LogLine}

-- the tasks that were released and those that were finished since the slot before
pub record Since : Type 0 where
  pub released : List Bool
  pub finished : List Bool

-- nothing: at a start and after each accepted slot
unfoldable pub nothing_since : Since
nothing_since = record { released = replicate max_tasks false; finished = replicate max_tasks false }

-- what an accepted call adds to it
unfoldable pub since_call : Call → Since → Since
since_call (Release number need) s = record { released = set s.released (number - 1) true; finished = s.finished }
since_call (Finish number) s = record { released = s.released; finished = set s.finished (number - 1) true }
since_call (Slot k) s = nothing_since
since_call (Offer t) s = s
since_call Commit s = s

-- the line of an accepted slot: each value "the sum of 2 to the power (task number − 1)"
unfoldable pub own_line : Since → Report → LogLine
own_line s r = record { released = mask s.released; finished = mask s.finished; ran = mask r.ran }

-- the line that an accepted call adds to the log: "a line of three values per slot"
unfoldable pub line_by : Call → Since → Report → List LogLine
line_by (Release number need) s r = []
line_by (Finish number) s r = []
line_by (Slot k) s r = own_line s r ∷ []
line_by (Offer t) s r = []
line_by Commit s r = []

-- the lines of some calls and their answers: a refused call is left out, and what follows the last slot is in no line
unfoldable pub own_lines : Since → List Entry → List LogLine
own_lines s [] = []
own_lines s (e ∷ log) = cond (is_done e.outcome) (line_by e.call s e.report ++ own_lines (since_call e.call s) log) (own_lines s log)

-- the bytes of a line, with its byte 10, and those of some lines
unfoldable pub line_text : LogLine → List ℕ
line_text line = numbers_line (line.released ∷ line.finished ∷ line.ran ∷ [])

unfoldable pub lines_text : List LogLine → List ℕ
lines_text [] = []
lines_text (line ∷ ls) = line_text line ++ lines_text ls

-- the log of some calls and their answers, as bytes
unfoldable pub own_log : List Entry → List ℕ
own_log log = names_line ++ line_end ∷ lines_text (own_lines nothing_since log)

-- a call that a log of ours can hold, where it is accepted: "on whole budgets with k = m and no commit"
unfoldable pub is_loggable : Table → (cores : ℕ) → Call → Bool
is_loggable t cores (Release number need) = eqb need (get_or t.tasks (number - 1) zero_task).budget
is_loggable t cores (Finish number) = true
is_loggable t cores (Slot k) = eqb k cores
is_loggable t cores (Offer task) = true
is_loggable t cores Commit = false

-- each accepted call is one that a log of ours can hold
unfoldable pub all_loggable : Table → (cores : ℕ) → List Entry → Bool
all_loggable t cores [] = true
all_loggable t cores (e ∷ log) = (not (is_done e.outcome) || is_loggable t cores e.call) && all_loggable t cores log

-- our own logs are accepted, of every table that starts, admitted or not
unfoldable pub OwnLogsAccepted : Type 0
OwnLogsAccepted =
    (t : Table) (cores : ℕ) → (start t cores).outcome ≡ Ok tt
    → (calls : List Call) → all_loggable t cores (play (start t cores).machine calls) ≡ true
    → audited t cores (own_log (play (start t cores).machine calls)) ≡ accepted_log
