-- One line of a log, judged on a machine: document 02, change 11.
use Rattle.std.specs.Prelude.{ℕ, zero, suc, min, List, [], ◌∷◌, ◌++◌, Bool, true, false, not, ◌&&◌, ◌||◌, eqb, ltb, get_or}
use Rattle.tasks.specs.declared.table.Table.{Table}
use Rattle.tasks.specs.Limits.{max_tasks}
use Rattle.tasks.specs.Table.{zero_task}
use Rattle.tasks.specs.Outcome.{is_done}
use Rattle.tasks.specs.Flags.{flags_of}
use Rattle.job.specs.declared.job.Job.{Job}
use Rattle.job.specs.Precedence.{job_beats}
use Rattle.machine.specs.Machine.{job_at}
use Rattle.machine.specs.Pick.{open_count}
use Rattle.machine.specs.Slot.{ran_count}
use Rattle.machine.specs.Calls.{step, slot_with}
use Rattle.machine.specs.Play.{machine_after}
use Rattle.machine.specs.declared.machine.Machine.{Machine}
use Rattle.machine.specs.declared.call.Call.{Call}
use Rattle.machine.specs.declared.call.Call.TheVariants.{Release, Finish}
use Rattle.machine.specs.declared.answer.Answer.{Answer}
use Rattle.auditing.specs.declared.line.LogLine.{LogLine}

-- the release of the task at an index, from 0: "on whole budgets"
unfoldable pub release_at : Table → ℕ → Call
release_at t i = Release (suc i) (get_or t.tasks i zero_task).budget

-- the finish of the task at an index
unfoldable pub finish_at : ℕ → Call
finish_at i = Finish (suc i)

-- a call for each task that is named, in rising number, where the first flag is that of the task at index i
unfoldable pub calls_from : (call : ℕ → Call) → (i : ℕ) → (named : List Bool) → List Call
calls_from call i [] = []
calls_from call i (true ∷ others) = call i ∷ calls_from call (suc i) others
calls_from call i (false ∷ others) = calls_from call (suc i) others

-- the calls of a line before its running: "Releases come first, then finishes"
unfoldable pub line_calls : Table → LogLine → List Call
line_calls t line = calls_from (release_at t) 0 (flags_of line.released) ++ calls_from finish_at 0 (flags_of line.finished)

-- "each release and finish is one our machine would take": each call gets the machine that the call before gave back
unfoldable pub all_taken : Machine → List Call → Bool
all_taken m [] = true
all_taken m (call ∷ calls) = is_done (step m call).outcome && all_taken (step m call).machine calls

-- the task at an index is in the table and open
unfoldable pub is_open_at : Machine → ℕ → Bool
is_open_at m i = ltb i m.table.count && (job_at m i).«open»

-- of the first n tasks, all that ran are open: "all of them open"; "A task number that the table lacks makes its line offend."
unfoldable pub ran_open : Machine → (ran : List Bool) → (n : ℕ) → Bool
ran_open m ran zero = true
ran_open m ran (suc n) = ran_open m ran n && (not (get_or ran n false) || is_open_at m n)

-- no "idle open task" among the first n beats the job y
unfoldable pub unbeaten : Machine → (ran : List Bool) → (y : Job) → (n : ℕ) → Bool
unbeaten m ran y zero = true
unbeaten m ran y (suc n) = unbeaten m ran y n && not ((job_at m n).«open» && not (get_or ran n false) && job_beats (job_at m n) y)

-- of the first n tasks, no runner is beaten by an idle open task
unfoldable pub none_beaten : Machine → (ran : List Bool) → (n : ℕ) → Bool
none_beaten m ran zero = true
none_beaten m ran (suc n) = none_beaten m ran n && (not (get_or ran n false) || unbeaten m ran (job_at m n) m.table.count)

-- "min(m, open) tasks ran, all of them open, and no idle open task beats a runner in urgency or, both alike in urgency, in left"
unfoldable pub legal_run : Machine → (ran : List Bool) → Bool
legal_run m ran = ran_open m ran max_tasks && eqb (ran_count m ran) (min m.cores (open_count m)) && none_beaten m ran m.table.count

-- the machine at a line's running: after its releases and finishes
unfoldable pub before_running : Machine → LogLine → Machine
before_running m line = machine_after m (line_calls m.table line)

-- what the machine answers to a line's running: steps 2 to 4 of a slot with these runners
unfoldable pub running_of : Machine → LogLine → Answer
running_of m line = slot_with (before_running m line) (flags_of line.ran)

-- "A log is accepted exactly when", of one line: its releases and finishes are taken, and so is its running (an unsound machine would take none), which goes
-- by the rules
unfoldable pub line_taken : Machine → LogLine → Bool
line_taken m line =
    all_taken m (line_calls m.table line) && is_done (running_of m line).outcome && legal_run (before_running m line) (flags_of line.ran)

-- the machine after a line that is taken
unfoldable pub after_line : Machine → LogLine → Machine
after_line m line = (running_of m line).machine
