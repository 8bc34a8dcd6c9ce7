-- The contracts of the auditor's own functions. `audited` does not rest on these.
use Rattle.std.specs.Prelude.{◌≡◌, ◌<◌, List, cond, ℕ, Option, Some, None}
use Rattle.tasks.specs.Limits.{max_tasks}
use Rattle.machine.specs.declared.machine.Machine.{Machine}
use Rattle.machine.specs.declared.call.Call.{Call}
use Rattle.machine.specs.declared.answer.Answer.{Answer}
use Rattle.machine.specs.Calls.{step}
use Rattle.machine.specs.Play.{machine_after}
use Rattle.auditing.specs.Log.{is_value_line, values_of}
use Rattle.auditing.specs.Line.{all_taken, line_taken, after_line}
use Rattle.auditing.specs.declared.line.LogLine.{LogLine}

-- the values of a line, where it is not broken
unfoldable pub line_read : List ℕ → Option LogLine
line_read l = cond (is_value_line l) (Some (values_of l)) None

-- what may come of a machine and a task's index, as `post` says, is no other answer than the machine's to the call that is made of the index
abbrev pub Makes : (post : Machine → ℕ → Answer → Type 0) → (made : ℕ → Call) → Type 0
Makes post made = (m : Machine) (i : ℕ) (answer : Answer) → i < max_tasks → post m i answer → answer ≡ step m (made i)

-- the machine after some calls, where all are taken
unfoldable pub after_calls : Machine → List Call → Option Machine
after_calls m calls = cond (all_taken m calls) (Some (machine_after m calls)) None

-- the machine after a line, where it is taken
unfoldable pub line_judged : Machine → LogLine → Option Machine
line_judged m line = cond (line_taken m line) (Some (after_line m line)) None
