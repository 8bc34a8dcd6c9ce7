-- The lines of the input (docs/HANDBOOK.md, "Probing one call"): "a line `MACHINE count cores`, then 32 lines of eight numbers `PERIOD BUDGET
-- DEADLINE OPEN LEFT OWED GAP CORE` .., then a line `NONE`, or `HELD T C D` for the task that the machine holds, then one call line as in replay, and
-- nothing after it".
use Rattle.std.specs.Prelude.{ℕ, ◌≡◌, ◌+◌, ◌<◌, List, Bool, true, false, cond, ◌&&◌, ◌||◌, eqb, leb, length, drop, set, replicate, Option, Some, None, Result, Ok, Err}
use Rattle.text.specs.Lines.{line_end, has, before, after, first_is, is_empty, field}
use Rattle.text.specs.Words.{same_bytes, begins_with}
use Rattle.text.specs.Number.{decimal}
use Rattle.text.specs.Fields.{are_numbers}
use Rattle.tasks.specs.Limits.{max_tasks}
use Rattle.tasks.specs.Table.{zero_task}
use Rattle.tasks.specs.declared.task.Task.{Task}
use Rattle.job.specs.Job.{fresh_job}
use Rattle.job.specs.declared.job.Job.{Job}
use Rattle.machine.specs.declared.call.Call.{Call}
use Rattle.machine.specs.declared.machine.Machine.{Machine}
use Rattle.script.specs.Numbers.{max_digits, max_number}
use Rattle.script.specs.Calls.{fields_task, call_of}
use Rattle.probe.specs.Words.{machine_word, none_word, held_word}
use Rattle.probe.specs.declared.input.FirstLine.{FirstLine}
use Rattle.probe.specs.declared.input.EntryLine.{EntryLine}
use Rattle.probe.specs.declared.input.HeldLine.{HeldLine}

-- "`MACHINE count cores`", where "count and cores are such numbers"
unfoldable pub is_machine_line : List ℕ → Bool
is_machine_line l = begins_with machine_word l && are_numbers max_digits max_number 2 (drop (length machine_word) l)

-- the count of such a line
unfoldable pub count_of : List ℕ → ℕ
count_of l = decimal (field 0 (drop (length machine_word) l))

-- the cores of such a line
unfoldable pub cores_of : List ℕ → ℕ
cores_of l = decimal (field 1 (drop (length machine_word) l))

-- the machine of this count and these cores before its entries are read: they are all zero, and it holds none
unfoldable pub zero_entries : (count cores : ℕ) → Machine
zero_entries count cores =
    record {
      table = record { count = count; tasks = replicate max_tasks zero_task };
      cores = cores;
      jobs = replicate max_tasks fresh_job;
      assigned = replicate max_tasks 0;
      held = None;
    }

-- "eight numbers `PERIOD BUDGET DEADLINE OPEN LEFT OWED GAP CORE`", where "OPEN is 0 or 1"
unfoldable pub is_entry_line : List ℕ → Bool
is_entry_line l = are_numbers max_digits max_number 8 l && leb (decimal (field 3 l)) 1

-- the job of such a line, whose task is that of its first three fields: "OWED the budget still owed"
unfoldable pub entry_job : List ℕ → Job
entry_job l =
    record { «open» = eqb (decimal (field 3 l)) 1; left = decimal (field 4 l); budget = decimal (field 5 l); gap = decimal (field 6 l) }

-- the core of such a line: "CORE the recorded core"
unfoldable pub entry_core : List ℕ → ℕ
entry_core l = decimal (field 7 l)

-- a machine with another task, job and core at an index: the lines are "one for each entry of the machine"
unfoldable pub with_entry : Machine → ℕ → Task → Job → (core : ℕ) → Machine
with_entry m i t j core =
    record {
      table = record { count = m.table.count; tasks = set m.table.tasks i t };
      cores = m.cores;
      jobs = set m.jobs i j;
      assigned = set m.assigned i core;
      held = m.held;
    }

-- "a line `NONE`, or `HELD T C D`"
unfoldable pub is_held_line : List ℕ → Bool
is_held_line l = same_bytes l none_word || (begins_with held_word l && are_numbers max_digits max_number 3 (drop (length held_word) l))

-- what such a line says that the machine holds
unfoldable pub held_of : List ℕ → Option Task
held_of l = cond (same_bytes l none_word) None (Some (fields_task (drop (length held_word) l)))

-- for the contract of a private function: the first line of a text has no byte 10
pub record NotEnded (s : List ℕ) : Type 0 where
  pub none : has line_end s ≡ false

-- or it is this line
pub record FirstLineIs (s l : List ℕ) : Type 0 where
  pub ended : has line_end s ≡ true
  pub is : l ≡ before line_end s
  pub within : length l < length s

-- for the contract of another: what the first line of a text says as the machine's, and how many bytes it has with its byte 10
unfoldable pub first_line : List ℕ → Option FirstLine
first_line s =
    let l = before line_end s in
    cond (first_is is_machine_line s) (Some (record { count = count_of l; cores = cores_of l; length = length l + 1 })) None

-- for the contract of a third: what the first line of a text says as an entry's, and how many bytes it has with its byte 10
unfoldable pub entry_from : List ℕ → Option EntryLine
entry_from s =
    let l = before line_end s in
    cond (first_is is_entry_line s) (Some (record { task = fields_task l; job = entry_job l; core = entry_core l; length = length l + 1 })) None

-- for the contract of a fourth: what the first line of a text says that the machine holds, and how many bytes it has with its byte 10
unfoldable pub held_from : List ℕ → Option HeldLine
held_from s = let l = before line_end s in cond (first_is is_held_line s) (Some (record { held = held_of l; length = length l + 1 })) None

-- the number of the line of what the machine holds: the line of the machine and one for each entry stand before it
abbrev pub held_number : ℕ
held_number = 1 + max_tasks + 1

-- "the call's line is line 35", and the last
abbrev pub call_number : ℕ
call_number = held_number + 1

-- the call of the last line, after which nothing may follow, or the number of the bad line: "after 35 good lines anything that follows is line 36"
unfoldable pub only_call : Option Call → (following : List ℕ) → Result Call ℕ
only_call (Some call) following = cond (is_empty following) (Ok call) (Err (call_number + 1))
only_call None following = Err call_number

-- the same of a text that begins with the last line: it is bad too where it "is not ended, or is missing"
unfoldable pub last_line : List ℕ → Result Call ℕ
last_line s = cond (has line_end s) (only_call (call_of (before line_end s)) (after line_end s)) (Err call_number)
