-- The lines of a machine (docs/HANDBOOK.md, "Probing one call"): "`MACHINE count cores`, 32 lines of eight numbers, and `NONE` or `HELD
-- T C D`".
use Rattle.std.specs.Prelude.{ℕ, zero, suc, ◌+◌, ◌*◌, List, [], ◌∷◌, ◌++◌, cond, length, Option, Some, None}
use Rattle.text.specs.Lines.{line_end}
use Rattle.text.specs.Output.{numbers_line}
use Rattle.tasks.specs.Limits.{max_tasks}
use Rattle.tasks.specs.declared.task.Task.{Task}
use Rattle.job.specs.declared.job.Job.{Job}
use Rattle.machine.specs.Machine.{task_at, job_at, core_at}
use Rattle.machine.specs.declared.machine.Machine.{Machine}
use Rattle.probe.specs.Words.{machine_word, none_word, held_word}

-- "`PERIOD BUDGET DEADLINE OPEN LEFT OWED GAP CORE`"
unfoldable pub entry_line : Task → Job → (core : ℕ) → List ℕ
entry_line t j core = numbers_line (t.period ∷ t.budget ∷ t.deadline ∷ cond j.«open» 1 0 ∷ j.left ∷ j.budget ∷ j.gap ∷ core ∷ [])

-- the lines of so many entries from the index i on
unfoldable pub entry_lines : Machine → (i more : ℕ) → List ℕ
entry_lines m i zero = []
entry_lines m i (suc more) = entry_line (task_at m i) (job_at m i) (core_at m i) ++ entry_lines m (suc i) more

-- "`NONE` or `HELD T C D`"
unfoldable pub held_line : Option Task → List ℕ
held_line None = none_word ++ line_end ∷ []
held_line (Some t) = held_word ++ numbers_line (t.period ∷ t.budget ∷ t.deadline ∷ [])

-- all lines of a machine, those of the entries "past the count too"
unfoldable pub machine_lines : Machine → List ℕ
machine_lines m = machine_word ++ numbers_line (m.table.count ∷ m.cores ∷ []) ++ entry_lines m 0 max_tasks ++ held_line m.held

-- bytes that are enough for the line of an entry: eight numbers of ten digits, and a byte after each
abbrev pub entry_room : ℕ
entry_room = 8 * (10 + 1)

-- bytes that are enough for the lines of all entries
abbrev pub entries_room : ℕ
entries_room = entry_room * max_tasks

-- bytes that are enough for the line of what is held: its word with the space, three numbers of ten digits, and a byte after each
abbrev pub held_room : ℕ
held_room = length held_word + 3 * (10 + 1)

-- bytes that are enough for all lines of a machine: its word with the space, a count of at most 20 digits, cores of ten, a byte after either, the lines
-- of the entries, and that of what is held
abbrev pub machine_room : ℕ
machine_room = length machine_word + (20 + 1) + (10 + 1) + entries_room + held_room
