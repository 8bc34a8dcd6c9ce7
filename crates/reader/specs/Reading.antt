-- A table read from text: document 01, "The table as text" and "Why a call is not carried out".
use Rattle.std.specs.Prelude.{ℕ, zero, suc, ◌+◌, List, Bool, cond, not, ◌&&◌, eqb, ltb, length, Ok, Err}
use Rattle.tasks.specs.declared.task.Task.{Task}
use Rattle.tasks.specs.declared.table.Table.{Table}
use Rattle.tasks.specs.declared.refusals.Refusal.{Refusal}
use Rattle.tasks.specs.declared.refusals.Reason.TheVariants.{TextTooLong, BadNamesLine, TooManyTasks, BadValueLine, TaskOutOfRange, NoTask}
use Rattle.tasks.specs.Limits.{max_tasks, max_text_length}
use Rattle.tasks.specs.Refusals.{refusal}
use Rattle.tasks.specs.Task.{in_range}
use Rattle.tasks.specs.Table.{empty_table, with_task}
use Rattle.reader.specs.declared.names.Columns.{Columns}
use Rattle.reader.specs.declared.Reading.{Reading}
use Rattle.text.specs.Lines.{line_end, before, after, first_is, is_empty, field, field_count}
use Rattle.text.specs.Number.{decimal}
use Rattle.reader.specs.Value.{is_value}
use Rattle.reader.specs.Names.{columns_of, begins_with_names}

-- "A refused reading hands back a table of zero tasks with all its numbers 0"
unfoldable pub refused : Refusal → Reading
refused why = record { table = empty_table; outcome = Err why }

-- whether a line is "three well-formed values"
unfoldable pub three_values : List ℕ → Bool
three_values l = eqb (field_count l) 3 && is_value (field 0 l) && is_value (field 1 l) && is_value (field 2 l)

-- whether a text begins with a value line, which is ended: else "4. A value line is not three well-formed values ended by byte 10."
unfoldable pub begins_with_values : List ℕ → Bool
begins_with_values s = first_is three_values s

-- the task of a line of values: "one line of values per task in that order", the order of the names
unfoldable pub task_of : Columns → List ℕ → Task
task_of c l =
    record { period = decimal (field c.period l); budget = decimal (field c.budget l); deadline = decimal (field c.deadline l) }

-- what reading gives where the table t is read and nothing follows: "6. The table has no task.", or the table
unfoldable pub ended : Table → Reading
ended t = cond (eqb t.count 0) (refused (refusal NoTask 0)) (record { table = t; outcome = Ok tt })

-- "Value lines go in turn, each through 3, 4, 5", and "After each line, reading goes on with the rest of the text": c has the columns, t the
-- tasks so far, n is how many more a table can have, and s is the rest of the text
unfoldable pub value_lines : Columns → (n : ℕ) → Table → List ℕ → Reading
value_lines c zero t s = cond (is_empty s) (ended t) (refused (refusal TooManyTasks (t.count + 1)))
value_lines c (suc n) t s =
    let task = task_of c (before line_end s) in
    cond (is_empty s) (ended t)
    (cond (not (begins_with_values s)) (refused (refusal BadValueLine (t.count + 1)))
    (cond (not (in_range task)) (refused (refusal TaskOutOfRange (t.count + 1))) (value_lines c n (with_task t task) (after line_end s))))

-- what reading a text gives. "Reading: 1 to 6": a text that is too long, then its names line, then its value lines
unfoldable pub reading : List ℕ → Reading
reading s =
    cond (ltb max_text_length (length s)) (refused (refusal TextTooLong 0))
    (cond (not (begins_with_names s)) (refused (refusal BadNamesLine 0))
    (value_lines (columns_of (before line_end s)) max_tasks empty_table (after line_end s)))
