-- The contracts of the reader's own functions: for the names line, a value and a value line, each with its length, after which the rest of the text begins, and
-- for what is read into three arrays. `reading` does not rest on these.
use Rattle.std.specs.Prelude.{ℕ, ◌+◌, List, [], ◌∷◌, cond, ◌&&◌, get_or, length, Option, Some, None, Result, Ok, Err}
use Rattle.text.specs.Lines.{line_end, has, before}
use Rattle.text.specs.Number.{decimal}
use Rattle.text.specs.Fields.{three_of}
use Rattle.text.specs.declared.fields.ThreeNumbers.{ThreeNumbers}
use Rattle.text.specs.declared.number.LeadingNumber.{LeadingNumber}
use Rattle.tasks.specs.declared.task.Task.{Task}
use Rattle.tasks.specs.declared.refusals.Refusal.{Refusal}
use Rattle.reader.specs.declared.names.Columns.{Columns}
use Rattle.reader.specs.declared.names.NamesLine.{NamesLine}
use Rattle.reader.specs.declared.Reading.{Reading}
use Rattle.reader.specs.Value.{is_value}
use Rattle.reader.specs.Names.{columns_of, begins_with_names}
use Rattle.reader.specs.Reading.{refused, begins_with_values}

-- the value that stands before the first byte b of a text, where there is a b, and how many bytes it has
unfoldable pub value_up_to : ℕ → List ℕ → Option LeadingNumber
value_up_to b s =
    let field = before b s in
    cond (has b s && is_value field) (Some (record { number = decimal field; length = length field })) None

-- the values of the value line that a text begins with, and the line's length without its byte 10
unfoldable pub value_line : List ℕ → Option ThreeNumbers
value_line s = cond (begins_with_values s) (Some (three_of (before line_end s))) None

-- the task of three values
unfoldable pub task_in : Columns → ThreeNumbers → Task
task_in c line =
    let values = line.first ∷ line.second ∷ line.third ∷ [] in
    record { period = get_or values c.period 0; budget = get_or values c.budget 0; deadline = get_or values c.deadline 0 }

-- the columns of the names line that a text begins with, and the line's length with its byte 10
unfoldable pub names_line : List ℕ → Option NamesLine
names_line s =
    let line = before line_end s in
    cond (begins_with_names s) (Some (record { columns = columns_of line; length = length line + 1 })) None

-- the reading that an answer says with the entries of the arrays: so many of them are the table's tasks; or the refusal, whatever they hold
unfoldable pub reading_from : Result ℕ Refusal → List Task → Reading
reading_from (Ok count) entries = record { table = record { count = count; tasks = entries }; outcome = Ok tt }
reading_from (Err why) entries = refused why
