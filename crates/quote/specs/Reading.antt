-- Ranges read from text: docs/HANDBOOK.md, "Quotes over ranges"; "Values, spaces and line ends are as in a table" (document 01, "The table as text").
use Rattle.std.specs.Prelude.{ℕ, zero, suc, ◌+◌, List, Bool, cond, not, ◌&&◌, eqb, ltb, length, Result, Ok, Err}
use Rattle.text.specs.Lines.{line_end, before, after, first_is, is_empty, field, field_count}
use Rattle.text.specs.Words.{same_bytes}
use Rattle.text.specs.Number.{decimal}
use Rattle.tasks.specs.Limits.{max_tasks, max_text_length}
use Rattle.tasks.specs.Refusals.{refusal}
use Rattle.tasks.specs.Outcome.{Outcome}
use Rattle.tasks.specs.declared.refusals.Refusal.{Refusal}
use Rattle.tasks.specs.declared.refusals.Reason.TheVariants.{TextTooLong, BadNamesLine, TooManyTasks, BadValueLine, NoTask}
use Rattle.reader.specs.Value.{is_value}
use Rattle.ranges.specs.declared.task.RangedTask.{RangedTask}
use Rattle.ranges.specs.declared.table.RangedTable.{RangedTable}
use Rattle.ranges.specs.Ranges.{empty_ranges, with_ranged_task}
use Rattle.ranges.specs.Check.{task_checked}
use Rattle.quote.specs.Names.{range_names}

-- whether a line is the names line: else number 2
unfoldable pub is_names : List ℕ → Bool
is_names l = same_bytes l range_names

-- whether a line is "five values": else number 4
unfoldable pub five_values : List ℕ → Bool
five_values l =
    eqb (field_count l) 5 && is_value (field 0 l) && is_value (field 1 l) && is_value (field 2 l) && is_value (field 3 l) && is_value (field 4 l)

-- the ranged task of a line of values, in the order of the names
unfoldable pub ranged_task_of : List ℕ → RangedTask
ranged_task_of l =
    record {
      period = record { least = decimal (field 0 l); most = decimal (field 1 l) };
      budget = record { least = decimal (field 2 l); most = decimal (field 3 l) };
      deadline = decimal (field 4 l);
    }

-- what reading gives where the ranges r are read and nothing follows: number 6, or the ranges
unfoldable pub ended : RangedTable → Result RangedTable Refusal
ended r = cond (eqb r.count 0) (Err (refusal NoTask 0)) (Ok r)

-- what reading gives by what was found of a task: its refusal, or what the lines after it give
unfoldable pub or_refused : Outcome → Result RangedTable Refusal → Result RangedTable Refusal
or_refused (Ok _) next = next
or_refused (Err why) next = Err why

-- "each value line in turn through 3, 4, 16, 5, then 6": r has the tasks so far, n is how many more there can be, and s is the rest of the text
unfoldable pub range_lines : (n : ℕ) → RangedTable → List ℕ → Result RangedTable Refusal
range_lines zero r s = cond (is_empty s) (ended r) (Err (refusal TooManyTasks (r.count + 1)))
range_lines (suc n) r s =
    let task = ranged_task_of (before line_end s) in
    cond (is_empty s) (ended r)
    (cond (not (first_is five_values s)) (Err (refusal BadValueLine (r.count + 1)))
    (or_refused (task_checked task (r.count + 1)) (range_lines n (with_ranged_task r task) (after line_end s))))

-- what reading a text gives: "The refusals are 1, 2, then each value line"
unfoldable pub reading : List ℕ → Result RangedTable Refusal
reading s =
    cond (ltb max_text_length (length s)) (Err (refusal TextTooLong 0))
    (cond (not (first_is is_names s)) (Err (refusal BadNamesLine 0)) (range_lines max_tasks empty_ranges (after line_end s)))
