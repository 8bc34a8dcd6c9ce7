-- The call of a line (docs/HANDBOOK.md, "Replaying calls"): "one call a line: `RELEASE i e`, `FINISH i`, `SLOT k`, `OFFER T C D`,
-- `COMMIT`".
use Rattle.std.specs.Prelude.{ℕ, List, cond, length, drop, Option, Some, None}
use Rattle.text.specs.Lines.{field}
use Rattle.text.specs.Words.{same_bytes, begins_with}
use Rattle.text.specs.Number.{decimal, number_after}
use Rattle.text.specs.Fields.{are_numbers}
use Rattle.tasks.specs.declared.task.Task.{Task}
use Rattle.machine.specs.declared.call.Call.{Call}
use Rattle.machine.specs.declared.call.Call.TheVariants.{Release, Finish, Slot, Offer, Commit}
use Rattle.script.specs.Words.{release_word, finish_word, slot_word, offer_word, commit_word}
use Rattle.script.specs.Numbers.{max_digits, max_number}

-- the release of the fields "i e", if they are two numbers
unfoldable pub release_of : List ℕ → Option Call
release_of f = cond (are_numbers max_digits max_number 2 f) (Some (Release (decimal (field 0 f)) (decimal (field 1 f)))) None

-- the task whose T, C and D are the first three of some fields
unfoldable pub fields_task : List ℕ → Task
fields_task f = record { period = decimal (field 0 f); budget = decimal (field 1 f); deadline = decimal (field 2 f) }

-- the task of the fields "T C D", if they are three numbers
unfoldable pub task_fields : List ℕ → Option Task
task_fields f = cond (are_numbers max_digits max_number 3 f) (Some (fields_task f)) None

-- the offer of a task, if it was read
unfoldable pub offer_of : Option Task → Option Call
offer_of (Some t) = Some (Offer t)
offer_of None = None

-- the call that names one number, if it was read; else what the line is otherwise
unfoldable pub call_with : Option ℕ → (ℕ → Call) → Option Call → Option Call
call_with (Some n) call other = Some (call n)
call_with None call other = other

-- the call of a line, if it is one
unfoldable pub call_of : List ℕ → Option Call
call_of l =
    call_with (number_after max_digits max_number slot_word l) Slot
    (call_with (number_after max_digits max_number finish_word l) Finish
    (cond (begins_with release_word l) (release_of (drop (length release_word) l))
    (cond (begins_with offer_word l) (offer_of (task_fields (drop (length offer_word) l))) (cond (same_bytes l commit_word) (Some Commit) None))))
