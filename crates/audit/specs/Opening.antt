-- The program's state: what it has found after a first part of its input, and after more parts. That it prints what `printed` gives for the whole input is
-- `PrintedInParts`. Only contracts of the program's own functions cite this file; each `opened..` is as its namesake `printed..` in Printed.antt.
use Rattle.std.specs.Prelude.{ℕ, ◌^◌, ◌≤◌, ◌<◌, ◌≡◌, ◌⊎◌, List, [], ◌∷◌, ◌++◌, Bool, true, cond, not, ltb, length, take, drop, Option, Some, None, Result, Ok, Err}
use Rattle.text.specs.Lines.{line_end, has, before, after}
use Rattle.text.specs.Number.{number_after}
use Rattle.tasks.specs.Limits.{max_text_length}
use Rattle.tasks.specs.declared.refusals.Reason.TheVariants.{TextTooLong}
use Rattle.tasks.specs.declared.table.Table.{Table}
use Rattle.tasks.specs.Outcome.{Outcome}
use Rattle.tasks.specs.Refusals.{refusal}
use Rattle.reader.specs.Reading.{reading}
use Rattle.script.specs.Numbers.{max_digits, max_number}
use Rattle.script.specs.Words.{cores_word}
use Rattle.script.specs.Output.{bad_line}
use Rattle.script.specs.WordLine.{word_line}
use Rattle.script.specs.declared.word_line.WordLine.{WordLine}
use Rattle.auditing.specs.Audit.{audit_values_of}
use Rattle.auditing.specs.Auditor.{goes_on, refused_auditor, started_auditor, fed, answer_of, whole}
use Rattle.auditing.specs.declared.auditor.Auditor.{Auditor}
use Rattle.audit.specs.Words.{log_word}
use Rattle.audit.specs.Printed.{audit_line, printed}

-- the auditor of the input's log, or the number of the input's bad line
abbrev pub Opening : Type 0
Opening = Result Auditor ℕ

-- the auditor of a table that was read, or refused, and of the log's first part
unfoldable pub opened_after_reading : Outcome → Table → (cores : ℕ) → (log : List ℕ) → Auditor
opened_after_reading (Ok _) t cores log = fed (started_auditor t cores) log
opened_after_reading (Err why) t cores log = refused_auditor why

unfoldable pub opened_for : (table : List ℕ) → (cores : ℕ) → (log : List ℕ) → Auditor
opened_for table cores log = let read = reading table in opened_after_reading read.outcome read.table cores log

unfoldable pub opened_after_cores : Result WordLine ℕ → (cores : ℕ) → (s : List ℕ) → Opening
opened_after_cores (Ok found) cores s = Ok (opened_for (take found.start s) cores (drop found.next s))
opened_after_cores (Err n) cores s = cond (ltb max_text_length (length s)) (Ok (refused_auditor (refusal TextTooLong 0))) (Err n)

unfoldable pub opened_after_first : Option ℕ → (s : List ℕ) → Opening
opened_after_first (Some cores) s = opened_after_cores (word_line log_word s) cores s
opened_after_first None s = Err 1

-- what the first part of the input gives
unfoldable pub opened : List ℕ → Opening
opened s =
    cond (has line_end s) (opened_after_first (number_after max_digits max_number cores_word (before line_end s)) (after line_end s)) (Err 1)

-- whether nothing that follows can change what is printed
unfoldable pub is_decided : Opening → Bool
is_decided (Ok auditor) = not (goes_on auditor.answer)
is_decided (Err line) = true

-- after the next part
unfoldable pub goes_on_with : Opening → List ℕ → Opening
goes_on_with (Ok auditor) part = Ok (fed auditor part)
goes_on_with (Err line) part = Err line

unfoldable pub opened_parts : Opening → List (List ℕ) → Opening
opened_parts o [] = o
opened_parts o (part ∷ parts) = opened_parts (goes_on_with o part) parts

-- what is printed where the input ends here
unfoldable pub opening_line : Opening → List ℕ
opening_line (Ok auditor) = audit_line (audit_values_of (answer_of auditor))
opening_line (Err line) = bad_line line

-- bytes of the input that are read at a time
abbrev pub part_room : ℕ
part_room = 65_536

-- bytes that are enough for what is printed: "REFUSED ", ten digits, a space, twenty digits and byte 10
abbrev pub printed_room : ℕ
printed_room = 40

-- the first part is full, or it is the whole input: then what is printed after all parts is what the definition gives for the whole input, for every
-- input of fewer than 2^64 bytes
unfoldable pub PrintedInParts : Type 0
PrintedInParts =
    (first : List ℕ) (parts : List (List ℕ)) → (part_room ≤ length first) ⊎ (whole parts ≡ []) → length (first ++ whole parts) < 2 ^ 64
    → opening_line (opened_parts (opened first) parts) ≡ printed (first ++ whole parts)
