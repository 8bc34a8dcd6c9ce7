-- What is printed for an input (docs/HANDBOOK.md, "Auditing a log"): "a line `CORES m` .., a table .., a line `LOG`, and then the log". A printed number has at
-- most 20 digits, as that of a line has in every input of fewer than 2^64 bytes.
use Rattle.std.specs.Prelude.{ℕ, List, [], ◌∷◌, ◌++◌, Bool, cond, ltb, length, take, drop, Option, Some, None, Result, Ok, Err}
use Rattle.text.specs.Lines.{line_end, has, before, after}
use Rattle.text.specs.Number.{number_after}
use Rattle.text.specs.Output.{numbers_line, refused_word}
use Rattle.tasks.specs.Limits.{max_text_length}
use Rattle.tasks.specs.declared.refusals.Reason.TheVariants.{TextTooLong}
use Rattle.tasks.specs.declared.table.Table.{Table}
use Rattle.tasks.specs.Outcome.{Outcome}
use Rattle.tasks.specs.Refusals.{number_of}
use Rattle.reader.specs.Reading.{reading}
use Rattle.script.specs.Numbers.{max_digits, max_number}
use Rattle.script.specs.Words.{cores_word}
use Rattle.script.specs.Output.{bad_line}
use Rattle.script.specs.WordLine.{word_line}
use Rattle.script.specs.declared.word_line.WordLine.{WordLine}
use Rattle.auditing.specs.Audit.{AuditValues, audited}
use Rattle.audit.specs.Words.{log_word, accepted_word, offends_word}

-- "`REFUSED n p`": a refusal's number and place
unfoldable pub refusal_line : (number place : ℕ) → List ℕ
refusal_line number place = refused_word ++ numbers_line (number ∷ place ∷ [])

-- "`ACCEPTED`", or "`OFFENDS n`"
unfoldable pub verdict_line : (accepted : Bool) → (offending : ℕ) → List ℕ
verdict_line accepted offending = cond accepted (accepted_word ++ line_end ∷ []) (offends_word ++ numbers_line (offending ∷ []))

-- the line of an audit, by whether it was carried out
unfoldable pub outcome_line : Outcome → AuditValues → List ℕ
outcome_line (Ok _) values = verdict_line values.accepted values.offending
outcome_line (Err why) values = refusal_line (number_of why.reason) why.place

unfoldable pub audit_line : AuditValues → List ℕ
audit_line values = outcome_line values.outcome values

-- after the table was read: its refusals come first, "1 to 6 as in reading, then 7", and then the log
unfoldable pub printed_after_reading : Outcome → Table → (cores : ℕ) → (log : List ℕ) → List ℕ
printed_after_reading (Ok _) t cores log = audit_line (audited t cores log)
printed_after_reading (Err why) t cores log = refusal_line (number_of why.reason) why.place

-- for the text of a table, a number of cores, and a log
unfoldable pub printed_for : (table : List ℕ) → (cores : ℕ) → (log : List ℕ) → List ℕ
printed_for table cores log = let read = reading table in printed_after_reading read.outcome read.table cores log

-- after the line `CORES m`: the text s up to the first line `LOG` is the table's, and what follows that line is the log; "more than 4,096 bytes are
-- `REFUSED 1 0`", which reading says too; "then the missing line `LOG`"
unfoldable pub printed_after_cores : Result WordLine ℕ → (cores : ℕ) → (s : List ℕ) → List ℕ
printed_after_cores (Ok found) cores s = printed_for (take found.start s) cores (drop found.next s)
printed_after_cores (Err n) cores s = cond (ltb max_text_length (length s)) (refusal_line (number_of TextTooLong) 0) (bad_line n)

-- by the number of the first line, which the text s follows: "the first line is not `CORES m`"
unfoldable pub printed_after_first : Option ℕ → (s : List ℕ) → List ℕ
printed_after_first (Some cores) s = printed_after_cores (word_line log_word s) cores s
printed_after_first None s = bad_line 1

-- what is printed for an input: a first line that "is not ended" is `BAD LINE 1` too
unfoldable pub printed : List ℕ → List ℕ
printed s =
    cond (has line_end s) (printed_after_first (number_after max_digits max_number cores_word (before line_end s)) (after line_end s)) (bad_line 1)
