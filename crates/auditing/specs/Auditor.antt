-- An auditor, which is given a log part by part: docs/DECISIONS.md, "Logs of another dispatcher". That it answers for the parts what `audited` gives for the
-- whole log is `FedAsWhole`.
use Rattle.std.specs.Prelude.{ℕ, ◌+◌, ◌^◌, ◌<◌, min, ◌≡◌, List, [], ◌∷◌, ◌++◌, Bool, true, false, cond, not, ◌||◌, eqb, ltb, length, take, set, replicate, Result, Ok, Err}
use Rattle.text.specs.Lines.{line_end}
use Rattle.tasks.specs.declared.table.Table.{Table}
use Rattle.tasks.specs.Outcome.{Outcome}
use Rattle.tasks.specs.declared.refusals.Reason.TheVariants.{BadLogLine}
use Rattle.tasks.specs.declared.refusals.Refusal.{Refusal}
use Rattle.machine.specs.Machine.{zero_machine}
use Rattle.machine.specs.Calls.{start}
use Rattle.machine.specs.declared.machine.Machine.{Machine}
use Rattle.auditing.specs.Log.{is_names_line, is_value_line, values_of}
use Rattle.auditing.specs.Line.{line_taken, after_line}
use Rattle.auditing.specs.Audit.{audit_values_of, audited}
use Rattle.auditing.specs.declared.auditor.Audit.{Audit}
use Rattle.auditing.specs.declared.auditor.Audit.TheVariants.{Accepted, Offends}
use Rattle.auditing.specs.declared.auditor.LogRefusal.{LogRefusal}
use Rattle.auditing.specs.declared.auditor.Auditor.{Auditor}

-- a well-formed line has at most 32 bytes without its byte 10; of a longer one the first 33 are kept, and no 33 bytes are a well-formed line
abbrev pub line_room : ℕ
line_room = 33

-- the largest number of a line that is counted: 2^64 − 1
abbrev pub last_line : ℕ
last_line = 18_446_744_073_709_551_615

-- a refusal of reading or judging, as an audit tells it
unfoldable pub as_told : Refusal → LogRefusal
as_told refusal = record { reason = refusal.reason; place = refusal.place }

-- that a line of the log is broken
unfoldable pub broken : (line : ℕ) → LogRefusal
broken line = record { reason = BadLogLine; place = line }

-- nothing was found so far that ends the audit
unfoldable pub goes_on : Result Audit LogRefusal → Bool
goes_on (Ok Accepted) = true
goes_on (Ok (Offends line)) = false
goes_on (Err why) = false

-- what a start says, as an audit's answer so far
unfoldable pub answer_after : Outcome → Result Audit LogRefusal
answer_after (Ok _) = Ok Accepted
answer_after (Err refusal) = Err (as_told refusal)

-- an auditor of a table that was refused, by reading or by judging: there is nothing to audit
unfoldable pub refused_auditor : Refusal → Auditor
refused_auditor refusal = record { answer = Err (as_told refusal); machine = zero_machine; line = 0; kept = replicate line_room 0; used = 0 }

-- an auditor before the first byte of the log: a fresh machine, and the names line is to come, which has the number 0
unfoldable pub started_auditor : Table → (cores : ℕ) → Auditor
started_auditor t cores =
    let started = start t cores in
    record { answer = answer_after started.outcome; machine = started.machine; line = 0; kept = replicate line_room 0; used = 0 }

-- the auditor with one byte more of its line, as far as there is room
unfoldable pub with_byte : Auditor → (byte : ℕ) → Auditor
with_byte a byte =
    cond (ltb a.used line_room)
    (record { answer = a.answer; machine = a.machine; line = a.line; kept = set a.kept a.used byte; used = a.used + 1 }) a

-- the bytes of the line so far
unfoldable pub kept_line : Auditor → List ℕ
kept_line a = take (min a.used line_room) a.kept

-- the auditor after a line that is as it must be: the next one has the next number; from line 2^64 − 1 on the number stays, so that every later line is told
-- by it
unfoldable pub on_next_line : Auditor → Machine → Auditor
on_next_line a m = record { answer = a.answer; machine = m; line = min (a.line + 1) last_line; kept = a.kept; used = 0 }

-- the auditor that has found what ends the audit
unfoldable pub ended_by : Auditor → Result Audit LogRefusal → Auditor
ended_by a answer = record { answer = answer; machine = a.machine; line = a.line; kept = a.kept; used = a.used }

-- the auditor after a value line: tried for 18 and then judged
unfoldable pub after_value_line : Auditor → List ℕ → Auditor
after_value_line a l =
    cond (not (is_value_line l)) (ended_by a (Err (broken a.line)))
    (cond (not (line_taken a.machine (values_of l))) (ended_by a (Ok (Offends a.line))) (on_next_line a (after_line a.machine (values_of l))))

-- the auditor after a line: line 0 is the names line
unfoldable pub with_line : Auditor → List ℕ → Auditor
with_line a l =
    cond (eqb a.line 0) (cond (is_names_line l) (on_next_line a a.machine) (ended_by a (Err (broken 0)))) (after_value_line a l)

-- the auditor after the next byte of the log: byte 10 ends a line; past an offence or a refusal nothing changes it
unfoldable pub fed_byte : Auditor → (byte : ℕ) → Auditor
fed_byte a byte = cond (goes_on a.answer) (cond (eqb byte line_end) (with_line a (kept_line a)) (with_byte a byte)) a

-- the auditor after a part of the log
unfoldable pub fed : Auditor → List ℕ → Auditor
fed a [] = a
fed a (byte ∷ part) = fed (fed_byte a byte) part

-- the answer where the log ends here: an unended line is broken, and so is a missing names line
unfoldable pub answer_of : Auditor → Result Audit LogRefusal
answer_of a = cond (goes_on a.answer) (cond (ltb 0 a.used || eqb a.line 0) (Err (broken a.line)) (Ok Accepted)) a.answer

-- the auditor after some parts, one after the other
unfoldable pub fed_parts : Auditor → List (List ℕ) → Auditor
fed_parts a [] = a
fed_parts a (part ∷ parts) = fed_parts (fed a part) parts

-- the log that some parts are
unfoldable pub whole : List (List ℕ) → List ℕ
whole [] = []
whole (part ∷ parts) = part ++ whole parts

-- however a log of fewer than 2^64 bytes is cut into parts, the auditor answers what the audit of the whole log gives
unfoldable pub FedAsWhole : Type 0
FedAsWhole =
    (t : Table) (cores : ℕ) (parts : List (List ℕ)) → length (whole parts) < 2 ^ 64
    → audit_values_of (answer_of (fed_parts (started_auditor t cores) parts)) ≡ audited t cores (whole parts)
