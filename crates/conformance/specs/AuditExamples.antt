-- Examples of audits of logs (document 02, change 11): each as what the audit gives and what it has to give. The theorem stands in proofs/AuditExamplesHold.antt.
use Rattle.std.specs.Prelude.{ℕ, Bool, false, List, [], ◌∷◌, ◌++◌, get_or}
use Rattle.text.specs.Lines.{line_end}
use Rattle.tasks.specs.declared.table.Table.{Table}
use Rattle.tasks.specs.Written.{task, table_of}
use Rattle.tasks.specs.declared.refusals.Reason.TheVariants.{BadLogLine, NoTask, CoresOutOfRange}
use Rattle.machine.specs.Calls.{start}
use Rattle.auditing.specs.Log.{names_line}
use Rattle.auditing.specs.Line.{running_of}
use Rattle.auditing.specs.Audit.{AuditValues, accepted_log, offending_log, refused_log, audited}
use Rattle.auditing.specs.OwnLog.{lines_text}
use Rattle.auditing.specs.InTimeLog.{after_lines}
use Rattle.auditing.specs.declared.line.LogLine.{LogLine}

-- what an audit gives, and what it has to give
pub record AuditExample : Type 0 where
  pub gives : AuditValues
  pub must : AuditValues

unfoldable pub all_give : List AuditExample → List AuditValues
all_give [] = []
all_give (x ∷ xs) = x.gives ∷ all_give xs

unfoldable pub all_must : List AuditExample → List AuditValues
all_must [] = []
all_must (x ∷ xs) = x.must ∷ all_must xs

-- the tasks of document 01's case j, to be on 2 cores; two tasks of case k, on 1 core
unfoldable pub case_j : Table
case_j = table_of (task 6 2 3 ∷ task 6 2 3 ∷ task 6 5 6 ∷ [])

unfoldable pub case_k : Table
case_k = table_of (task 5 5 5 ∷ task 5 5 5 ∷ [])

-- a value line
unfoldable pub values : (released finished ran : ℕ) → LogLine
values released finished ran = record { released = released; finished = finished; ran = ran }

-- a log of these lines, with these bytes after them
unfoldable pub log_with : List LogLine → (more : List ℕ) → List ℕ
log_with ls more = names_line ++ line_end ∷ (lines_text ls ++ more)

-- on case j's table and 2 cores such a log is accepted, offends in this line, or is broken at this line
unfoldable pub takes : List LogLine → AuditExample
takes ls = record { gives = audited case_j 2 (log_with ls []); must = accepted_log }

unfoldable pub offends : (line : ℕ) → List LogLine → (more : List ℕ) → AuditExample
offends line ls more = record { gives = audited case_j 2 (log_with ls more); must = offending_log line }

unfoldable pub broken : (line : ℕ) → List LogLine → (more : List ℕ) → AuditExample
broken line ls more = record { gives = audited case_j 2 (log_with ls more); must = refused_log BadLogLine line }

-- such a text is no log: number 18 at the names line
unfoldable pub nameless : (text : List ℕ) → AuditExample
nameless text = record { gives = audited case_j 2 text; must = refused_log BadLogLine 0 }

-- the bytes of "0 0" and byte 10, of "07 0 3" and byte 10, of "4294967296 0 0" and byte 10, of "10000000000 0 0" and byte 10, and of "0 0 0", not ended
unfoldable pub two_values : List ℕ
two_values = 48 ∷ 32 ∷ 48 ∷ 10 ∷ []

unfoldable pub leading_zero_line : List ℕ
leading_zero_line = 48 ∷ 55 ∷ 32 ∷ 48 ∷ 32 ∷ 51 ∷ 10 ∷ []

unfoldable pub too_large : List ℕ
too_large = 52 ∷ 50 ∷ 57 ∷ 52 ∷ 57 ∷ 54 ∷ 55 ∷ 50 ∷ 57 ∷ 54 ∷ 32 ∷ 48 ∷ 32 ∷ 48 ∷ 10 ∷ []

unfoldable pub eleven_digits : List ℕ
eleven_digits = 49 ∷ 48 ∷ 48 ∷ 48 ∷ 48 ∷ 48 ∷ 48 ∷ 48 ∷ 48 ∷ 48 ∷ 48 ∷ 32 ∷ 48 ∷ 32 ∷ 48 ∷ 10 ∷ []

unfoldable pub not_ended : List ℕ
not_ended = 48 ∷ 32 ∷ 48 ∷ 32 ∷ 48 ∷ []

-- two jobs of case k, of which the second is late in line 5, and then the first again is
unfoldable pub late_lines : List LogLine
late_lines = values 3 0 1 ∷ values 0 0 1 ∷ values 0 0 1 ∷ values 0 0 1 ∷ []

unfoldable pub audit_examples : List AuditExample
audit_examples =
    -- the lines of our own machine, and two that are alike exchanged
    takes (values 7 0 3 ∷ values 0 0 5 ∷ values 0 0 6 ∷ values 0 0 4 ∷ values 0 0 4 ∷ values 0 0 4 ∷ []) ∷
    takes (values 7 0 3 ∷ values 0 0 6 ∷ values 0 0 5 ∷ values 0 0 4 ∷ values 0 0 4 ∷ values 0 0 4 ∷ []) ∷
    takes [] ∷
    -- a job finished before it could run, released and finished in one line, and a release too soon after it
    takes (values 7 0 3 ∷ values 0 1 6 ∷ []) ∷
    takes (values 1 1 0 ∷ []) ∷
    offends 2 (values 1 1 0 ∷ values 1 0 0 ∷ []) [] ∷
    -- a task that is not open any more runs; too few and too many run; tasks that the table lacks
    offends 2 (values 7 0 3 ∷ values 0 1 5 ∷ []) [] ∷
    offends 1 (values 7 0 1 ∷ []) [] ∷
    offends 1 (values 7 0 7 ∷ []) [] ∷
    offends 1 (values 8 0 0 ∷ []) [] ∷
    offends 1 (values 4_294_967_295 0 0 ∷ []) [] ∷
    offends 1 (values 0 0 1 ∷ []) [] ∷
    -- an idle task that has fewer slots left, and one that is urgent
    offends 1 (values 7 0 5 ∷ []) [] ∷
    offends 2 (values 7 0 3 ∷ values 0 0 3 ∷ []) [] ∷
    -- lines in turn: an offence in line 1 goes before a broken line 2
    offends 1 (values 0 0 1 ∷ []) two_values ∷
    broken 2 (values 0 0 0 ∷ []) two_values ∷
    broken 1 [] too_large ∷
    broken 1 [] leading_zero_line ∷
    broken 1 [] eleven_digits ∷
    broken 2 (values 0 0 0 ∷ []) not_ended ∷
    nameless names_line ∷
    nameless [] ∷
    -- a late job does not offend
    record { gives = audited case_k 1 (log_with (late_lines ++ values 0 0 1 ∷ values 3 0 2 ∷ []) []); must = accepted_log } ∷
    -- the table and m go before the log
    record { gives = audited (table_of []) 2 []; must = refused_log NoTask 0 } ∷
    record { gives = audited case_j 17 []; must = refused_log CoresOutOfRange 0 } ∷
    []

-- whether task 2 is late in line 5 of the log with the late job
unfoldable pub late_in_line5 : Bool
late_in_line5 = get_or (running_of (after_lines (start case_k 1).machine late_lines) (values 0 0 1)).report.late 1 false
