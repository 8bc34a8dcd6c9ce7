-- The audit of a log: document 02, change 11.
use Rattle.std.specs.Prelude.{ℕ, suc, List, [], ◌∷◌, Bool, true, false, cond, not, Result, Ok, Err}
use Rattle.text.specs.Lines.{line_end, after, first_is, is_empty, lines, unended}
use Rattle.tasks.specs.declared.table.Table.{Table}
use Rattle.tasks.specs.Outcome.{Outcome}
use Rattle.tasks.specs.Refusals.{refusal}
use Rattle.tasks.specs.declared.refusals.Reason.{Reason}
use Rattle.tasks.specs.declared.refusals.Reason.TheVariants.{BadLogLine}
use Rattle.machine.specs.Calls.{start}
use Rattle.machine.specs.declared.machine.Machine.{Machine}
use Rattle.auditing.specs.Log.{is_names_line, is_value_line, values_of}
use Rattle.auditing.specs.Line.{line_taken, after_line}
use Rattle.auditing.specs.declared.auditor.Audit.{Audit}
use Rattle.auditing.specs.declared.auditor.Audit.TheVariants.{Accepted, Offends}
use Rattle.auditing.specs.declared.auditor.LogRefusal.{LogRefusal}

-- what an audit gives: whether it was carried out (a refusal's place is any number here, and has 64 bits in the code), whether the log is accepted, and the first
-- offending value line, from 1, or 0 where there is none
pub record AuditValues : Type 0 where
  pub outcome : Outcome
  pub accepted : Bool
  pub offending : ℕ

-- "A log is accepted"
unfoldable pub accepted_log : AuditValues
accepted_log = record { outcome = Ok tt; accepted = true; offending = 0 }

-- "Otherwise the first offending value line is given"
unfoldable pub offending_log : (line : ℕ) → AuditValues
offending_log line = record { outcome = Ok tt; accepted = false; offending = line }

-- a refusal, with its place
unfoldable pub refused_log : Reason → (place : ℕ) → AuditValues
refused_log reason place = record { outcome = Err (refusal reason place); accepted = false; offending = 0 }

-- the number, place and values of each case of an audit's answer
unfoldable pub audit_values_of : Result Audit LogRefusal → AuditValues
audit_values_of (Ok Accepted) = accepted_log
audit_values_of (Ok (Offends line)) = offending_log line
audit_values_of (Err why) = refused_log why.reason why.place

-- "Lines go in turn, each tried for 18 and then judged": some value lines, of which the first has the number n and finds the machine m, and what stands
-- unended after them, which is a broken line too
unfoldable pub audited_lines : Machine → (n : ℕ) → List (List ℕ) → (rest : List ℕ) → AuditValues
audited_lines m n [] rest = cond (is_empty rest) accepted_log (refused_log BadLogLine n)
audited_lines m n (l ∷ ls) rest =
    cond (not (is_value_line l)) (refused_log BadLogLine n)
    (cond (not (line_taken m (values_of l))) (offending_log n) (audited_lines (after_line m (values_of l)) (suc n) ls rest))

-- the names line and then the value lines: "counted from 1, and 0 for the names line"
unfoldable pub audited_log : Machine → List ℕ → AuditValues
audited_log m s =
    cond (first_is is_names_line s) (audited_lines m 1 (lines (after line_end s)) (unended (after line_end s))) (refused_log BadLogLine 0)

-- a log, after the refusals of the table and m were tried
unfoldable pub audited_after : Outcome → Machine → List ℕ → AuditValues
audited_after (Ok _) m s = audited_log m s
audited_after (Err why) m s = refused_log why.reason why.place

-- the audit of a log over a table on m cores: "The table and m are judged first, with their own refusals."; the first line finds a fresh machine, and a
-- table that is not admitted starts too
unfoldable pub audited : Table → (cores : ℕ) → List ℕ → AuditValues
audited t cores s = let started = start t cores in audited_after started.outcome started.machine s
