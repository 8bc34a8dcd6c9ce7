-- What is printed where the first part of the input is known and the rest of it follows. Others cite: `line_after`, with `parts_after`, that the rest may come
-- in parts; `bad_after`, `refused_after` and `table_after_lem`, by what the first part gives; and `too_long`, a table that has too many bytes.
use Rattle.std.proofs.Common.{Result, Ok, Err}
use Prim.Native.Nat.{ℕ, ◌^◌, ◌<◌}
use mathlib.Core.Path.{◌≡◌, refl, sym, ap, ◌∙◌}
use mathlib.Core.List.{List, [], ◌∷◌, ◌++◌}
use borrow.Author.Tests.{lt-ltb}
use lib.ListN.{length}
use Rattle.tasks.specs.Limits.{max_text_length}
use Rattle.tasks.specs.declared.refusals.Reason.TheVariants.{TextTooLong}
use Rattle.tasks.specs.Refusals.{number_of}
use Rattle.tasks.specs.declared.refusals.Refusal.{Refusal}
use Rattle.tasks.specs.declared.table.Table.{Table}
use Rattle.tasks.specs.Outcome.{Outcome}
use Rattle.reader.specs.Reading.{refused, reading}
use Rattle.script.specs.Output.{bad_line}
use Rattle.auditing.specs.Audit.{refused_log, audit_values_of}
use Rattle.auditing.specs.Auditor.{as_told, goes_on, refused_auditor, started_auditor, fed, answer_of, whole}
use Rattle.auditing.specs.declared.auditor.Audit.{Audit}
use Rattle.auditing.specs.declared.auditor.LogRefusal.{LogRefusal}
use Rattle.auditing.specs.declared.auditor.Auditor.{Auditor}
use Rattle.auditing.proofs.AuditorLaws.{answer_found, fed_found, fed_append}
use Rattle.auditing.proofs.FedAsWhole.{fed_log}
use Rattle.audit.specs.Printed.{refusal_line, outcome_line, audit_line, printed_after_reading, printed_for}
use Rattle.audit.specs.Opening.{Opening, opened_after_reading, opened_for, goes_on_with, opened_parts, opening_line}

-- what is printed where the rest follows
unfoldable pub line_after : Opening → (rest : List ℕ) → List ℕ
line_after o rest = opening_line (goes_on_with o rest)

parts_are : (parts : List (List ℕ)) (o : Opening) → opened_parts o parts ≡ goes_on_with o (whole parts)
unfolding opened_parts goes_on_with whole fed
parts_are [] (Ok auditor) = refl
parts_are [] (Err line) = refl
parts_are (part ∷ parts) (Ok auditor) = parts_are parts (Ok (fed auditor part)) ∙ ap Ok (sym (fed_append part (whole parts) auditor))
parts_are (part ∷ parts) (Err line) = parts_are parts (Err line)

pub parts_after : (parts : List (List ℕ)) (o : Opening) → opening_line (opened_parts o parts) ≡ line_after o (whole parts)
unfolding line_after
parts_after parts o = ap opening_line (parts_are parts o)

module _ (rest : List ℕ) where
  pub bad_after : (n : ℕ) → line_after (Err n) rest ≡ bad_line n
  unfolding line_after opening_line goes_on_with
  bad_after n = refl

  -- past a refusal nothing changes the auditor
  pub refused_after : (why : Refusal) → line_after (Ok (refused_auditor why)) rest ≡ refusal_line (number_of why.reason) why.place
  unfolding line_after opening_line goes_on_with refused_auditor as_told goes_on audit_values_of refused_log audit_line outcome_line
  refused_after why =
      let a = refused_auditor why in
      ap (λ (a : Auditor). audit_line (audit_values_of (answer_of a))) (fed_found a rest refl)
      ∙ ap (λ (answer : Result Audit LogRefusal). audit_line (audit_values_of answer)) (answer_found a refl)

  module _ (cores : ℕ) (log : List ℕ) (small : length (log ++ rest) < 2 ^ 64) where
    reading_after :
        (outcome : Outcome) (t : Table)
        → line_after (Ok (opened_after_reading outcome t cores log)) rest ≡ printed_after_reading outcome t cores (log ++ rest)
    unfolding line_after opening_line goes_on_with opened_after_reading printed_after_reading
    reading_after (Ok _) t =
        ap (λ (a : Auditor). audit_line (audit_values_of (answer_of a))) (sym (fed_append log rest (started_auditor t cores)))
        ∙ ap audit_line (fed_log t cores (log ++ rest) small)
    reading_after (Err why) t = refused_after why

    -- the rest of the input is the rest of the log
    pub table_after_lem : (table : List ℕ) → line_after (Ok (opened_for table cores log)) rest ≡ printed_for table cores (log ++ rest)
    unfolding opened_for printed_for
    table_after_lem table = reading_after (reading table).outcome (reading table).table

pub too_long :
    (table : List ℕ) (cores : ℕ) (log : List ℕ) → max_text_length < length table
    → printed_for table cores log ≡ refusal_line (number_of TextTooLong) 0
unfolding printed_for printed_after_reading reading refused
too_long table cores log h = rw (lt-ltb max_text_length (length table) h)
