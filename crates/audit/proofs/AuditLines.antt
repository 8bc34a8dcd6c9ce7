-- The line of an audit, case by case: what it is put together from, and that it has at most 40 bytes. Others cite `accepted_put`, `offends_put` and
-- `refused_put`.
use Rattle.std.proofs.Common.{Ok, Err}
use Prim.Native.Nat.{ℕ, ◌^◌, ◌<◌}
use native.Mathlib.Omega.{arith}
use mathlib.Core.Path.{◌≡◌, ◌∙◌}
use mathlib.Core.List.{[], ◌∷◌, ◌++◌}
use lib.ListN.{length-append}
use Rattle.text.specs.Lines.{line_end}
use Rattle.text.specs.declared.output.Output.{Output}
use Rattle.text.specs.Output.{put, further_numbers, numbers_line, refused_word}
use Rattle.text.proofs.DigitLaws.{text_few}
use Rattle.text.proofs.Putting.{put_append}
use Rattle.tasks.specs.Refusals.{number_of}
use Rattle.script.specs.Output.{PutsWithin}
use Rattle.auditing.specs.Audit.{accepted_log, offending_log, refused_log, audit_values_of}
use Rattle.auditing.specs.declared.auditor.LogRefusal.{LogRefusal}
use Rattle.auditing.specs.declared.auditor.Audit.TheVariants.{Accepted, Offends}
use Rattle.audit.specs.Words.{accepted_word, offends_word}
use Rattle.audit.specs.Printed.{refusal_line, verdict_line, outcome_line, audit_line}
use Rattle.audit.specs.Opening.{printed_room}

module _ {N : ℕ} {a b : Output N} where
  pub accepted_put : b ≡ put a (accepted_word ++ line_end ∷ []) → PutsWithin printed_room a (audit_line (audit_values_of (Ok Accepted))) b
  unfolding audit_line outcome_line verdict_line audit_values_of accepted_log
  accepted_put p = record { whole = p; few = omega arith }

  module _ {c : Output N} where
    pub offends_put :
        (line : ℕ) → line < 2 ^ 64 → b ≡ put a offends_word → c ≡ put b (numbers_line (line ∷ []))
        → PutsWithin printed_room a (audit_line (audit_values_of (Ok (Offends line)))) c
    unfolding audit_line outcome_line verdict_line audit_values_of offending_log numbers_line further_numbers
    offends_put line h p q =
        record { whole = q ∙ rw p (put_append a offends_word _); few = simp length-append (omega (arith, text_few 19 line (omega arith))) }

    pub refused_put :
        (why : LogRefusal) (n : ℕ) → n < 2 ^ 32 → why.place < 2 ^ 64 → n ≡ number_of why.reason → b ≡ put a refused_word
        → c ≡ put b (numbers_line (n ∷ why.place ∷ [])) → PutsWithin printed_room a (audit_line (audit_values_of (Err why))) c
    unfolding audit_line outcome_line refusal_line audit_values_of refused_log numbers_line further_numbers
    refused_put why n h k e p q =
        rw (← e)
        (record {
          whole = q ∙ rw p (put_append a refused_word _);
          few = simp length-append (omega (arith, text_few 9 n (omega arith), text_few 19 why.place (omega arith)));
        })
