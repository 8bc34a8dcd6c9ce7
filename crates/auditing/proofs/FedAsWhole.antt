-- An auditor answers what the audit of the whole log gives: `fed_as_whole`. Others cite `fed_log`, of a log that is fed as one part.
use Rattle.std.proofs.Common.{Ok, Err, Result}
use Prim.Native.Nat.{ℕ, suc, ◌+◌, ◌^◌, ◌<◌}
use native.Mathlib.Omega.{arith}
use mathlib.Core.Path.{◌≡◌, refl, ap, ◌∙◌}
use mathlib.Core.Bool.{false}
use mathlib.Core.List.{List, [], ◌∷◌, ◌++◌, append-nil}
use lib.ListN.{length}
use lib.Seq.{append_snoc}
use Rattle.laws.proofs.CaseSplits.{by_test, by_equal}
use Rattle.text.specs.Lines.{line_end, has, first_is, is_empty, lines, unended}
use Rattle.text.proofs.LineLaws.{lines_none, unended_all}
use Rattle.text.proofs.Joined.{has_joined, before_joined, after_joined, lines_joined, unended_joined}
use Rattle.tasks.specs.declared.table.Table.{Table}
use Rattle.tasks.specs.Outcome.{Outcome}
use Rattle.tasks.specs.declared.refusals.Reason.TheVariants.{BadLogLine}
use Rattle.machine.specs.Calls.{start}
use Rattle.machine.specs.declared.machine.Machine.{Machine}
use Rattle.auditing.specs.Log.{is_names_line, is_value_line, values_of}
use Rattle.auditing.specs.Line.{line_taken, after_line}
use Rattle.auditing.specs.Audit.{AuditValues, refused_log, audit_values_of, audited_lines, audited_log, audited_after, audited}
use Rattle.auditing.specs.Auditor.{
  as_told,
  broken,
  last_line,
  goes_on,
  answer_after,
  started_auditor,
  on_next_line,
  ended_by,
  with_line,
  fed_byte,
  fed,
  answer_of,
  whole,
  FedAsWhole,
}
use Rattle.auditing.specs.declared.auditor.Audit.{Audit}
use Rattle.auditing.specs.declared.auditor.LogRefusal.{LogRefusal}
use Rattle.auditing.specs.declared.auditor.Audit.TheVariants.{Accepted, Offends}
use Rattle.auditing.specs.declared.auditor.Auditor.{Auditor}
use Rattle.auditing.proofs.AuditorLaws.{answer_found, answer_unended, answer_nameless, answer_accepted, fed_found, fed_whole}
use Rattle.auditing.proofs.LineSoFar.{Reads, reads_byte, reads_end, reads_next}
use Rattle.auditing.proofs.AuditorLaws.{value_broken, value_offends, value_taken, value_line, names_broken, names_read}

-- what an auditor answers that is fed the rest of a log
unfoldable answers : Auditor → List ℕ → AuditValues
answers a s = audit_values_of (answer_of (fed a s))

-- where something was found that ends the audit, the rest does not matter
found : (a : Auditor) (s : List ℕ) → goes_on a.answer ≡ false → answers a s ≡ audit_values_of a.answer
unfolding answers
found a s e = ap (λ (b : Auditor). audit_values_of (answer_of b)) (fed_found a s e) ∙ ap audit_values_of (answer_found a e)

ended : (a : Auditor) (answer : Result Audit LogRefusal) (s : List ℕ) → goes_on answer ≡ false → answers (ended_by a answer) s ≡ audit_values_of answer
unfolding ended_by
ended a answer s e = found (ended_by a answer) s e

-- the log ends inside a value line, or before its first byte
value_last : (m : Machine) (n : ℕ) (x : List ℕ) (a : Auditor) → Reads m n x a → 0 < n → answers a [] ≡ audited_lines m n [] x
unfolding answers fed audited_lines is_empty audit_values_of broken
value_last m n [] a r p = ap audit_values_of (answer_accepted a r.on r.count (λ e. omega (arith, r.number_is)))
value_last m n (b ∷ x) a r p =
    ap audit_values_of (answer_unended a r.on (omega (arith, r.count))) ∙ ap (refused_log BadLogLine) r.number_is

-- or inside the names line, or before its first byte
names_last : (m : Machine) (x : List ℕ) (a : Auditor) → Reads m 0 x a → answers a [] ≡ audited_log m x
unfolding answers fed audit_values_of audited_log first_is broken
names_last m x a r = rw r.inside (refused x r)
  where
    refused : (x : List ℕ) → Reads m 0 x a → audit_values_of (answer_of a) ≡ refused_log BadLogLine 0
    refused [] r = ap audit_values_of (answer_nameless a r.on r.count r.number_is)
    refused (b ∷ x) r = ap audit_values_of (answer_unended a r.on (omega (arith, r.count))) ∙ ap (refused_log BadLogLine) r.number_is

module _ (m : Machine) (n : ℕ) (x : List ℕ) (a : Auditor) (r : Reads m n x a) (s : List ℕ) (few : n < last_line) where
  -- a value line ends: the rest goes on after it, or does not matter
  value_ends :
      0 < n → ((m' : Machine) (a' : Auditor) → Reads m' (suc n) [] a' → answers a' s ≡ audited_lines m' (suc n) (lines s) (unended s))
      → answers (with_line a x) s ≡ audited_lines m n (x ∷ lines s) (unended s)
  unfolding audited_lines audit_values_of goes_on broken
  value_ends p rest =
      let m' = after_line a.machine (values_of x) in
      rw (value_line a x (omega (arith, r.number_is)), ← r.machine_is)
      (by_test (is_value_line x)
      (λ e.
      by_test (line_taken a.machine (values_of x))
      (λ t. rw (value_taken a x e t, e, t) (rest m' (on_next_line a m') (reads_next m n x a r few m')))
      (λ t. rw (value_offends a x e t, e, t, ← r.number_is) (ended a (Ok (Offends a.line)) s refl)))
      (λ e. rw (value_broken a x e, e, ← r.number_is) (ended a (Err (broken a.line)) s refl)))

-- the names line ends: it is the right one, and the value lines follow, or the rest does not matter
names_ends :
    (m : Machine) (x : List ℕ) (a : Auditor) → Reads m 0 x a → (s : List ℕ)
    → ((a' : Auditor) → Reads m 1 [] a' → answers a' s ≡ audited_lines m 1 (lines s) (unended s))
    → answers (with_line a x) s ≡ audited_log m (x ++ line_end ∷ s)
unfolding audited_log first_is audit_values_of goes_on broken on_next_line
names_ends m x a r s rest =
    rw (has_joined line_end x s, before_joined line_end x s r.inside, after_joined line_end x s r.inside)
    (by_test (is_names_line x)
    (λ e. rw (names_read a x r.number_is e, e, r.machine_is) (rest (on_next_line a m) (reads_next m 0 x a r (omega arith) m)))
    (λ e. rw (names_broken a x r.number_is e, e) (ended a (Err (broken 0)) s refl)))

-- the value lines, byte by byte, from a line on whose bytes so far are x; each line has a byte 10, so that numbers of 64 bits are enough
fed_values :
    (s x : List ℕ) (m : Machine) (n : ℕ) (a : Auditor) → Reads m n x a → 0 < n → n + length s < 2 ^ 64
    → answers a s ≡ audited_lines m n (lines (x ++ s)) (unended (x ++ s))
unfolding answers fed
fed_values [] x m n a r p h = rw (append-nil x, lines_none x r.inside, unended_all x r.inside) (value_last m n x a r p)
fed_values (b ∷ s) x m n a r p h =
    by_equal b line_end
    (λ e.
    rw (reads_end m n x a r b e, e, lines_joined x s r.inside, unended_joined x s r.inside)
    (value_ends m n x a r s (omega arith) p (λ m' a' r'. fed_values s [] m' (suc n) a' r' (omega arith) (omega arith))))
    (λ ne.
    rw (← append_snoc x b s)
    (fed_values s (x ++ b ∷ []) m n (fed_byte a b) (reads_byte m n x a r b ne) p (omega arith)))

-- the names line, of which x is read, and then the value lines
fed_names : (s x : List ℕ) (m : Machine) (a : Auditor) → Reads m 0 x a → length s < 2 ^ 64 → answers a s ≡ audited_log m (x ++ s)
unfolding answers fed
fed_names [] x m a r h = rw (append-nil x) (names_last m x a r)
fed_names (b ∷ s) x m a r h =
    by_equal b line_end
    (λ e.
    rw (reads_end m 0 x a r b e, e)
    (names_ends m x a r s (λ a' r'. fed_values s [] m 1 a' r' (omega arith) (omega arith))))
    (λ ne.
    rw (← append_snoc x b s)
    (fed_names s (x ++ b ∷ []) m (fed_byte a b) (reads_byte m 0 x a r b ne) (omega arith)))

-- an auditor before its first byte, by what the start said: a refused one has its answer
fed_after :
    (outcome : Outcome) (a : Auditor) → a.answer ≡ answer_after outcome → (answer_after outcome ≡ Ok Accepted → Reads a.machine 0 [] a)
    → (s : List ℕ) → length s < 2 ^ 64 → answers a s ≡ audited_after outcome a.machine s
unfolding audited_after answer_after audit_values_of goes_on as_told
fed_after (Ok _) a e r s h = fed_names s [] a.machine a (r refl) h
fed_after (Err why) a e r s h = found a s (ap goes_on e) ∙ ap audit_values_of e

-- a log that is fed as one part
pub fed_log :
    (t : Table) (cores : ℕ) (s : List ℕ) → length s < 2 ^ 64 → audit_values_of (answer_of (fed (started_auditor t cores) s)) ≡ audited t cores s
unfolding audited started_auditor answers has
fed_log t cores s h =
    fed_after (start t cores).outcome (started_auditor t cores) refl
    (λ on. record { on = on; machine_is = refl; number_is = refl; inside = refl; room = refl; count = refl; bytes = refl }) s h

-- and however it is cut into parts
pub fed_as_whole : FedAsWhole
unfolding FedAsWhole
fed_as_whole t cores parts h = rw (fed_whole parts (started_auditor t cores)) (fed_log t cores (whole parts) h)
