-- The lines of an accepted log, one after the other. Others cite: `lines_taken`, that each is taken, with `first_taken` and `rest_taken`; and `Reached`, of
-- the machine before some lines, which holds at the start (`reached_first`) and after any of the lines (`reached_after`).
use Rattle.std.proofs.Common.{Ok}
use Prim.Native.Nat.{ℕ, suc}
use mathlib.Core.Path.{◌≡◌, refl, ap, ◌∙◌}
use mathlib.Core.Bool.{Bool, true, false, ◌&&◌}
use mathlib.Core.List.{List, [], ◌∷◌, ◌++◌, map}
use Rattle.laws.proofs.CaseSplits.{by_test, not_both}
use Rattle.laws.proofs.Booleans.{and_left, and_right}
use Rattle.text.specs.Lines.{line_end, after, first_is, lines, unended}
use Rattle.tasks.specs.declared.table.Table.{Table}
use Rattle.judge.specs.SlackJudge.{admission}
use Rattle.judge.proofs.Admitted.{admission_means}
use Rattle.tasks.specs.declared.refusals.Reason.{Reason}
use Rattle.machine.specs.Calls.{start}
use Rattle.machine.specs.declared.machine.Machine.{Machine}
use Rattle.machine.proofs.SoundKept.{start_outcome}
use Rattle.machine.proofs.Kept.{Kept, fresh_machine, started, kept_fresh}
use Rattle.auditing.specs.Log.{is_names_line, is_value_line, values_of}
use Rattle.auditing.specs.Line.{line_taken, after_line}
use Rattle.auditing.specs.Audit.{AuditValues, accepted_log, offending_log, refused_log, audited_lines, audited_log, audited_after, audited}
use Rattle.auditing.specs.InTimeLog.{log_lines, after_lines}
use Rattle.auditing.specs.declared.line.LogLine.{LogLine}
use Rattle.auditing.proofs.LineSteps.{kept_line, line_table}

-- each line is taken by the machine that the lines before it left
unfoldable pub lines_taken : Machine → List LogLine → Bool
lines_taken m [] = true
lines_taken m (line ∷ ls) = line_taken m line && lines_taken (after_line m line) ls

module _ (m : Machine) (line : LogLine) (ls : List LogLine) (all : lines_taken m (line ∷ ls) ≡ true) where
  pub first_taken : line_taken m line ≡ true
  unfolding lines_taken
  first_taken = and_left _ _ all

  pub rest_taken : lines_taken (after_line m line) ls ≡ true
  unfolding lines_taken
  rest_taken = and_right (line_taken m line) _ all

refused_not : {A : Type 0} (reason : Reason) (place : ℕ) → refused_log reason place ≡ accepted_log → A
unfolding refused_log accepted_log
refused_not reason place e = not_both false (ap (λ (v : AuditValues). v.accepted) e) refl

offending_not : {A : Type 0} (line : ℕ) → offending_log line ≡ accepted_log → A
unfolding offending_log accepted_log
offending_not line e = not_both false (ap (λ (v : AuditValues). v.accepted) e) refl

each_taken :
    (ls : List (List ℕ)) (m : Machine) (n : ℕ) (rest : List ℕ) → audited_lines m n ls rest ≡ accepted_log → lines_taken m (map values_of ls) ≡ true
unfolding audited_lines lines_taken
each_taken [] m n rest e = refl
each_taken (l ∷ ls) m n rest e =
    let well : is_value_line l ≡ true = by_test (is_value_line l) (λ ok. ok) (λ bad. refused_not _ n (rw bad at e)) in
    let good : line_taken m (values_of l) ≡ true = by_test (line_taken m (values_of l)) (λ ok. ok) (λ bad. offending_not n (rw (well, bad) at e)) in
    rw good (each_taken ls (after_line m (values_of l)) (suc n) rest (rw (well, good) at e))

log_taken : (m : Machine) (s : List ℕ) → audited_log m s ≡ accepted_log → lines_taken m (log_lines s) ≡ true
unfolding audited_log log_lines
log_taken m s e =
    by_test (first_is is_names_line s)
    (λ ok. each_taken (lines (after line_end s)) m 1 (unended (after line_end s)) (rw ok at e))
    (λ bad. refused_not _ 0 (rw bad at e))

audited_taken :
    (t : Table) (cores : ℕ) (s : List ℕ) → (start t cores).outcome ≡ Ok tt → audited t cores s ≡ accepted_log
    → lines_taken (start t cores).machine (log_lines s) ≡ true
unfolding audited audited_after
audited_taken t cores s starts e = log_taken (start t cores).machine s (rw starts at e)

-- a machine on the table t that keeps the invariant, before lines that are all taken
pub record Reached (t : Table) (m : Machine) (ls : List LogLine) : Type 0 where
  pub kept : Kept m
  pub table_is : m.table ≡ t
  pub all_taken_lem : lines_taken m ls ≡ true

module _ (t : Table) where
  reached_next : (m : Machine) (line : LogLine) (ls : List LogLine) → Reached t m (line ∷ ls) → Reached t (after_line m line) ls
  reached_next m line ls reached =
      let taken = first_taken m line ls reached.all_taken_lem in
      record {
        kept = kept_line m line taken reached.kept;
        table_is = line_table m line taken ∙ reached.table_is;
        all_taken_lem = rest_taken m line ls reached.all_taken_lem;
      }

  pub reached_after : (before ls : List LogLine) (m : Machine) → Reached t m (before ++ ls) → Reached t (after_lines m before) ls
  unfolding after_lines
  reached_after [] ls m reached = reached
  reached_after (line ∷ before) ls m reached = reached_after before ls (after_line m line) (reached_next m line (before ++ ls) reached)

  pub reached_first :
      (cores : ℕ) (s : List ℕ) → (admission t cores).admits ≡ true → audited t cores s ≡ accepted_log
      → Reached t (start t cores).machine (log_lines s)
  unfolding fresh_machine
  reached_first cores s admits accepted =
      let fresh = started t cores admits in
      record {
        kept = rw fresh (kept_fresh t cores admits);
        table_is = rw fresh;
        all_taken_lem = audited_taken t cores s (start_outcome t cores ∙ (admission_means t cores admits).checks) accepted;
      }
