use Rattle.std.proofs.Common.{◌≡◌, ℕ, ◌∙◌, List, get_or, replicate, true, false, Some, None, sym, arith}
use Rattle.text.specs.Fields.{FilledFromLine}
use Rattle.text.proofs.FilledFromLine.{entry_is}
use Rattle.auditing.specs.Log.{value_digits, max_value, is_value_line, values_of}
use Rattle.auditing.specs.Parts.{line_read}
use Rattle.auditing.proofs.line.read_line.Goals as goal

-- a broken line, and one of three numbers
no_values : (l : List ℕ) → is_value_line l ≡ false → None ≡ line_read l
unfolding line_read
no_values l e = rw e

values_read :
    (l a : List ℕ) → FilledFromLine value_digits max_value l (replicate 3 0) a true
    → Some (record { released = get_or a 0 0; finished = get_or a 1 0; ran = get_or a 2 0 }) ≡ line_read l
unfolding line_read is_value_line values_of
values_read l a n =
    let is = entry_is value_digits max_value l (replicate 3 0) a n in
    rw (← n.is, ← is 0 (omega arith), ← is 1 (omega arith), ← is 2 (omega arith))

pub returns-then-not-fill_from_line : goal.returns-then-not-fill_from_line
unfolding is_value_line
returns-then-not-fill_from_line c = no_values _ (sym c.fill_from_line.ensures.is ∙ c.if-not-fill_from_line.true)

pub returns : goal.returns
returns c = values_read _ _ (rw c.if-not-fill_from_line.false at c.fill_from_line.ensures)
