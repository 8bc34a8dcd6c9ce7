-- Each place where the reading stops settles what the first line says.
use Rattle.std.proofs.Common.{sym, ◌∙◌}
use Rattle.laws.proofs.Parts.{from_drop}
use Rattle.probe.proofs.InputLaws.{machine_unended, no_word, no_pair, machine_read}
use Rattle.probe.proofs.input.first_line.Goals as goal

pub returns-in_err-line : goal.returns-in_err-line
returns-in_err-line c = c.from_residual.ensures ∙ machine_unended _ c.in_err-line.ensures

pub returns-then-not-begins_with : goal.returns-then-not-begins_with
returns-then-not-begins_with c = no_word _ _ c.in_ok-line.ensures (sym c.if-not-begins_with.ensures)

pub returns-then-not-fill_from_line : goal.returns-then-not-fill_from_line
returns-then-not-fill_from_line c =
    no_pair _ _ c.in_ok-line.ensures (sym c.if-not-begins_with.ensures) _ (from_drop _ 8) (sym c.fill_from_line.ensures.is ∙ c.if-not-fill_from_line.true)

pub returns : goal.returns
returns c =
    machine_read _ _ c.in_ok-line.ensures (sym c.if-not-begins_with.ensures) _ (from_drop _ 8) _
    (rw c.if-not-fill_from_line.false at c.fill_from_line.ensures)
