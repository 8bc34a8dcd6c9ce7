-- Each place where the reading stops settles what the first line says.
use Rattle.std.proofs.Common.{sym, ◌∙◌}
use Rattle.std.proofs.lemmas.Option.{cond_some}
use Rattle.probe.proofs.Missing.{cond_none}
use Rattle.probe.proofs.InputLaws.{entry_unended, no_eight, no_flag, entry_read}
use Rattle.probe.proofs.input.entry_line.Goals as goal

pub returns-in_err-line : goal.returns-in_err-line
returns-in_err-line c = c.from_residual.ensures ∙ entry_unended _ c.in_err-line.ensures

pub returns-then-not-fill_from_line : goal.returns-then-not-fill_from_line
returns-then-not-fill_from_line c = no_eight _ _ c.in_ok-line.ensures (sym c.fill_from_line.ensures.is ∙ c.if-not-fill_from_line.true)

pub returns-in_err-open : goal.returns-in_err-open
returns-in_err-open c =
    c.from_residual-in_err-open.ensures
    ∙ no_flag _ _ c.in_ok-line.ensures _ (rw c.if-not-fill_from_line.false at c.fill_from_line.ensures)
    (cond_none _ _ (sym c.flag.ensures ∙ c.in_err-open.was))

pub returns : goal.returns
returns c =
    let (some, is) = cond_some _ _ _ (sym c.flag.ensures ∙ c.in_ok-open.was) in
    entry_read _ _ c.in_ok-line.ensures _ (rw c.if-not-fill_from_line.false at c.fill_from_line.ensures) _ some is
