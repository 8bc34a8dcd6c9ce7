-- Each place where the reading stops settles the call, or the bad line.
use Rattle.std.proofs.Common.{sym, ◌∙◌}
use Rattle.probe.proofs.Missing.{failed}
use Rattle.probe.proofs.InputLaws.{call_unended, no_call, more_follows, call_read}
use Rattle.probe.proofs.input.last_line.Goals as goal

pub returns-in_err-line : goal.returns-in_err-line
returns-in_err-line c =
    let missing = c.in_err-line.ensures in
    failed _ _ _ _ missing.value c.from_residual.ensures.1 ∙ call_unended _ (rw missing.ok_part at c.ended_line.ensures)

pub returns-in_err-call : goal.returns-in_err-call
returns-in_err-call c =
    let missing = c.in_err-call.ensures in
    failed _ _ _ _ missing.value c.from_residual-in_err-call.ensures.1
    ∙ no_call _ _ (rw c.in_ok-line.ensures.ok_part at c.ended_line.ensures) (sym c.call_line.ensures ∙ missing.ok_part)

pub returns-then-line-text : goal.returns-then-line-text
returns-then-line-text c =
    more_follows _ _ (rw c.in_ok-line.ensures.ok_part at c.ended_line.ensures) _ (sym c.call_line.ensures ∙ c.in_ok-call.ensures.ok_part) c.if-line-text.true

pub returns : goal.returns
returns c =
    call_read _ _ (rw c.in_ok-line.ensures.ok_part at c.ended_line.ensures) _ (sym c.call_line.ensures ∙ c.in_ok-call.ensures.ok_part) c.if-line-text.false
