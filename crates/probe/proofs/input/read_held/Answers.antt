-- By the line of what is held, and then by the call's.
use Rattle.std.proofs.Common.{sym, ◌∙◌}
use Rattle.probe.specs.Printed.{printed_asked, printed_input}
use Rattle.probe.proofs.Missing.{handed_on, failed}
use Rattle.probe.proofs.PrintedLaws.{no_held, HeldIs, held_is}
use Rattle.probe.proofs.input.read_held.Goals as goal

pub returns-in_err-line : goal.returns-in_err-line
unfolding printed_input
returns-in_err-line c =
    let missing = c.in_err-line.ensures in
    rw (failed _ _ _ _ missing.value c.from_residual.ensures.1) (no_held _ _ (sym c.held_line.ensures ∙ missing.ok_part))

-- what the line of what is held says
line : (c : goal.In_ok-line) → HeldIs c.args.text.now c.args.machine c.in_ok-line.line
line c = held_is _ _ _ (sym c.held_line.ensures ∙ c.in_ok-line.ensures.ok_part)

pub slice_bounds-last_line-count : goal.slice_bounds-last_line-count
slice_bounds-last_line-count c = (line c).within

pub slice_bounds-last_line-start : goal.slice_bounds-last_line-start
slice_bounds-last_line-start c = (line c).within

pub returns-in_err-call : goal.returns-in_err-call
unfolding printed_asked printed_input
returns-in_err-call c =
    let l = held_is _ c.args.machine _ (sym c.held_line.ensures ∙ c.in_ok-line.ensures.ok_part) in
    rw (handed_on _ _ c.from_residual-in_err-call.ensures.1) (l.is ∙ rw (← c.last_line.ensures, c.in_err-call.was))

pub returns : goal.returns
unfolding printed_asked printed_input
returns c =
    let l = held_is _ c.args.machine _ (sym c.held_line.ensures ∙ c.in_ok-line.ensures.ok_part) in
    rw c.holding.ensures (l.is ∙ rw (← c.last_line.ensures, c.in_ok-call.was))
