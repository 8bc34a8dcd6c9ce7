-- Each place where the reading stops settles what the first line says.
use Rattle.std.proofs.Common.{sym, ◌∙◌}
use Rattle.laws.proofs.Parts.{from_drop}
use Rattle.probe.proofs.InputLaws.{held_unended, none_read, no_held_word, no_held_task, held_read}
use Rattle.probe.proofs.input.held_line.Goals as goal

pub returns-in_err-line : goal.returns-in_err-line
returns-in_err-line c = c.from_residual.ensures ∙ held_unended _ c.in_err-line.ensures

pub returns-then-same : goal.returns-then-same
returns-then-same c = none_read _ _ c.in_ok-line.ensures (sym c.if-same.ensures)

pub returns-then-not-begins_with : goal.returns-then-not-begins_with
returns-then-not-begins_with c = no_held_word _ _ c.in_ok-line.ensures (sym c.if-same.ensures) (sym c.if-not-begins_with.ensures)

pub returns-in_err-task : goal.returns-in_err-task
returns-in_err-task c =
    c.from_residual-in_err-task.ensures
    ∙ no_held_task _ _ c.in_ok-line.ensures (sym c.if-same.ensures) (sym c.if-not-begins_with.ensures) _ (from_drop _ 5)
    (sym c.task_fields.ensures ∙ c.in_err-task.was)

pub returns : goal.returns
returns c =
    held_read _ _ c.in_ok-line.ensures (sym c.if-same.ensures) (sym c.if-not-begins_with.ensures) _ (from_drop _ 5) _
    (sym c.task_fields.ensures ∙ c.in_ok-task.was)
