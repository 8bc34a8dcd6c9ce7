-- No number has a space in it, so a field with one is none.
use Rattle.std.proofs.Common.{sym, ◌∙◌}
use Rattle.text.proofs.NumberLaws.{broken_field, longer_field, whole_field}
use Rattle.text.proofs.number.number_of.Goals as goal

pub returns-in_err-number : goal.returns-in_err-number
returns-in_err-number c = c.from_residual.ensures ∙ broken_field _ _ _ (sym c.number_up_to.ensures ∙ c.in_err-number.was)

pub returns-then-length-field : goal.returns-then-length-field
returns-then-length-field c = longer_field _ _ _ _ (sym c.number_up_to.ensures ∙ c.in_ok-number.was) c.if-length-field.true

pub returns : goal.returns
returns c = whole_field _ _ _ _ (sym c.number_up_to.ensures ∙ c.in_ok-number.was) c.if-length-field.false
