-- A field that is no number, the last field and a field too many each settle the answer.
use Rattle.std.proofs.Common.{sym, ◌∙◌, arith}
use Rattle.text.proofs.FilledFromLine.{so_far_more, no_number, last_field, fields_left}
use Rattle.text.proofs.fields.fill_from_line.Goals as goal

pub returns-in_default : goal.returns-in_default
returns-in_default c = no_number _ _ _ _ _ _ _ c.loop-i.invariant (omega arith) (sym c.number_up_to.ensures ∙ c.in_default.is)

pub returns-then-rest-length : goal.returns-then-rest-length
returns-then-rest-length c =
    last_field _ _ _ _ _ _ _ c.loop-i.invariant (omega arith) _ (sym c.number_up_to.ensures ∙ c.in-Some.is) c.if-rest-length.true

pub loop-i-preserved : goal.loop-i-preserved
loop-i-preserved c =
    so_far_more _ _ _ _ _ _ _ c.loop-i.invariant (omega arith) _ (sym c.number_up_to.ensures ∙ c.in-Some.is) c.if-rest-length.false

pub returns : goal.returns
returns c = fields_left _ _ _ _ _ _ _ c.loop-i.invariant (omega arith)
