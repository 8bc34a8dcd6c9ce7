-- The digits are those of the definition.
use Rattle.std.proofs.Common.{rules, ◌∙◌}
use Rattle.text.proofs.DigitLaws.{same_text}
use Rattle.text.proofs.output.put_number.Goals as goal

pub returns : goal.returns
returns c = let text = c.decimal-n.ensures.digits ∙ same_text _ _ (search rules) c.decimal-n.ensures.len in rw text at c.put.ensures
