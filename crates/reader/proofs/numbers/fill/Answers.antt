-- The refusals 1 and 2, and then the value lines over the rest of the text.
use Rattle.std.proofs.Common.{sym, ◌∙◌}
use Rattle.reader.proofs.NamesLine.{names_read}
use Rattle.reader.proofs.NumbersRead.{too_long, bad_names, by_lines, named}
use Rattle.reader.proofs.numbers.fill.Goals as goal

pub returns-then-text-gt-MAX_TEXT_LENGTH-clause-text_read : goal.returns-then-text-gt-MAX_TEXT_LENGTH-clause-text_read
returns-then-text-gt-MAX_TEXT_LENGTH-clause-text_read c = rw c.at.ensures (too_long _ _ c.if-text-gt-MAX_TEXT_LENGTH.true)

pub returns-in_default-clause-text_read : goal.returns-in_default-clause-text_read
returns-in_default-clause-text_read c = rw c.at-in_default.ensures (bad_names _ _ c.if-text-gt-MAX_TEXT_LENGTH.false (sym c.names_line.ensures ∙ c.in_default.is))

pub slice_bounds-value_lines-count : goal.slice_bounds-value_lines-count
slice_bounds-value_lines-count c = (names_read _ _ (sym c.names_line.ensures ∙ c.in-Some.is)).within

pub slice_bounds-value_lines-start : goal.slice_bounds-value_lines-start
slice_bounds-value_lines-start c = (names_read _ _ (sym c.names_line.ensures ∙ c.in-Some.is)).within

pub value_lines-requires-clause-named : goal.value_lines-requires-clause-named
value_lines-requires-clause-named c = named _ _ (sym c.names_line.ensures ∙ c.in-Some.is)

pub returns-clause-text_read : goal.returns-clause-text_read
returns-clause-text_read c = by_lines _ _ c.if-text-gt-MAX_TEXT_LENGTH.false _ (sym c.names_line.ensures ∙ c.in-Some.is) _ c.value_lines.ensures.lines_read
