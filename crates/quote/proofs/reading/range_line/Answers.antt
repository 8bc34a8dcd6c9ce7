-- `range_line` meets its contract: by the line's end and its five values.
use Rattle.std.proofs.Common.{sym}
use Rattle.quote.proofs.RangeLine.{unended, not_five, line_read}
use Rattle.quote.proofs.reading.range_line.Goals as goal

pub returns-then-text-length : goal.returns-then-text-length
returns-then-text-length c = unended _ _ c.find-length.ensures c.if-text-length.true

pub returns-then-not-fill_from_line : goal.returns-then-not-fill_from_line
returns-then-not-fill_from_line c =
    not_five _ _ c.find-length.ensures c.if-text-length.false (sym c.if-not-fill_from_line.ensures.is)

pub returns : goal.returns
returns c = line_read _ _ c.find-length.ensures c.if-text-length.false _ c.if-not-fill_from_line.ensures
