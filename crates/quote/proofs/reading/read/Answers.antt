-- `read` meets its contract: by the length of the text and its names line.
use Rattle.std.proofs.Common.{sym, ◌∙◌, arith}
use Rattle.quote.proofs.NamesLine.{too_long, names_unended, not_names, names_read}
use Rattle.quote.proofs.reading.read.Goals as goal

pub returns-then-text-gt-MAX_TEXT_LENGTH : goal.returns-then-text-gt-MAX_TEXT_LENGTH
returns-then-text-gt-MAX_TEXT_LENGTH c = rw c.at.ensures (too_long _ (omega arith))

pub returns-then-text-length : goal.returns-then-text-length
returns-then-text-length c =
    rw c.at-then-text-length.ensures (names_unended _ c.if-text-gt-MAX_TEXT_LENGTH.false _ c.find-length.ensures c.if-text-length.true)

pub returns-then-not-same : goal.returns-then-not-same
returns-then-not-same c =
    rw c.at-then-not-same.ensures
    (not_names _ c.if-text-gt-MAX_TEXT_LENGTH.false _ c.find-length.ensures c.if-text-length.false (sym c.if-not-same.ensures))

pub returns : goal.returns
returns c =
    c.range_lines.ensures
    ∙ names_read _ c.if-text-gt-MAX_TEXT_LENGTH.false _ c.find-length.ensures c.if-text-length.false (sym c.if-not-same.ensures)
