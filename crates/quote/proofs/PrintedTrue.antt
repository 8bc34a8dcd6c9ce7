-- Each line that is printed is true of every table within the ranges: the theorem `printed_true`.
use Rattle.std.proofs.Common.{Ok}
use Rattle.ranges.specs.Promise.{QuotePromise}
use Rattle.ranges.proofs.QuoteLaws.{answer_of}
use Rattle.ranges.proofs.QuoteTrue.{quote_true}
use Rattle.quote.specs.Printed.{quote_line}
use Rattle.quote.specs.Promise.{PrintedTrue}
use Rattle.quote.proofs.ReadLaws.{read_passes}

pub printed_true : PrintedTrue
unfolding PrintedTrue QuotePromise quote_line
printed_true s r m e some fits =
    let a = answer_of r m (read_passes s r m e some fits) in
    record { answer = a.answer; line_is = rw a.values; is_true = quote_true (Ok a.answer) r m a.values }
