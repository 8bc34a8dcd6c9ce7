-- The line ends where its byte 10 was found.
use Rattle.std.proofs.Common.{arith}
use lib.Seq.{length-take-le}
use Rattle.text.specs.Lines.{line_end}
use Rattle.text.proofs.Split.{cut, hasnt_of}
use Rattle.probe.proofs.input.ended_line.Goals as goal

pub returns-then-text-length : goal.returns-then-text-length
returns-then-text-length c = record { none = hasnt_of line_end _ (rw c.find-length.ensures at c.if-text-length.true) }

pub returns : goal.returns
returns c =
    let line = cut line_end _ _ c.find-length.ensures c.if-text-length.false in
    record { ended = line.is; is = line.front; within = omega (arith, length-take-le c.find-length.result c.args.text.now (omega arith)) }
