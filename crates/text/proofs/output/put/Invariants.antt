-- The invariant: the first bytes of the text were put.
use Rattle.std.proofs.Common.{take}
use Rattle.text.specs.Output.{PutAt}
use Rattle.text.proofs.output.put.Given as goal

abbrev pub invariant-loop-byte : goal.invariant-loop-byte
invariant-loop-byte l = PutAt l.fn.output l.fn.used (take l.byte-index l.text) l.output l.at
