-- The invariant: the rest of the part is still to be fed.
use Rattle.std.proofs.Common.{◌≡◌, drop}
use Rattle.auditing.specs.Auditor.{fed}
use Rattle.auditing.proofs.auditor.Auditor.feed.Given as goal

abbrev pub invariant-loop-byte : goal.invariant-loop-byte
invariant-loop-byte l = fed l.initial.auditor l.part ≡ fed l.auditor (drop l.byte-index l.part)
