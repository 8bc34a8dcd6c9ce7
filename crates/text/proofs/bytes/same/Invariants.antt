-- The invariant: whether the texts are the same is settled by the bytes so far and those that are left.
use Rattle.std.proofs.Common.{◌≡◌, ◌&&◌, drop}
use Rattle.text.specs.Words.{same_bytes}
use Rattle.text.proofs.bytes.same.Given as goal

abbrev pub invariant-loop-i : goal.invariant-loop-i
invariant-loop-i l = same_bytes l.a l.b ≡ (l.equal && same_bytes (drop l.i l.a) (drop l.i l.b))
