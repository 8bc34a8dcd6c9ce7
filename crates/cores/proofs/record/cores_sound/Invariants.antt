-- The cores from n on are sound, and have their flags.
use Rattle.cores.proofs.Seen.{Seen}
use Rattle.cores.proofs.record.cores_sound.Given as goal

abbrev pub invariant-loop-n : goal.invariant-loop-n
invariant-loop-n l = Seen l.recorded l.seen l.n
