-- The runners from n on have kept their cores.
use Rattle.cores.proofs.Keeping.{Keeping}
use Rattle.cores.proofs.assign.keep.Given as goal

abbrev pub invariant-loop-n : goal.invariant-loop-n
invariant-loop-n l = Keeping l.recorded l.available l.runners l.cores l.used l.n
