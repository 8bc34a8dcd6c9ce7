-- The runners so far have their cores.
use Rattle.cores.proofs.Taking.{Taking}
use Rattle.cores.proofs.assign.assign.Given as goal

abbrev pub invariant-loop-i : goal.invariant-loop-i
invariant-loop-i l = Taking l.available l.runners l.initial.cores l.cores l.used l.i-index
