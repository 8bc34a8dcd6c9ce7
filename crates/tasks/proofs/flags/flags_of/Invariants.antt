-- The invariant: the flags so far are the sum's first, and the rest has the others.
use Rattle.tasks.proofs.FlagsLaws.{Named}
use Rattle.tasks.proofs.flags.flags_of.Given as goal

abbrev pub invariant-loop-i : goal.invariant-loop-i
invariant-loop-i l = Named l.sum l.named l.rest l.i
