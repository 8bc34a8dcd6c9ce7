-- The invariant: the sum is the mask of the flags that were passed, which are those from i on.
use Rattle.tasks.proofs.MaskLaws.{Masked}
use Rattle.tasks.proofs.flags.mask.Given as goal

abbrev pub invariant-loop-i : goal.invariant-loop-i
invariant-loop-i l = Masked l.named l.sum l.i
