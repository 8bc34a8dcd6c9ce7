-- The examples all hold: antt computes every entry of the list.
use mathlib.Core.Path.{◌≡◌, refl}
use mathlib.Core.Bool.{true}
use Rattle.laws.specs.Examples.{same_numbers, all_true}
use Rattle.cores.specs.Examples.{assignment_is, examples}
use Rattle.cores.proofs.Computing.{computing_cores}

pub examples_hold : all_true examples ≡ true
unfolding computing_cores same_numbers assignment_is examples all_true
examples_hold = refl
