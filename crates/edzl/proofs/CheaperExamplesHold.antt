-- The example of a lower budget holds: antt computes every entry of the list.
use mathlib.Core.Path.{◌≡◌, refl}
use mathlib.Core.Bool.{true}
use Rattle.laws.specs.Examples.{all_true}
use Rattle.edzl.specs.SlackExamples.{plain_task, set_of}
use Rattle.edzl.specs.SumExamples.{count_is}
use Rattle.edzl.specs.CheaperExamples.{third_is, with_third, plain_cheaper_examples}
use Rattle.edzl.proofs.SlackExamplesHold.{computing_tests}

pub plain_cheaper_examples_hold : all_true plain_cheaper_examples ≡ true
unfolding computing_tests all_true plain_task set_of count_is third_is with_third plain_cheaper_examples
plain_cheaper_examples_hold = refl
