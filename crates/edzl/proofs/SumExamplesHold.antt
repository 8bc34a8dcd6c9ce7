-- The examples of large sums all hold: antt computes every entry of the list.
use mathlib.Core.Path.{◌≡◌, refl}
use mathlib.Core.Bool.{true}
use Rattle.laws.specs.Examples.{all_true}
use Rattle.edzl.specs.SlackExamples.{plain_task, set_of, plain_slack_is}
use Rattle.edzl.specs.SumExamples.{first_sum_is, count_is, long_with, one_below, one_above, sum_examples}
use Rattle.edzl.proofs.SlackExamplesHold.{computing_tests}

pub sum_examples_hold : all_true sum_examples ≡ true
unfolding computing_tests all_true plain_task set_of plain_slack_is first_sum_is count_is long_with one_below one_above sum_examples
sum_examples_hold = refl
