-- The examples of the rounds all hold: antt computes every entry of the list, in `plain_slack_examples_hold`. Others cite `computing_tests`, what such a test
-- looks through of both tests, in one name.
use mathlib.Core.Path.{◌≡◌, refl}
use mathlib.Core.Bool.{Bool, true}
use Rattle.laws.specs.Lists.{replaced}
use Rattle.laws.specs.Examples.{same_numbers, all_true}
use Rattle.laws.specs.Sums.{sum_to, bit, others}
use Rattle.edzl.specs.Window.{interference, spare, no_slack, window_sum, may_turn_urgent, count_urgent, admitted}
use Rattle.edzl.specs.Slack.{per_task, of_task, round_sums, reaches, new_slack, no_round, next_round, none_changes, rounds_from, all_rounds, count_reaching, slack_admits}
use Rattle.edzl.specs.SlackExamples.{plain_task, set_of, plain_slack_is, window_refuses, last_is, plain_four_tasks, cut_tasks, plain_slack_examples}

unfoldable pub computing_tests : Bool
unfolding
    replaced sum_to bit interference spare others no_slack window_sum may_turn_urgent count_urgent admitted
    per_task of_task round_sums reaches new_slack no_round next_round none_changes rounds_from all_rounds count_reaching slack_admits
computing_tests = true

pub plain_slack_examples_hold : all_true plain_slack_examples ≡ true
unfolding computing_tests same_numbers all_true plain_task set_of plain_slack_is window_refuses last_is plain_four_tasks cut_tasks plain_slack_examples
plain_slack_examples_hold = refl
