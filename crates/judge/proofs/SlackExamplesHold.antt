-- The examples of the slack test on tables all hold: antt computes every entry of the list.
use mathlib.Core.Path.{◌≡◌, refl}
use mathlib.Core.Bool.{true}
use Rattle.laws.specs.Examples.{all_true}
use Rattle.tasks.proofs.Computing.{computing_tables}
use Rattle.judge.specs.SlackExamples.{slack_on, slack_is, is_refusal, refused_is, four_tasks, slack_examples}
use Rattle.judge.proofs.Computing.{computing_verdicts}

pub slack_examples_hold : all_true slack_examples ≡ true
unfolding computing_verdicts computing_tables all_true slack_on slack_is is_refusal refused_is four_tasks slack_examples
slack_examples_hold = refl
