-- The examples of cheaper tables, and of longer deadlines, all hold: antt computes every entry of the list.
use mathlib.Core.Path.{◌≡◌, refl}
use mathlib.Core.Bool.{true}
use Rattle.laws.specs.Examples.{same_numbers, all_true}
use Rattle.tasks.specs.Numbers.{periods_of}
use Rattle.tasks.specs.Trimmed.{with_budget, with_period, list_of, without_task, chosen, chosen_table}
use Rattle.tasks.proofs.Computing.{computing_tables}
use Rattle.judge.specs.SlackExamples.{slack_on, is_refusal, four_tasks}
use Rattle.judge.specs.CheaperExamples.{window_on, judging_refused, periods_are, example_table, room_by_slack, cheaper_examples}
use Rattle.judge.proofs.Computing.{computing_verdicts}

pub cheaper_examples_hold : all_true cheaper_examples ≡ true
unfolding
    computing_verdicts computing_tables all_true same_numbers periods_of
    with_budget with_period list_of without_task chosen chosen_table
    slack_on is_refusal four_tasks window_on judging_refused periods_are example_table room_by_slack cheaper_examples
cheaper_examples_hold = refl
