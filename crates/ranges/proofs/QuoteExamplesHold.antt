-- The worked examples of quotes all hold: antt computes every entry of the list.
use mathlib.Core.Path.{◌≡◌, refl}
use mathlib.Core.Bool.{true}
use Rattle.laws.specs.Examples.{all_true}
use Rattle.judge.specs.SlackExamples.{slack_on, slack_is, is_refusal}
use Rattle.ranges.specs.QuoteExamples.{same_quote, quote_on, quote_is, quote_refused_on, quote_refused_is, third_ranged, handbook_ranges, quote_examples}
use Rattle.ranges.proofs.Computing.{computing_ranges}

pub quote_examples_hold : all_true quote_examples ≡ true
unfolding computing_ranges all_true slack_on slack_is is_refusal same_quote quote_on quote_is quote_refused_on quote_refused_is third_ranged handbook_ranges quote_examples
quote_examples_hold = refl
