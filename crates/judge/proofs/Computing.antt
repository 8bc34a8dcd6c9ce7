-- What a computed test looks through of both tests' definitions, in one name: a proof `unfolding computing_verdicts` computes verdicts.
use mathlib.Core.Bool.{Bool, true}
use Rattle.edzl.proofs.SlackExamplesHold.{computing_tests}
use Rattle.judge.specs.Judge.{refused_values, judged_after, judged}
use Rattle.judge.specs.SlackJudge.{refused_by_slack, slack_judged_after, slack_judged, admission}

unfoldable pub computing_verdicts : Bool
unfolding computing_tests refused_values judged_after judged refused_by_slack slack_judged_after slack_judged admission
computing_verdicts = true
