-- What a computed test looks through of ranges, in one name: a proof `unfolding computing_ranges` computes ranges written out, their refusals and their quotes.
use mathlib.Core.Bool.{Bool, true}
use Rattle.laws.specs.Lists.{replaced}
use Rattle.tasks.specs.Outcome.{first_refusal}
use Rattle.tasks.proofs.Computing.{computing_tables}
use Rattle.judge.proofs.Computing.{computing_verdicts}
use Rattle.ranges.specs.Ranges.{zero_ranged_task, empty_ranges, with_ranged_task, corner_task, corner_table}
use Rattle.ranges.specs.Written.{ranged, fixed, ranges_with, ranges_of}
use Rattle.ranges.specs.Check.{in_order, corners_in_range, task_checked, tasks_checked, cores_checked, ranges_checked}
use Rattle.ranges.specs.Quote.{refused_quote, quote_values_of, quoted_after, quoted}

unfoldable pub computing_ranges : Bool
unfolding
    computing_tables computing_verdicts replaced first_refusal
    zero_ranged_task empty_ranges with_ranged_task corner_task corner_table ranged fixed ranges_with ranges_of
    in_order corners_in_range task_checked tasks_checked cores_checked ranges_checked refused_quote quote_values_of quoted_after quoted
computing_ranges = true
