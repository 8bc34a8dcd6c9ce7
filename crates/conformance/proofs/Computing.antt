-- What a computed run looks through, in one name: a proof `unfolding computing_runs` computes what Runs.antt and Cases.antt speak of.
use mathlib.Core.Bool.{Bool, true}
use Rattle.laws.specs.Examples.{same_numbers, all_true}
use Rattle.machine.specs.Play.{machine_after}
use Rattle.machine.proofs.Computing.{computing}
use Rattle.conformance.specs.Runs.{answers, releases_from, all_released, session_calls, line, slot_lines, same_lines, refusal_before, refusals, runner_counts, run_is, ignored_is, at_place0, empty_refusals}
use Rattle.conformance.specs.Cases.{holds, example}

unfoldable pub computing_runs : Bool
unfolding
    computing machine_after same_numbers all_true
    answers releases_from all_released session_calls line slot_lines same_lines
    refusal_before refusals runner_counts run_is ignored_is at_place0 empty_refusals
    holds example
computing_runs = true
