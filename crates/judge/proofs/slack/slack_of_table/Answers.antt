-- `slack_of_table` meets its contract: the rounds on the lists are those of the table's tasks.
use Rattle.std.proofs.Common.{ℕ, ◌∙◌, ap, arith}
use lib.Dec.{leb}
use lib.ListN.{get_or-replicate}
use Rattle.tasks.specs.TaskSet.{tasks_of}
use Rattle.edzl.specs.TaskSet.{TaskSet}
use Rattle.edzl.specs.Slack.{Rounds, all_rounds, slack_admits}
use Rattle.judge.specs.Numbers.{set_of}
use Rattle.judge.proofs.Listed.{rounds_same_as, admits_same_as}
use Rattle.judge.proofs.OwnPart.{admits_by_sums}
use Rattle.judge.proofs.slack.slack_of_table.Goals as goal

pub window_sums-requires : goal.window_sums-requires
window_sums-requires c = λ k h. get_or-replicate 32 k 0 0 (omega (arith, c.of-numbers.result.few))

pub returns : goal.returns
unfolding tasks_of
returns c =
    let m = c.args.cores in
    let same = c.numbers_of-own.ensures in
    record {
      rounds =
          c.last_round-rounds.ensures.rounds
          ∙ ap (λ (set : TaskSet). (all_rounds set m).made) c.of-numbers.ensures
          ∙ ap (λ (r : Rounds). r.made) (rounds_same_as _ _ _ _ _ same m);
      admitted =
          ap (λ (reaching : ℕ). leb reaching m) c.count_by_sums-reaching.ensures
          ∙ admits_by_sums (set_of c.of-numbers.result) m c.last_round-rounds.new.sums c.last_round-rounds.ensures.last_sums
          ∙ ap (λ (set : TaskSet). slack_admits set m) c.of-numbers.ensures
          ∙ admits_same_as _ _ _ _ _ same m;
    }
