-- `admit` meets its contract: the lists have the numbers of the table's tasks.
use Rattle.std.proofs.Common.{◌≡◌, ◌∙◌, sym, ap, Ok}
use Rattle.tasks.specs.Check.{checked}
use Rattle.tasks.specs.TaskSet.{first_tasks, tasks_of}
use Rattle.edzl.specs.TaskSet.{TaskSet}
use Rattle.edzl.specs.Slack.{slack_admits}
use Rattle.judge.specs.SlackJudge.{slack_judged_after, slack_judged, admission_values_of, admission}
use Rattle.judge.proofs.Listed.{admits_same_as}
use Rattle.judge.proofs.admission.admit.Goals as goal

pub returns : goal.returns
unfolding admission slack_judged slack_judged_after admission_values_of tasks_of
returns c =
    let checks : checked c.args.table c.args.cores ≡ Ok tt = sym c.check.ensures ∙ c.in_ok-check.was in
    let admits : c.admits.result ≡ slack_admits (first_tasks c.args.table.tasks c.args.table.count) c.args.cores
    = c.admits.ensures
    ∙ ap (λ (set : TaskSet). slack_admits set c.args.cores) c.of.ensures
    ∙ admits_same_as _ _ _ _ _ c.numbers_of-numbers.ensures c.args.cores in
    rw (checks, admits)
