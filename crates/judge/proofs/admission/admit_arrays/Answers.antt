-- `admit_arrays` meets its contract: the lists have the numbers of the table that they are.
use Rattle.std.proofs.Common.{◌≡◌, ◌∙◌, sym, Ok}
use Rattle.tasks.specs.Check.{checked}
use Rattle.tasks.specs.Numbers.{tasks_from, table_from}
use Rattle.tasks.specs.TaskSet.{first_tasks, tasks_of}
use Rattle.tasks.proofs.Checked.{passes}
use Rattle.edzl.specs.Slack.{slack_admits}
use Rattle.judge.specs.SlackJudge.{slack_judged_after, slack_judged, admission_values_of, admission}
use Rattle.judge.proofs.Listed.{ranges, numbers_listed, admits_same_as}
use Rattle.judge.proofs.admission.admit_arrays.Goals as goal

pub invariant_of-numbers : goal.invariant_of-numbers
unfolding table_from
invariant_of-numbers c =
    let p = passes _ _ (sym c.check_arrays.ensures ∙ c.in_ok-check_arrays.was) in
    record { few = p.count_fits; in_range = ranges _ _ _ _ _ (numbers_listed _ _ _ c.args.count p.count_fits) p.tasks_fit }

pub returns : goal.returns
unfolding admission slack_judged slack_judged_after admission_values_of tasks_of table_from
returns c =
    let a = c.args in
    let checks : checked (table_from a.periods.now a.budgets.now a.deadlines.now a.count) a.cores ≡ Ok tt =
    sym c.check_arrays.ensures ∙ c.in_ok-check_arrays.was in
    let few = (passes _ _ checks).count_fits in
    let admits : c.admits.result ≡ slack_admits (first_tasks (tasks_from a.periods.now a.budgets.now a.deadlines.now) a.count) a.cores
    = c.admits.ensures ∙ admits_same_as _ _ _ _ _ (numbers_listed a.periods.now a.budgets.now a.deadlines.now a.count few) a.cores in
    rw (checks, admits)
