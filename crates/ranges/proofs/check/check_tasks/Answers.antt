-- `check_tasks` meets its contract: each turn settles the task at i.
use Rattle.std.proofs.Common.{suc, ◌+◌, ◌-◌, ◌≡◌, sym, ◌∙◌, arith}
use Rattle.std.proofs.lemmas.Result.{err_from_is_err_and}
use Rattle.tasks.specs.Outcome.{first_refusal}
use Rattle.ranges.specs.Ranges.{zero_ranged_task}
use Rattle.ranges.specs.Check.{tasks_checked}
use Rattle.ranges.proofs.check.check_tasks.Goals as goal

pub returns-in_err-check : goal.returns-in_err-check
unfolding tasks_checked first_refusal zero_ranged_task
returns-in_err-check c =
    let t = c.args.table.now in
    let more : t.count - c.loop-i.i ≡ suc (t.count - (c.loop-i.i + 1)) = omega arith in
    let p = err_from_is_err_and c.from_residual.result c.from_residual.ensures.1 in
    rw (p.1, p.2, c.loop-i.invariant, more, sym c.check.ensures, c.in_err-check.was)

pub loop-i-preserved : goal.loop-i-preserved
unfolding tasks_checked first_refusal zero_ranged_task
loop-i-preserved c =
    let t = c.args.table.now in
    let more : t.count - c.loop-i.i ≡ suc (t.count - (c.loop-i.i + 1)) = omega arith in
    c.loop-i.invariant ∙ rw (more, sym c.check.ensures, c.in_ok-check.was)

pub returns : goal.returns
unfolding tasks_checked
returns c =
    let all : c.args.table.now.count - c.loop-i.i ≡ 0 = omega arith in
    sym (c.loop-i.invariant ∙ rw all)
