use Rattle.std.proofs.Common.{arith, ◌≡◌, ◌+◌, ◌∙◌, ap}
use Rattle.job.specs.Job.{fresh_job}
use Rattle.machine.specs.Machine.{job_at}
use Rattle.auditing.specs.Turn.{turns_to}
use Rattle.auditing.specs.declared.running.Turns.{Turns}
use Rattle.auditing.proofs.TurnsSeen.{table_fits, turns_none, opened_or_closed, turns_ran, turns_idle, few_open, few_runners}
use Rattle.auditing.proofs.running.turns_of.Goals as goal
use Rattle.auditing.proofs.running.turns_of.Goals.{Joined-turn-lt-NEVER, then-turn-lt-NEVER, else-turn-lt-NEVER, then-ran-i, else-ran-i}

pub loop-i-init : goal.loop-i-init
loop-i-init c = turns_none _ _

pub overflow_add-turns : goal.overflow_add-turns
overflow_add-turns c = rw c.loop-i.invariant (omega (arith, table_fits _ c.requires, few_open c.args.machine c.args.ran c.loop-i.i))

-- whether the task at hand is open decides the number of open tasks, and changes nothing else
opened : (c : Joined-turn-lt-NEVER) → c.if-turn-lt-NEVER.turns.open_tasks ≡ (turns_to c.args.machine c.args.ran (c.loop-i.i + 1)).open_tasks
unfolding fresh_job job_at
opened c =
    let with = opened_or_closed _ c.args.ran _ c.requires c.loop-i-test.true _ c.if-turn-lt-NEVER.turns.open_tasks c.turn-turn.ensures in
    let so_far = ap (λ (t : Turns). t.open_tasks) c.loop-i.invariant in
    elim c.if-turn-lt-NEVER.branch [
      | then-turn-lt-NEVER w ↦ with (λ h. omega (arith, so_far, ap (λ (t : Turns). t.open_tasks) w.turns-is)) (λ h. absurd (omega arith))
      | else-turn-lt-NEVER w ↦ with (λ h. absurd (omega arith)) (λ h. omega (arith, so_far, ap (λ (t : Turns). t.open_tasks) w.turns-is))
    ]

others :
    (c : Joined-turn-lt-NEVER)
    → c.if-turn-lt-NEVER.turns ≡ record (turns_to c.args.machine c.args.ran c.loop-i.i) { open_tasks = c.if-turn-lt-NEVER.turns.open_tasks }
others c =
    elim c.if-turn-lt-NEVER.branch [
      | then-turn-lt-NEVER w ↦ rw (w.turns-is, ← c.loop-i.invariant)
      | else-turn-lt-NEVER w ↦ rw (w.turns-is, ← c.loop-i.invariant)
    ]

pub overflow_add-turns-then-ran-i : goal.overflow_add-turns-then-ran-i
overflow_add-turns-then-ran-i c =
    let here = (goal.at.overflow_add-turns-then-ran-i c).Joined-turn-lt-NEVER in
    rw (others here) (omega (arith, table_fits _ c.requires, few_runners c.args.machine c.args.ran c.loop-i.i))

pub loop-i-preserved : goal.loop-i-preserved
unfolding fresh_job job_at
loop-i-preserved c =
    let here = (goal.at.loop-i-preserved c).Joined-turn-lt-NEVER in
    elim c.if-ran-i.branch [
      | then-ran-i w ↦ w.turns-is ∙ turns_ran _ _ _ _ (opened here) (others here) w.if-ran-i.true _ (rw (← c.turn-turn.ensures) w.max.ensures)
      | else-ran-i w ↦ w.turns-is ∙ turns_idle _ _ _ _ (opened here) (others here) w.if-ran-i.false _ (rw (← c.turn-turn.ensures) w.min.ensures)
    ]
