use Rattle.std.proofs.Common.{rules, ◌∙◌, ◌<◌, ◌≤◌, sym, ap, length}
use Rattle.machine.specs.declared.answer.Answer.{Answer}
use Rattle.auditing.proofs.CallsLeft.{left_none, left_idle, left_taken, left_refused, none_left}
use Rattle.auditing.proofs.judging.take_calls.Goals as goal
use Rattle.auditing.proofs.judging.take_calls.Goals.{then-named+in-Ok, else-named}

pub returns-then-value-eq0 : goal.returns-then-value-eq0
returns-then-value-eq0 g c made makes = rw (c.if-value-eq0.true) (none_left made _)

pub returns-in_default : goal.returns-in_default
returns-in_default g c made makes =
    let inside : c.loop-i.i < length c.flags_of.result = search rules in
    let here = makes _ _ _ c.loop-i-test.true c.call-answer.ensures in
    rw (← c.flags_of.ensures)
    (c.loop-i.invariant made makes
    ∙ left_refused made _ _ _ inside c.if-named.true _ (ap (λ (r : Answer). r.outcome) (sym here) ∙ c.in_default.is))

pub loop-i-preserved : goal.loop-i-preserved
loop-i-preserved g c made makes =
    let inside : c.loop-i.i < length c.flags_of.result = search rules in
    elim c.if-named.branch [
      | then-named+in-Ok w ↦
          let here = makes _ _ _ c.loop-i-test.true w.call-answer.ensures in
          rw (w.machine-is, here)
          (c.loop-i.invariant made makes
          ∙ left_taken made _ _ _ inside w.if-named.true (ap (λ (r : Answer). r.outcome) (sym here) ∙ w.in-Ok.is))
      | else-named w ↦ rw w.machine-is (c.loop-i.invariant made makes ∙ left_idle made _ _ _ inside w.if-named.false)
    ]

pub returns : goal.returns
returns g c made makes =
    let past : length c.flags_of.result ≤ c.loop-i.i = search rules in
    rw (← c.flags_of.ensures) (c.loop-i.invariant made makes ∙ left_none made _ _ _ past)
