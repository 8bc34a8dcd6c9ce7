use Rattle.std.proofs.Common.{rules, ◌≡◌, ◌∙◌, sym, ap, Some, None, cond, true}
use Rattle.tasks.specs.Table.{zero_task}
use Rattle.tasks.specs.Flags.{flags_of}
use Rattle.tasks.specs.Outcome.{is_done}
use Rattle.machine.specs.Calls.{step, slot_with}
use Rattle.machine.specs.declared.answer.Answer.{Answer}
use Rattle.auditing.specs.Line.{release_at, finish_at}
use Rattle.auditing.specs.Parts.{after_calls}
use Rattle.auditing.proofs.LineByParts.{releases_of, finishes_of, sound_before, release_refused, finish_refused, running_refused, against_the_rules, by_the_rules}
use Rattle.auditing.proofs.judging.take_line.Goals as goal
use Rattle.auditing.proofs.judging.take_line.Goals.{After-take_calls-released, After-take_calls-finished, After-slot_with-answer}

-- what the closures answer is what the machine answers to the calls of the definition
releases :
    (c : After-take_calls-released)
    → after_calls c.args.machine.now (releases_of c.args.machine.now c.args.line) ≡ cond c.take_calls-released.result (Some c.take_calls-released.new.machine) None
unfolding release_at zero_task step
releases c = c.take_calls-released.ensures (release_at c.args.machine.now.table) (λ m i answer h p. search rules)

finishes :
    (c : After-take_calls-finished)
    → after_calls c.take_calls-released.new.machine (finishes_of c.args.line)
    ≡ cond c.take_calls-finished.result (Some c.take_calls-finished.new.machine) None
unfolding finish_at step
finishes c = c.take_calls-finished.ensures finish_at (λ m i answer h p. search rules)

-- all releases were taken, and all finishes
released :
    (c : After-take_calls-released) → c.take_calls-released.result ≡ true
    → Some c.take_calls-released.new.machine ≡ after_calls c.args.machine.now (releases_of c.args.machine.now c.args.line)
released c e = sym (rw e at (releases c))

finished :
    (c : After-take_calls-finished) → c.take_calls-finished.result ≡ true
    → Some c.take_calls-finished.new.machine ≡ after_calls c.take_calls-released.new.machine (finishes_of c.args.line)
finished c e = sym (rw e at (finishes c))

-- the running's answer is the definition's
running : (c : After-slot_with-answer) → c.slot_with-answer.result ≡ slot_with c.take_calls-finished.new.machine (flags_of c.args.line.ran)
running c = c.slot_with-answer.ensures ∙ ap (slot_with _) c.flags_of-ran.ensures

pub returns-then-not-released : goal.returns-then-not-released
returns-then-not-released c =
    let at = goal.at.returns-then-not-released c in
    sym (release_refused _ _ (sym (rw c.if-not-released.true at (releases at.After-take_calls-released))))

pub returns-then-not-finished : goal.returns-then-not-finished
returns-then-not-finished c =
    let at = goal.at.returns-then-not-finished c in
    sym
    (finish_refused _ _ _ (released at.After-take_calls-released c.if-not-released.false)
    (sym (rw c.if-not-finished.true at (finishes at.After-take_calls-finished))))

pub returns-in_default : goal.returns-in_default
returns-in_default c =
    let at = goal.at.returns-in_default c in
    let ran = at.After-slot_with-answer in
    sym
    (running_refused _ _ _ (released at.After-take_calls-released c.if-not-released.false) _
    (finished at.After-take_calls-finished c.if-not-finished.false) _
    (ap (λ (a : Answer). a.outcome) (sym (running ran)) ∙ c.in_default.is))

pub legal_run-requires : goal.legal_run-requires
unfolding is_done
legal_run-requires c =
    let ran = (goal.at.legal_run-requires c).After-slot_with-answer in
    sound_before _ _ (ap (λ (a : Answer). is_done a.outcome) (sym (running ran)) ∙ ap is_done c.in-Ok.is)

pub returns-then-not-legal_run : goal.returns-then-not-legal_run
returns-then-not-legal_run c =
    let at = goal.at.returns-then-not-legal_run c in
    let ran = at.After-slot_with-answer in
    sym
    (against_the_rules _ _ _ (released at.After-take_calls-released c.if-not-released.false) _
    (finished at.After-take_calls-finished c.if-not-finished.false)
    (ap (λ (a : Answer). a.outcome) (sym (running ran)) ∙ c.in-Ok.is)
    (rw (← c.flags_of-ran.ensures) (sym c.if-not-legal_run.ensures)))

pub returns : goal.returns
returns c =
    let at = goal.at.returns c in
    let ran = at.After-slot_with-answer in
    rw (running ran)
    (sym
    (by_the_rules _ _ _ (released at.After-take_calls-released c.if-not-released.false) _
    (finished at.After-take_calls-finished c.if-not-finished.false)
    (ap (λ (a : Answer). a.outcome) (sym (running ran)) ∙ c.in-Ok.is)
    (rw (← c.flags_of-ran.ensures) (sym c.if-not-legal_run.ensures))))
