-- Each turn is one of Taking.antt's.
use Rattle.std.proofs.Common.{ℕ, ◌≡◌, List, [], length, drop, sym, ap, ◌∙◌, arith}
use lib.Seq.{drop-length}
use Rattle.cores.specs.Assign.{taken, assignment}
use Rattle.cores.proofs.KeptLaws.{length_kept}
use Rattle.cores.proofs.Taking.{taking_none, taking_has, taking_far, taking_found, found_fits}
use Rattle.cores.proofs.assign.assign.Goals as goal
use Rattle.cores.proofs.assign.assign.Goals.{then-i-lt-MAX_TASKS+then-cores-i-eq0, else-i-lt-MAX_TASKS, else-i-lt-MAX_TASKS-via-then-i-lt-MAX_TASKS+else-cores-i-eq0, else-i-lt-MAX_TASKS-via-else-i-lt-MAX_TASKS}

pub loop-i-init : goal.loop-i-init
loop-i-init c = taking_none _ _ _ _ (rw c.keep.ensures.are (length_kept _ _ _)) c.keep.ensures.flagged

pub overflow_cast-cores : goal.overflow_cast-cores
overflow_cast-cores c =
    omega (arith, found_fits _ _ _ _ _ _ c.loop-i.invariant c.loop-i-test.true c.if-i-lt-MAX_TASKS.true c.if-cores-i-eq0.true _ c.first_unused-core.ensures)

pub bounds-used-core : goal.bounds-used-core
bounds-used-core c =
    omega (arith, found_fits _ _ _ _ _ _ c.loop-i.invariant c.loop-i-test.true c.if-i-lt-MAX_TASKS.true c.if-cores-i-eq0.true _ c.first_unused-core.ensures)

pub loop-i-preserved : goal.loop-i-preserved
loop-i-preserved c =
    let now = c.loop-i.invariant in
    let more = c.loop-i-test.true in
    elim c.if-i-lt-MAX_TASKS.branch [
      | then-i-lt-MAX_TASKS+then-cores-i-eq0 w ↦
          rw (w.cores-is, w.used-is) (taking_found _ _ _ _ _ _ now more w.if-i-lt-MAX_TASKS.true w.if-cores-i-eq0.true _ w.first_unused-core.ensures)
      | else-i-lt-MAX_TASKS w ↦
          rw (w.cores-is, w.used-is)
          (elim w.else-i-lt-MAX_TASKS.branch [
            | else-i-lt-MAX_TASKS-via-then-i-lt-MAX_TASKS+else-cores-i-eq0 w' ↦ taking_has _ _ _ _ _ _ now more w'.if-cores-i-eq0.false
            | else-i-lt-MAX_TASKS-via-else-i-lt-MAX_TASKS w' ↦ taking_far _ _ _ _ _ _ now more w'.if-i-lt-MAX_TASKS.false
          ])
    ]

pub returns : goal.returns
unfolding assignment taken
returns c =
    let a = c.args in
    let runners = a.runners.now in
    let e : c.loop-i.i-index ≡ length runners = omega arith in
    let none : drop c.loop-i.i-index runners ≡ [] = rw e (drop-length runners) in
    sym (ap (taken a.available runners) (sym c.keep.ensures.are) ∙ c.loop-i.invariant.left ∙ ap (λ (more : List ℕ). taken a.available more c.loop-i.cores) none)
