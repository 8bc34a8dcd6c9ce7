-- Each way out settles the reading, by what is left of the text where it is taken.
use Rattle.std.proofs.Common.{sym, ◌∙◌, ◌+◌, ◌<◌, length, arith}
use borrow.Author.Tests.{eqb-true, eqb-false}
use Rattle.laws.proofs.Parts.{from_length}
use Rattle.reader.proofs.ValueLine.{line_read, line_broken}
use Rattle.reader.proofs.ValueLines.{begin, no_task, finish, too_many, bad_line, bad_task, next}
use Rattle.reader.proofs.numbers.value_lines.Goals as goal

pub loop-rest-init : goal.loop-rest-init
loop-rest-init c = let z = c.requires.zeros in record { few = omega arith; on = begin _ _ _ _ _ z.0 z.1 z.2 }

pub returns-then-count-ge-MAX_TASKS-clause-lines_read : goal.returns-then-count-ge-MAX_TASKS-clause-lines_read
returns-then-count-ge-MAX_TASKS-clause-lines_read c =
    let some : 0 < length c.loop-rest.rest.now = omega (arith, eqb-false _ _ (sym c.loop-rest-test.ensures)) in
    rw c.at.ensures (too_many _ _ _ _ _ _ _ c.loop-rest.invariant.on some c.if-count-ge-MAX_TASKS.true)

pub returns-in_default-clause-lines_read : goal.returns-in_default-clause-lines_read
returns-in_default-clause-lines_read c =
    let some : 0 < length c.loop-rest.rest.now = omega (arith, eqb-false _ _ (sym c.loop-rest-test.ensures)) in
    rw c.at-in_default.ensures
    (bad_line _ _ _ _ _ _ _ c.loop-rest.invariant.on some c.if-count-ge-MAX_TASKS.false (line_broken _ (sym c.value_line.ensures ∙ c.in_default.is)))

pub returns-then-not-in_range-clause-lines_read : goal.returns-then-not-in_range-clause-lines_read
returns-then-not-in_range-clause-lines_read c =
    let some : 0 < length c.loop-rest.rest.now = omega (arith, eqb-false _ _ (sym c.loop-rest-test.ensures)) in
    let line = line_read _ _ c.requires.named _ (sym c.value_line.ensures ∙ c.in-Some.is) in
    rw c.at-then-not-in_range.ensures
    (bad_task _ _ _ _ _ _ _ c.loop-rest.invariant.on some c.if-count-ge-MAX_TASKS.false _ line (rw c.task_of-task.ensures at (sym c.if-not-in_range.ensures)))

pub overflow_add-rest : goal.overflow_add-rest
overflow_add-rest c =
    let line = line_read _ _ c.requires.named _ (sym c.value_line.ensures ∙ c.in-Some.is) in
    omega (arith, line.within, c.well_formed)

pub slice_bounds-rest-count : goal.slice_bounds-rest-count
slice_bounds-rest-count c = let line = line_read _ _ c.requires.named _ (sym c.value_line.ensures ∙ c.in-Some.is) in omega (arith, line.within)

pub slice_bounds-rest-start : goal.slice_bounds-rest-start
slice_bounds-rest-start c = let line = line_read _ _ c.requires.named _ (sym c.value_line.ensures ∙ c.in-Some.is) in omega (arith, line.within)

pub loop-rest-preserved : goal.loop-rest-preserved
loop-rest-preserved c =
    let some : 0 < length c.loop-rest.rest.now = omega (arith, eqb-false _ _ (sym c.loop-rest-test.ensures)) in
    let line = line_read _ _ c.requires.named _ (sym c.value_line.ensures ∙ c.in-Some.is) in
    record {
      few = omega (arith, from_length c.loop-rest.rest.now (c.in-Some.line.length + 1));
      on =
          rw c.task_of-task.ensures
          (next _ _ _ _ _ _ _ c.loop-rest.invariant.on some c.if-count-ge-MAX_TASKS.false _ line (rw c.task_of-task.ensures at (sym c.if-not-in_range.ensures)));
    }

pub returns-then-count-eq0-clause-lines_read : goal.returns-then-count-eq0-clause-lines_read
returns-then-count-eq0-clause-lines_read c =
    rw c.at-then-count-eq0.ensures
    (no_task _ _ _ _ _ _ _ c.loop-rest.invariant.on (omega (arith, eqb-true _ _ (sym c.loop-rest-test.ensures))) c.if-count-eq0.true)

pub returns-clause-lines_read : goal.returns-clause-lines_read
returns-clause-lines_read c = finish _ _ _ _ _ _ _ c.loop-rest.invariant.on (omega (arith, eqb-true _ _ (sym c.loop-rest-test.ensures))) c.if-count-eq0.false
