-- `range_lines` meets its contract: each way out settles the reading, by what is left of the text there.
use Rattle.std.proofs.Common.{◌∙◌, sym, ◌≤◌, ◌<◌, ◌≡◌, true, false, List, ℕ, length, arith}
use Rattle.std.proofs.lemmas.Result.{err_from_is_err_and}
use borrow.Author.Tests.{eqb-true, eqb-false}
use lib.Dec.{eqb}
use Rattle.quote.proofs.RangeLine.{line_is, line_broken}
use Rattle.quote.proofs.RangeLines.{begin, no_task, finish, too_many, bad_line, bad_task, shorter, next}
use Rattle.quote.proofs.reading.range_lines.Goals as goal

some_left : (s : List ℕ) → false ≡ eqb (length s) 0 → 0 < length s
some_left s e = omega (arith, eqb-false (length s) 0 (sym e))

none_left : (s : List ℕ) → true ≡ eqb (length s) 0 → length s ≤ 0
none_left s e = omega (arith, eqb-true (length s) 0 (sym e))

pub loop-rest-init : goal.loop-rest-init
loop-rest-init c = begin _ _ c.empty-table.ensures

pub returns-then-table-ge-MAX_TASKS : goal.returns-then-table-ge-MAX_TASKS
returns-then-table-ge-MAX_TASKS c =
    rw c.at.ensures (too_many _ _ _ c.loop-rest.invariant (some_left _ c.loop-rest-test.ensures) c.if-table-ge-MAX_TASKS.true)

pub returns-in_default : goal.returns-in_default
returns-in_default c =
    rw c.at-in_default.ensures
    (bad_line _ _ _ c.loop-rest.invariant (some_left _ c.loop-rest-test.ensures) c.if-table-ge-MAX_TASKS.false
    (line_broken _ (sym c.range_line.ensures ∙ c.in_default.is)))

pub returns-in_err-check : goal.returns-in_err-check
returns-in_err-check c =
    let line = line_is _ _ (sym c.range_line.ensures ∙ c.in-Some.is) in
    let p = err_from_is_err_and c.from_residual.result c.from_residual.ensures.1 in
    rw (p.1, p.2)
    (bad_task _ _ _ c.loop-rest.invariant (some_left _ c.loop-rest-test.ensures) c.if-table-ge-MAX_TASKS.false _ line _ (sym c.in_err-check.ensures))

pub slice_bounds-rest-count : goal.slice_bounds-rest-count
slice_bounds-rest-count c = (line_is _ _ (sym c.range_line.ensures ∙ c.in-Some.is)).within

pub slice_bounds-rest-start : goal.slice_bounds-rest-start
slice_bounds-rest-start c = (line_is _ _ (sym c.range_line.ensures ∙ c.in-Some.is)).within

pub loop-rest-smaller : goal.loop-rest-smaller
loop-rest-smaller c =
    let line = line_is _ _ (sym c.range_line.ensures ∙ c.in-Some.is) in
    shorter _ _ _ c.loop-rest.invariant (some_left _ c.loop-rest-test.ensures) c.if-table-ge-MAX_TASKS.false _ line

pub loop-rest-preserved : goal.loop-rest-preserved
loop-rest-preserved c =
    let line = line_is _ _ (sym c.range_line.ensures ∙ c.in-Some.is) in
    rw c.with_task-table.ensures
    (next _ _ _ c.loop-rest.invariant (some_left _ c.loop-rest-test.ensures) c.if-table-ge-MAX_TASKS.false _ line (sym c.in_ok-check.ensures))

pub returns-then-table-eq0 : goal.returns-then-table-eq0
returns-then-table-eq0 c =
    rw c.at-then-table-eq0.ensures (no_task _ _ _ c.loop-rest.invariant (none_left _ c.loop-rest-test.ensures) c.if-table-eq0.true)

pub returns : goal.returns
returns c = finish _ _ _ c.loop-rest.invariant (none_left _ c.loop-rest-test.ensures) c.if-table-eq0.false
