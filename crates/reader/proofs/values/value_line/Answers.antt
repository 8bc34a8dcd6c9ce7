-- Each value that is none settles what the line is; so do three values.
use Rattle.std.proofs.Common.{sym, ◌∙◌, arith}
use Rattle.reader.proofs.ValueLine.{value_read, no_first, no_second, no_third, all_three, within, fits}
use Rattle.reader.proofs.values.value_line.Goals as goal

pub returns-in_err-first : goal.returns-in_err-first
returns-in_err-first c = c.from_residual.ensures ∙ no_first _ (sym c.value_up_to.ensures ∙ c.in_err-first.was)

pub overflow_add-rest : goal.overflow_add-rest
overflow_add-rest c = let a = value_read _ _ _ (sym c.value_up_to.ensures ∙ c.in_ok-first.was) in omega (arith, a.within, c.well_formed)

pub slice_bounds-rest-count : goal.slice_bounds-rest-count
slice_bounds-rest-count c = let a = value_read _ _ _ (sym c.value_up_to.ensures ∙ c.in_ok-first.was) in omega (arith, a.within)

pub slice_bounds-rest-start : goal.slice_bounds-rest-start
slice_bounds-rest-start c = let a = value_read _ _ _ (sym c.value_up_to.ensures ∙ c.in_ok-first.was) in omega (arith, a.within)

pub returns-in_err-second : goal.returns-in_err-second
returns-in_err-second c =
    let a = value_read _ _ _ (sym c.value_up_to.ensures ∙ c.in_ok-first.was) in
    c.from_residual-in_err-second.ensures ∙ no_second _ _ a (sym c.value_up_to-2.ensures ∙ c.in_err-second.was)

pub overflow_add-last : goal.overflow_add-last
overflow_add-last c =
    let a = value_read _ _ _ (sym c.value_up_to.ensures ∙ c.in_ok-first.was) in
    let b = value_read _ _ _ (sym c.value_up_to-2.ensures ∙ c.in_ok-second.was) in
    omega (arith, within _ _ a _ b, c.well_formed)

pub slice_bounds-last-count : goal.slice_bounds-last-count
slice_bounds-last-count c = let b = value_read _ _ _ (sym c.value_up_to-2.ensures ∙ c.in_ok-second.was) in omega (arith, b.within)

pub slice_bounds-last-start : goal.slice_bounds-last-start
slice_bounds-last-start c = let b = value_read _ _ _ (sym c.value_up_to-2.ensures ∙ c.in_ok-second.was) in omega (arith, b.within)

pub returns-in_err-third : goal.returns-in_err-third
returns-in_err-third c =
    let a = value_read _ _ _ (sym c.value_up_to.ensures ∙ c.in_ok-first.was) in
    let b = value_read _ _ _ (sym c.value_up_to-2.ensures ∙ c.in_ok-second.was) in
    c.from_residual-in_err-third.ensures ∙ no_third _ _ a _ b (sym c.value_up_to-3.ensures ∙ c.in_err-third.was)

pub overflow_add-result : goal.overflow_add-result
overflow_add-result c =
    let a = value_read _ _ _ (sym c.value_up_to.ensures ∙ c.in_ok-first.was) in
    let b = value_read _ _ _ (sym c.value_up_to-2.ensures ∙ c.in_ok-second.was) in
    omega (arith, within _ _ a _ b, c.well_formed)

pub overflow_add-result-2 : goal.overflow_add-result-2
overflow_add-result-2 c =
    let a = value_read _ _ _ (sym c.value_up_to.ensures ∙ c.in_ok-first.was) in
    let b = value_read _ _ _ (sym c.value_up_to-2.ensures ∙ c.in_ok-second.was) in
    omega (arith, within _ _ a _ b, c.well_formed)

pub overflow_add-result-3 : goal.overflow_add-result-3
overflow_add-result-3 c =
    let a = value_read _ _ _ (sym c.value_up_to.ensures ∙ c.in_ok-first.was) in
    let b = value_read _ _ _ (sym c.value_up_to-2.ensures ∙ c.in_ok-second.was) in
    omega (arith, within _ _ a _ b, c.well_formed)

pub overflow_add-result-4 : goal.overflow_add-result-4
overflow_add-result-4 c =
    let a = value_read _ _ _ (sym c.value_up_to.ensures ∙ c.in_ok-first.was) in
    let b = value_read _ _ _ (sym c.value_up_to-2.ensures ∙ c.in_ok-second.was) in
    let d = value_read _ _ _ (sym c.value_up_to-3.ensures ∙ c.in_ok-third.was) in
    omega (arith, fits _ _ a _ b _ d, c.well_formed)

pub returns : goal.returns
returns c =
    let a = value_read _ _ _ (sym c.value_up_to.ensures ∙ c.in_ok-first.was) in
    let b = value_read _ _ _ (sym c.value_up_to-2.ensures ∙ c.in_ok-second.was) in
    let d = value_read _ _ _ (sym c.value_up_to-3.ensures ∙ c.in_ok-third.was) in
    all_three _ _ a _ b _ d
