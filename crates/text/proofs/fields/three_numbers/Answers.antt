-- Each place where the reading stops settles what the first line is.
use Rattle.std.proofs.Common.{sym, ◌∙◌, ◌+◌, arith}
use Rattle.laws.proofs.Parts.{past, from_length}
use Rattle.text.specs.Lines.{line_end}
use Rattle.text.proofs.Split.{before_fits}
use Rattle.text.proofs.NumberLaws.{up_to}
use Rattle.text.proofs.ThreeNumbers.{no_first, one_field, no_second, two_fields, no_third, all_three}
use Rattle.text.proofs.fields.three_numbers.Goals as goal

pub returns-in_err-first : goal.returns-in_err-first
returns-in_err-first c = c.from_residual.ensures ∙ no_first _ _ _ (sym c.number_up_to.ensures ∙ c.in_err-first.was)

pub returns-then-text-first : goal.returns-then-text-first
returns-then-text-first c = one_field _ _ _ _ (sym c.number_up_to.ensures ∙ c.in_ok-first.was) c.if-text-first.true

pub returns-in_err-second : goal.returns-in_err-second
returns-in_err-second c =
    c.from_residual-in_err-second.ensures
    ∙ no_second _ _ _ _ (sym c.number_up_to.ensures ∙ c.in_ok-first.was) c.if-text-first.false
    (sym c.number_up_to-2.ensures ∙ c.in_err-second.was)

pub returns-then-rest-second : goal.returns-then-rest-second
returns-then-rest-second c =
    two_fields _ _ _ _ (sym c.number_up_to.ensures ∙ c.in_ok-first.was) c.if-text-first.false _
    (sym c.number_up_to-2.ensures ∙ c.in_ok-second.was) c.if-rest-second.true

pub returns-in_err-third : goal.returns-in_err-third
returns-in_err-third c =
    c.from_residual-in_err-third.ensures
    ∙ no_third _ _ _ _ (sym c.number_up_to.ensures ∙ c.in_ok-first.was) c.if-text-first.false _
    (sym c.number_up_to-2.ensures ∙ c.in_ok-second.was) c.if-rest-second.false
    (sym c.number_up_to-3.ensures ∙ c.in_err-third.was)

pub overflow_add-result-4 : goal.overflow_add-result-4
overflow_add-result-4 c =
    let text = c.args.text.now in
    let rest = past text c.in_ok-first.first.length in
    let last = past rest c.in_ok-second.second.length in
    omega (
      arith,
      (up_to _ _ _ _ _ (sym c.number_up_to-3.ensures ∙ c.in_ok-third.was)).1,
      before_fits line_end last,
      from_length rest (c.in_ok-second.second.length + 1),
      from_length text (c.in_ok-first.first.length + 1),
      c.if-rest-second.false,
      c.well_formed,
    )

pub returns : goal.returns
returns c =
    all_three _ _ _ _ (sym c.number_up_to.ensures ∙ c.in_ok-first.was) c.if-text-first.false _
    (sym c.number_up_to-2.ensures ∙ c.in_ok-second.was) c.if-rest-second.false _
    (sym c.number_up_to-3.ensures ∙ c.in_ok-third.was)
