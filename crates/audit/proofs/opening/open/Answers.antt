use Rattle.std.proofs.Common.{◌∙◌, length, take, Ok, sym, ap}
use lib.Seq.{length-take-le}
use Rattle.laws.proofs.Parts.{past, from_drop}
use Rattle.script.proofs.WordLineLaws.{Within, found_within}
use Rattle.audit.specs.Opening.{opened_for}
use Rattle.audit.proofs.OpeningLaws.{no_first_line, first_broken, log_missing_long, log_missing, log_found}
use Rattle.audit.proofs.opening.open.Goals as goal
use Rattle.audit.proofs.opening.open.Goals.{In-Ok}

pub returns-then-input-length : goal.returns-then-input-length
returns-then-input-length c = sym (no_first_line _ _ c.find-length.ensures c.if-input-length.true)

pub returns-in_default : goal.returns-in_default
returns-in_default c = sym (first_broken _ _ c.find-length.ensures c.if-input-length.false (sym c.in_default.ensures))

-- the table and the log lie within the text after the first line
within : (c : In-Ok) → Within (length (past c.args.input.now c.find-length.result)) c.in-Ok.found
within c = found_within _ _ _ (sym c.in-Ok.ensures)

pub slice_bounds-open_table-end : goal.slice_bounds-open_table-end
slice_bounds-open_table-end c = sym (length-take-le _ _ (within c).ends)

pub slice_bounds-open_table-count : goal.slice_bounds-open_table-count
slice_bounds-open_table-count c = (within (goal.at.slice_bounds-open_table-count c).In-Ok).starts

pub slice_bounds-open_table-start : goal.slice_bounds-open_table-start
slice_bounds-open_table-start c = (within (goal.at.slice_bounds-open_table-start c).In-Ok).starts

pub returns-in-Ok : goal.returns-in-Ok
returns-in-Ok c =
    let found = c.in-Ok.found in
    ap Ok (c.open_table.ensures ∙ ap (opened_for (take found.start (past c.args.input.now c.find-length.result)) c.in-Some.cores) (from_drop _ found.next))
    ∙ sym (log_found _ _ c.find-length.ensures c.if-input-length.false _ (sym c.in-Some.ensures) _ (sym c.in-Ok.ensures))

pub returns-then-text-gt-MAX_TEXT_LENGTH : goal.returns-then-text-gt-MAX_TEXT_LENGTH
returns-then-text-gt-MAX_TEXT_LENGTH c =
    rw (c.refused.ensures, c.at.ensures)
    (sym
    (log_missing_long _ _ c.find-length.ensures c.if-input-length.false _ (sym c.in-Some.ensures) _ (sym c.in-Err.ensures) c.if-text-gt-MAX_TEXT_LENGTH.true))

pub returns-else-text-gt-MAX_TEXT_LENGTH : goal.returns-else-text-gt-MAX_TEXT_LENGTH
returns-else-text-gt-MAX_TEXT_LENGTH c =
    sym
    (log_missing _ _ c.find-length.ensures c.if-input-length.false _ (sym c.in-Some.ensures) _ (sym c.in-Err.ensures) c.if-text-gt-MAX_TEXT_LENGTH.false)
