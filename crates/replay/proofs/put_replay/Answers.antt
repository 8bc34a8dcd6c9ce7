use Rattle.std.proofs.Common.{◌≡◌, ℕ, ◌+◌, ◌≤◌, ◌∙◌, List, length, Result, sym, ap, arith}
use borrow.Author.Tests.{lt-ltb}
use lib.Seq.{length-take-le}
use Rattle.laws.proofs.Parts.{past, from_drop, from_length}
use Rattle.script.specs.declared.word_line.WordLine.{WordLine}
use Rattle.script.proofs.OutputLaws.{within_more, refused_put}
use Rattle.script.proofs.WordLineLaws.{Within, found_within}
use Rattle.script.specs.WordLine.{word_line}
use Rattle.replay.specs.Words.{calls_word}
use Rattle.replay.specs.Script.{max_script_length, printed_after_cores, printed, room}
use Rattle.replay.proofs.ScriptLaws.{first_unended, first_broken, first_read}
use Rattle.replay.proofs.put_replay.Goals as goal
use Rattle.replay.proofs.put_replay.Goals.{In-Some, In-Ok}

-- the text after the first line, which is no longer than a script may be
abbrev text : In-Some → List ℕ
text c = past c.args.script.now c.find-length.result

text_few : (c : In-Some) → length (text c) ≤ max_script_length
text_few c = omega (arith, c.if-script-gt-MAX_SCRIPT_LENGTH.false, from_length c.args.script.now (c.find-length.result + 1))

-- what is printed, by what the search for the line of the calls gave
by_word :
    (c : In-Some) (found : Result WordLine ℕ) → found ≡ word_line calls_word (text c)
    → printed c.args.script.now ≡ printed_after_cores found c.in-Some.cores (text c)
by_word c found e =
    first_read _ c.if-script-gt-MAX_SCRIPT_LENGTH.false _ c.find-length.ensures c.if-script-length.false _ (sym c.in-Some.ensures)
    ∙ ap (λ (w : Result WordLine ℕ). printed_after_cores w c.in-Some.cores (text c)) (sym e)

-- the table and the calls lie within the text
within : (c : In-Ok) → Within (length (past c.args.script.now c.find-length.result)) c.in-Ok.found
within c = found_within _ _ _ (sym c.in-Ok.ensures)

pub returns-then-script-gt-MAX_SCRIPT_LENGTH : goal.returns-then-script-gt-MAX_SCRIPT_LENGTH
unfolding printed
returns-then-script-gt-MAX_SCRIPT_LENGTH c =
    rw (lt-ltb _ _ c.if-script-gt-MAX_SCRIPT_LENGTH.true)
    (refused_put _ (omega arith) 1 (omega arith) (rw c.number.ensures at c.put_refused.ensures))

pub returns-then-script-length : goal.returns-then-script-length
returns-then-script-length c =
    rw (first_unended _ c.if-script-gt-MAX_SCRIPT_LENGTH.false _ c.find-length.ensures c.if-script-length.true)
    (within_more _ (omega arith) c.put_bad_line.ensures)

pub returns-in_default : goal.returns-in_default
returns-in_default c =
    rw (first_broken _ c.if-script-gt-MAX_SCRIPT_LENGTH.false _ c.find-length.ensures c.if-script-length.false (sym c.in_default.ensures))
    (within_more _ (omega arith) c.put_bad_line-in_default.ensures)

pub slice_bounds-run-end : goal.slice_bounds-run-end
slice_bounds-run-end c = sym (length-take-le _ _ (within (goal.at.slice_bounds-run-end c).In-Ok).ends)

pub slice_bounds-run-count : goal.slice_bounds-run-count
slice_bounds-run-count c = (within (goal.at.slice_bounds-run-count c).In-Ok).starts

pub slice_bounds-run-start : goal.slice_bounds-run-start
slice_bounds-run-start c = (within (goal.at.slice_bounds-run-start c).In-Ok).starts

pub run-requires : goal.run-requires
run-requires c =
    let at = goal.at.run-requires c in
    omega (arith, (within at.In-Ok).few, text_few at.In-Some)

pub returns-in-Err : goal.returns-in-Err
unfolding printed_after_cores
returns-in-Err c =
    let at = goal.at.returns-in-Err c in
    rw (by_word at.In-Some _ c.in-Err.ensures) (within_more _ (omega arith) c.put_bad_line-in-Err.ensures)

pub returns-in-Ok : goal.returns-in-Ok
unfolding printed_after_cores
returns-in-Ok c =
    let at = goal.at.returns-in-Ok c in
    let after = text at.In-Some in
    let next = c.in-Ok.found.next in
    rw (by_word at.In-Some _ c.in-Ok.ensures)
    (rw (from_drop after next) at
    (within_more room (omega (arith, text_few at.In-Some, from_length after next)) c.run.ensures))
