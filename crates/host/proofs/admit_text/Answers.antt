-- `admit_text` meets its contract: the refusal of the reading, or the admission of the table that was read, whose numbers make it again.
use Rattle.std.proofs.Common.{◌≡◌, refl, ◌∙◌, Bool, Result, Ok, Err}
use Rattle.std.proofs.lemmas.Result.{err_from_is_err_and}
use Rattle.tasks.specs.declared.refusals.Refusal.{Refusal}
use Rattle.reader.specs.Reading.{reading}
use Rattle.reader.proofs.CountedLaws.{counted_refused, counted_read}
use Rattle.judge.specs.SlackJudge.{admission_values_of, admission}
use Rattle.host.specs.Host.{answer_number, answer_after, host_answer, number_for}
use Rattle.host.proofs.admit_text.Goals as goal

-- the number of an admission is that of its values
number_is : (r : Result Bool Refusal) → let v = admission_values_of r in number_for r ≡ answer_number v.outcome v.admits
unfolding number_for admission_values_of answer_number
number_is (Ok admitted) = refl
number_is (Err why) = refl

pub returns-in_err-count : goal.returns-in_err-count
unfolding host_answer answer_after number_for
returns-in_err-count c =
    let p = err_from_is_err_and c.from_residual.result c.from_residual.ensures.1 in
    rw (p.1, p.2, counted_refused _ _ c.read_arrays.ensures.counted _ c.in_err-count.was)

pub returns : goal.returns
unfolding host_answer answer_after
returns c =
    let r = c.read_arrays.ensures in
    let was_read = counted_read _ _ r.counted _ c.in_ok-count.was in
    let same_table : admission_values_of c.admit_arrays.result ≡ admission (reading c.args.text.now).table c.args.cores =
    c.admit_arrays.ensures ∙ rw (r.periods, r.budgets, r.deadlines, was_read.again) in
    rw (number_is c.admit_arrays.result, same_table, was_read.outcome)
