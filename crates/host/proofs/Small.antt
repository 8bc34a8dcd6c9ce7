-- The entry's answer is at most 107, as no reading is refused by a number above 6 and no judging by one above 7: `answer_small`.
use Rattle.std.proofs.Common.{ℕ, ◌≤◌, refl, Bool, true, false, List, Ok, Err, arith}
use Rattle.tasks.specs.Outcome.{Outcome}
use Rattle.tasks.proofs.Small.{Below, checked_below}
use Rattle.reader.specs.Reading.{reading}
use Rattle.reader.proofs.Small.{reading_below}
use Rattle.judge.specs.SlackJudge.{AdmissionValues, admission}
use Rattle.judge.proofs.Admitted.{admission_outcome}
use Rattle.host.specs.Host.{answer_number, answer_after, host_answer}

number_small : (o : Outcome) (admits : Bool) → Below 7 o → answer_number o admits ≤ 107
unfolding answer_number
number_small (Ok _) true below = omega arith
number_small (Ok _) false below = omega arith
number_small (Err why) admits below = omega (arith, below why refl)

after_small : (o : Outcome) (verdict : AdmissionValues) → Below 6 o → Below 7 verdict.outcome → answer_after o verdict ≤ 107
unfolding answer_after
after_small (Ok _) verdict read below = number_small verdict.outcome verdict.admits below
after_small (Err why) verdict read below = omega (arith, read why refl)

pub answer_small : (text : List ℕ) (m : ℕ) → host_answer text m ≤ 107
unfolding host_answer
answer_small text m =
    let table = (reading text).table in
    after_small (reading text).outcome _ (reading_below text) (rw (admission_outcome table m) (checked_below table m))
