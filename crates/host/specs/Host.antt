-- The entry for a host in C: document 01, "The table as text", its last paragraph; by document 02, change 6, it goes by the slack test.
use Rattle.std.specs.Prelude.{ℕ, ◌+◌, Bool, cond, List, Result, Ok, Err}
use Rattle.tasks.specs.Refusals.{number_of}
use Rattle.tasks.specs.Outcome.{Outcome}
use Rattle.tasks.specs.declared.refusals.Refusal.{Refusal}
use Rattle.reader.specs.Reading.{reading}
use Rattle.judge.specs.SlackJudge.{AdmissionValues, admission}

-- "0 not admitted, 1 admitted, 100 plus the refusal number otherwise"
unfoldable pub answer_number : Outcome → (admits : Bool) → ℕ
answer_number (Ok _) admits = cond admits 1 0
answer_number (Err why) admits = 100 + number_of why.reason

-- "The reading's refusals come before number 7.": the verdict, which may be that refusal, counts only where the text was read
unfoldable pub answer_after : Outcome → AdmissionValues → ℕ
answer_after (Ok _) verdict = answer_number verdict.outcome verdict.admits
answer_after (Err why) verdict = 100 + number_of why.reason

-- "A host in C passes the text and m as one number and gets one number"; change 6: "Joins and the C entry go by this test"
unfoldable pub host_answer : List ℕ → (m : ℕ) → ℕ
host_answer text m = answer_after (reading text).outcome (admission (reading text).table m)

-- the number of an admission or a refusal: for the contract of the entry's own function, on which `host_answer` does not rest
unfoldable pub number_for : Result Bool Refusal → ℕ
number_for (Ok admitted) = cond admitted 1 0
number_for (Err why) = 100 + number_of why.reason
