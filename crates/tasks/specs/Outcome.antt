-- What an outcome says: document 01, "The slot machine" and "Why a call is not carried out".
use Rattle.std.specs.Prelude.{Bool, true, false, Result, Ok, Err}
use Rattle.tasks.specs.declared.refusals.Refusal.{Refusal}

-- whether a call was carried out: nothing but that it was, or why it was not
abbrev pub Outcome : Type 0
Outcome = Result (Unit {0}) Refusal

-- "A call is accepted when it is not refused"
unfoldable pub is_done : Outcome → Bool
is_done (Ok _) = true
is_done (Err _) = false

-- the refusal of one test, or else what the next test gives
unfoldable pub first_refusal : Outcome → Outcome → Outcome
first_refusal (Ok _) next = next
first_refusal (Err refusal) next = Err refusal
