-- What an outcome says where the call was carried out: `done_where_true`, `past_test`, that no test refused it, and `both_done`, of two tests in turn. Of one that is
-- not number 0, `Not0`: `done_not_0` and `refused_not_0`. Of the numbers that refusals have, `Numbered`: `done_numbered` and `refused_numbered`; and `number_small`.
-- `by_outcome` goes by the outcome.
use Rattle.std.proofs.Common.{ℕ, ◌≤◌, ◌<◌, ◌≡◌, refl, Bool, true, false, cond, Ok, Err, arith}
use Rattle.laws.proofs.CaseSplits.{not_both, by_cond, clash}
use Rattle.tasks.specs.declared.refusals.Reason.{Reason}
use Rattle.tasks.specs.declared.refusals.Reason.TheVariants.{UnsoundMachine, TextTooLong, BadNamesLine, TooManyTasks, BadValueLine, TaskOutOfRange, NoTask, CoresOutOfRange, NoSuchTask, ReleasedTooSoon, JobStillOpen, JobNotOpen, TableFull, NotAdmitted, SlotCoresOutOfRange, NeedOutOfRange, LeastAboveMost, NoHeldTask, BadLogLine, Unlisted}
use Rattle.tasks.specs.declared.refusals.Refusal.{Refusal}
use Rattle.tasks.specs.Outcome.{Outcome, is_done, first_refusal}
use Rattle.tasks.specs.Refusals.{number_of}

pub by_outcome : {A : Type 0} (o : Outcome) → (o ≡ Ok tt → A) → ((why : Refusal) → o ≡ Err why → A) → A
by_outcome (Ok _) f g = f refl
by_outcome (Err why) f g = g why refl

pub done_where_true : (o : Outcome) → is_done o ≡ true → o ≡ Ok tt
unfolding is_done
done_where_true (Ok _) e = refl
done_where_true (Err why) e = not_both false e refl

-- no outcome is both a refusal and none
pub refused_not_done : {A : Type 0} (why : Refusal) (o : Outcome) → o ≡ Err why → o ≡ Ok tt → A
refused_not_done why o refused done = clash cc

pub past_test : {A : Type 0} (test : Bool) (why : Refusal) {o : Outcome} → (test ≡ false → o ≡ Ok tt → A) → cond test (Err why) o ≡ Ok tt → A
past_test {A} test why {o} on = by_cond (λ one. one ≡ Ok tt → A) test (λ refused. refused_not_done why (Err why) refl) on

pub both_done : (a b : Outcome) → first_refusal a b ≡ Ok tt → (a ≡ Ok tt) × (b ≡ Ok tt)
unfolding first_refusal
both_done (Ok _) b e = (refl, e)
both_done (Err why) b e = clash cc

-- if it is a refusal, its number is not 0
pub record Not0 (o : Outcome) : Type 0 where
  pub other : (why : Refusal) → o ≡ Err why → 1 ≤ number_of why.reason

pub done_not_0 : Not0 (Ok tt)
done_not_0 = record { other = λ why e. clash cc }

pub refused_not_0 : (why : Refusal) → 1 ≤ number_of why.reason → Not0 (Err why)
refused_not_0 why some = record { other = λ other e. let same : why ≡ other = cc in rw (← same) some }

-- if it is a refusal, its number is not 0 and has at most two digits
pub record Numbered (o : Outcome) : Type 0 where
  pub number_is : (why : Refusal) → o ≡ Err why → (1 ≤ number_of why.reason) × (number_of why.reason < 100)

pub done_numbered : Numbered (Ok tt)
done_numbered = record { number_is = λ why e. clash cc }

pub refused_numbered : (why : Refusal) → (1 ≤ number_of why.reason) × (number_of why.reason < 100) → Numbered (Err why)
refused_numbered why h = record { number_is = λ other e. let same : why ≡ other = cc in rw (← same) h }

-- each number that the documents list has at most two digits
pub number_small : (reason : Reason) → ((number : ℕ) → reason ≡ Unlisted number → ⊥) → number_of reason ≤ 18
number_small UnsoundMachine is_listed = omega arith
number_small TextTooLong is_listed = omega arith
number_small BadNamesLine is_listed = omega arith
number_small TooManyTasks is_listed = omega arith
number_small BadValueLine is_listed = omega arith
number_small TaskOutOfRange is_listed = omega arith
number_small NoTask is_listed = omega arith
number_small CoresOutOfRange is_listed = omega arith
number_small NoSuchTask is_listed = omega arith
number_small ReleasedTooSoon is_listed = omega arith
number_small JobStillOpen is_listed = omega arith
number_small JobNotOpen is_listed = omega arith
number_small TableFull is_listed = omega arith
number_small NotAdmitted is_listed = omega arith
number_small SlotCoresOutOfRange is_listed = omega arith
number_small NeedOutOfRange is_listed = omega arith
number_small LeastAboveMost is_listed = omega arith
number_small NoHeldTask is_listed = omega arith
number_small BadLogLine is_listed = omega arith
number_small (Unlisted number) is_listed = absurd (is_listed number refl)
