-- Refusal numbers are small. Others cite `Below`, `below_done`, `below_refused`, `below_test` and `checked_below`.
use Rattle.std.proofs.Common.{ℕ, ◌+◌, ◌≤◌, ◌≡◌, Bool, cond, not, eqb, ltb, Result, Ok, Err, arith}
use Rattle.laws.proofs.CaseSplits.{by_cond, clash}
use Rattle.tasks.specs.Limits.{max_tasks}
use Rattle.tasks.specs.Refusals.{number_of, refusal}
use Rattle.tasks.specs.Check.{first_out_of_range, cores_in_range, checked}
use Rattle.tasks.specs.declared.table.Table.{Table}
use Rattle.tasks.specs.declared.refusals.Refusal.{Refusal}
use Rattle.tasks.specs.declared.refusals.Reason.TheVariants.{TooManyTasks, NoTask, TaskOutOfRange, CoresOutOfRange}

-- if it is a refusal, then by a number that is at most b
abbrev pub Below : {A : Type 0} → ℕ → Result A Refusal → Type 0
Below b o = (why : Refusal) → o ≡ Err why → number_of why.reason ≤ b

pub below_done : {A : Type 0} (b : ℕ) (done : A) → Below b (Ok done)
below_done b done why e = clash cc

pub below_refused : {A : Type 0} (b : ℕ) (why : Refusal) → number_of why.reason ≤ b → Below {A = A} b (Err why)
below_refused b why small other e = let same : why ≡ other = cc in rw (← same) small

-- a test that refuses by a small number, and what comes after it
pub below_test :
    {A : Type 0} (b : ℕ) (test : Bool) (why : Refusal) {o : Result A Refusal} → number_of why.reason ≤ b → Below b o → Below b (cond test (Err why) o)
below_test b test why small rest = by_cond (Below b) test (λ yes. below_refused b why small) (λ no. rest)

pub checked_below : (t : Table) (m : ℕ) → Below 7 (checked t m)
unfolding checked
checked_below t m =
    let place = first_out_of_range t.tasks 0 t.count in
    below_test 7 (ltb max_tasks t.count) (refusal TooManyTasks (max_tasks + 1)) (omega arith)
    (below_test 7 (eqb t.count 0) (refusal NoTask 0) (omega arith)
    (below_test 7 (not (eqb place 0)) (refusal TaskOutOfRange place) (omega arith)
    (below_test 7 (not (cores_in_range m)) (refusal CoresOutOfRange 0) (omega arith) (below_done 7 tt))))
