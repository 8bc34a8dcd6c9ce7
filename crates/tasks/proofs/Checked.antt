-- What it takes for a table and a number of cores to pass `checked`: `passes`, and the fields of `Passes`; and `passed`, that these are all. The refusals
-- of those that do not have numbers of 1 or 2 digits, and none is number 0: `checked_numbered`.
use Prim.Native.Nat.{ℕ, zero, suc, ◌+◌, ◌≤◌, ◌<◌}
use native.Mathlib.Omega.{arith}
use mathlib.Core.Path.{◌≡◌, refl}
use mathlib.Core.Bool.{Bool, true, cond, not}
use mathlib.Core.List.{List}
use lib.Dec.{eqb, leb, ltb}
use lib.ListN.{get_or}
use borrow.Author.Tests.{not-false, leb-true, ltb-false, eqb-true, eqb-false, le-leb, le-ltb, ne_eqb}
use Rattle.laws.proofs.CaseSplits.{by_order, by_cond}
use Rattle.laws.proofs.Booleans.{and_left, and_right}
use Rattle.tasks.specs.Limits.{max_tasks, max_cores}
use Rattle.tasks.specs.Refusals.{number_of, refusal}
use Rattle.tasks.specs.Outcome.{Outcome}
use Rattle.tasks.specs.Task.{in_range}
use Rattle.tasks.specs.Table.{zero_task}
use Rattle.tasks.specs.Check.{first_out_of_range, cores_in_range, checked}
use Rattle.tasks.specs.declared.task.Task.{Task}
use Rattle.tasks.specs.declared.table.Table.{Table}
use Rattle.tasks.specs.declared.refusals.Refusal.{Refusal}
use Rattle.tasks.specs.declared.refusals.Reason.TheVariants.{TooManyTasks, NoTask, TaskOutOfRange, CoresOutOfRange}
use Rattle.std.proofs.Common.{Ok, Err}
use Rattle.tasks.proofs.OutcomeLaws.{past_test, Numbered, done_numbered, refused_numbered}

pub record Passes (t : Table) (m : ℕ) : Type 0 where
  pub count_some : 1 ≤ t.count
  pub count_fits : t.count ≤ max_tasks
  pub tasks_fit : (i : ℕ) → i < t.count → in_range (get_or t.tasks i zero_task) ≡ true
  pub cores_some : 1 ≤ m
  pub cores_fit : m ≤ max_cores

-- no task out of range: each is in range
none_out : (tasks : List Task) (n i : ℕ) → first_out_of_range tasks i n ≡ 0 → (j : ℕ) → i ≤ j → j < i + n → in_range (get_or tasks j zero_task) ≡ true
unfolding first_out_of_range
none_out tasks zero i e j l h = absurd (omega arith)
none_out tasks (suc n) i e j l h =
    by_cond (λ place. place ≡ 0 → in_range (get_or tasks j zero_task) ≡ true) (in_range (get_or tasks i zero_task))
    (λ fits rest.
    by_order (i + 1) j
    (λ later. none_out tasks n (i + 1) rest j later (omega arith))
    (λ here. let same : j ≡ i = omega arith in rw same fits))
    (λ out none. absurd (omega arith))
    e

pub passes : (t : Table) (m : ℕ) → checked t m ≡ Ok tt → Passes t m
unfolding checked cores_in_range
passes t m =
    past_test _ _ λ few.
    past_test (eqb t.count 0) _ λ some.
    past_test _ _ λ none.
    past_test _ _ λ cores e.
    let fit = not-false _ cores in
    record {
      count_some = let not-0 = eqb-false t.count 0 some in omega arith;
      count_fits = ltb-false _ _ few;
      tasks_fit = λ i h. none_out t.tasks t.count 0 (eqb-true _ _ (not-false _ none)) i (omega arith) (omega arith);
      cores_some = leb-true _ _ (and_left _ _ fit);
      cores_fit = leb-true _ _ (and_right (leb 1 m) _ fit);
    }

-- and the other way round
all_in : (tasks : List Task) (n i : ℕ) → ((j : ℕ) → i ≤ j → j < i + n → in_range (get_or tasks j zero_task) ≡ true) → first_out_of_range tasks i n ≡ 0
unfolding first_out_of_range
all_in tasks zero i each = refl
all_in tasks (suc n) i each = rw (each i (omega arith) (omega arith)) (all_in tasks n (i + 1) (λ j l h. each j (omega arith) (omega arith)))

pub passed : (t : Table) (m : ℕ) → Passes t m → checked t m ≡ Ok tt
unfolding checked cores_in_range
passed t m fit =
    let in_table_lem : (i : ℕ) → 0 ≤ i → i < 0 + t.count → in_range (get_or t.tasks i zero_task) ≡ true = λ i l h. fit.tasks_fit i (omega arith) in
    rw (
      le-ltb max_tasks t.count fit.count_fits,
      ne_eqb t.count 0 (omega (arith, fit.count_some)),
      all_in t.tasks t.count 0 in_table_lem,
      le-leb 1 m fit.cores_some,
      le-leb m max_cores fit.cores_fit,
    )

-- past a test that refuses by such a number
other_test :
    (test : Bool) (why : Refusal) {o : Outcome} → (1 ≤ number_of why.reason) × (number_of why.reason < 100) → Numbered o → Numbered (cond test (Err why) o)
other_test test why h rest = by_cond Numbered test (λ yes. refused_numbered why h) (λ no. rest)

pub checked_numbered : (t : Table) (m : ℕ) → Numbered (checked t m)
unfolding checked
checked_numbered t m =
    let place = first_out_of_range t.tasks 0 t.count in
    other_test (ltb max_tasks t.count) (refusal TooManyTasks (max_tasks + 1)) (omega arith)
    (other_test (eqb t.count 0) (refusal NoTask 0) (omega arith)
    (other_test (not (eqb place 0)) (refusal TaskOutOfRange place) (omega arith)
    (other_test (not (cores_in_range m)) (refusal CoresOutOfRange 0) (omega arith) done_numbered)))
