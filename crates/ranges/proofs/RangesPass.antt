-- What it says of ranges and a number of cores that no refusal stands against them: `passes`, and the fields of `Passes` and `TaskPasses`; and `passed`, what it
-- takes.
use Prim.Native.Nat.{ℕ, zero, suc, ◌+◌, ◌≤◌, ◌<◌}
use native.Mathlib.Omega.{arith}
use mathlib.Core.Path.{◌≡◌, refl}
use mathlib.Core.Bool.{true, ◌&&◌}
use mathlib.Core.List.{List}
use lib.Dec.{eqb, leb}
use lib.ListN.{get_or}
use borrow.Author.Tests.{not-false, leb-true, ltb-false, eqb-false, le-leb, le-ltb, ne_eqb}
use Rattle.std.proofs.Common.{Ok, Err}
use Rattle.laws.proofs.CaseSplits.{by_order, by_cond}
use Rattle.laws.proofs.Booleans.{and_left, and_right}
use Rattle.tasks.specs.Limits.{max_tasks, max_cores}
use Rattle.tasks.specs.Task.{in_range}
use Rattle.tasks.specs.Check.{cores_in_range}
use Rattle.tasks.specs.Outcome.{Outcome, first_refusal}
use Rattle.tasks.specs.Refusals.{refusal}
use Rattle.tasks.specs.declared.refusals.Reason.TheVariants.{CoresOutOfRange}
use Rattle.tasks.proofs.OutcomeLaws.{past_test, both_done, refused_not_done}
use Rattle.ranges.specs.declared.corner.Corner.{Corner}
use Rattle.ranges.specs.declared.corner.Corner.TheVariants.{Dearest, Cheapest}
use Rattle.ranges.specs.declared.task.RangedTask.{RangedTask}
use Rattle.ranges.specs.declared.table.RangedTable.{RangedTable}
use Rattle.ranges.specs.Ranges.{zero_ranged_task, corner_task}
use Rattle.ranges.specs.Check.{in_order, corners_in_range, task_checked, tasks_checked, cores_checked, ranges_checked}

-- no least is above its most, and at either corner the task is in range
pub record TaskPasses (r : RangedTask) : Type 0 where
  pub period_in_order : r.period.least ≤ r.period.most
  pub budget_in_order : r.budget.least ≤ r.budget.most
  pub corner_fits : (corner : Corner) → in_range (corner_task corner r) ≡ true

pub record Passes (r : RangedTable) (m : ℕ) : Type 0 where
  pub count_some : 1 ≤ r.count
  pub count_fits : r.count ≤ max_tasks
  pub each_passes : (i : ℕ) → i < r.count → TaskPasses (get_or r.tasks i zero_ranged_task)
  pub cores_some : 1 ≤ m
  pub cores_fit : m ≤ max_cores

pub task_passes : (r : RangedTask) (place : ℕ) → task_checked r place ≡ Ok tt → TaskPasses r
unfolding task_checked in_order corners_in_range
task_passes r place =
    past_test _ _ λ ordered.
    past_test _ _ λ fits e.
    let in_order_lem = not-false _ ordered in
    let both = not-false _ fits in
    let dearest-fits = in_range (corner_task Dearest r) in
    let corner : (corner : Corner) → in_range (corner_task corner r) ≡ true
    = λ c. elim c as (λ (k : Corner). in_range (corner_task k r) ≡ true) [ Dearest ↦ and_left dearest-fits _ both | Cheapest ↦ and_right dearest-fits _ both ] in
    record {
      period_in_order = leb-true _ _ (and_left (leb r.period.least r.period.most) _ in_order_lem);
      budget_in_order = leb-true _ _ (and_right (leb r.period.least r.period.most) _ in_order_lem);
      corner_fits = corner;
    }

-- each of the tasks that are tried passes
tasks_pass : (tasks : List RangedTask) (n i : ℕ) → tasks_checked tasks i n ≡ Ok tt → (j : ℕ) → i ≤ j → j < i + n → TaskPasses (get_or tasks j zero_ranged_task)
unfolding tasks_checked
tasks_pass tasks zero i e j l h = absurd (omega arith)
tasks_pass tasks (suc n) i e j l h =
    let (first, rest) = both_done (task_checked (get_or tasks i zero_ranged_task) (i + 1)) (tasks_checked tasks (i + 1) n) e in
    by_order (i + 1) j
    (λ later. tasks_pass tasks n (i + 1) rest j later (omega arith))
    (λ here. let same : j ≡ i = omega arith in rw same (task_passes (get_or tasks i zero_ranged_task) (i + 1) first))

cores_pass : (m : ℕ) → cores_checked m ≡ Ok tt → (1 ≤ m) × (m ≤ max_cores)
unfolding cores_checked cores_in_range
cores_pass m =
    by_cond (λ (o : Outcome). o ≡ Ok tt → (1 ≤ m) × (m ≤ max_cores)) (leb 1 m && leb m max_cores)
    (λ fit e. (leb-true _ _ (and_left (leb 1 m) _ fit), leb-true _ _ (and_right (leb 1 m) _ fit)))
    (λ out. refused_not_done (refusal CoresOutOfRange 0) (Err (refusal CoresOutOfRange 0)) refl)

pub passes : (r : RangedTable) (m : ℕ) → ranges_checked r m ≡ Ok tt → Passes r m
unfolding ranges_checked
passes r m =
    past_test _ _ λ few.
    past_test (eqb r.count 0) _ λ some e.
    let (tasks, cores) = both_done (tasks_checked r.tasks 0 r.count) (cores_checked m) e in
    record {
      count_some = let not-0 = eqb-false r.count 0 some in omega arith;
      count_fits = ltb-false _ _ few;
      each_passes = λ i h. tasks_pass r.tasks r.count 0 tasks i (omega arith) (omega arith);
      cores_some = (cores_pass m cores).0;
      cores_fit = (cores_pass m cores).1;
    }

-- and the other way round
none_refused : (tasks : List RangedTask) (n i : ℕ) →
    ((j : ℕ) → i ≤ j → j < i + n → task_checked (get_or tasks j zero_ranged_task) (j + 1) ≡ Ok tt) →
    tasks_checked tasks i n ≡ Ok tt
unfolding tasks_checked first_refusal
none_refused tasks zero i each = refl
none_refused tasks (suc n) i each = rw (each i (omega arith) (omega arith)) (none_refused tasks n (i + 1) (λ j l h. each j (omega arith) (omega arith)))

-- ranges of which no task is refused
pub record TasksPass (r : RangedTable) : Type 0 where
  pub count_some : 1 ≤ r.count
  pub count_fits : r.count ≤ max_tasks
  pub each_checked : (i : ℕ) → i < r.count → task_checked (get_or r.tasks i zero_ranged_task) (i + 1) ≡ Ok tt

pub passed : (r : RangedTable) (m : ℕ) → TasksPass r → 1 ≤ m → m ≤ max_cores → ranges_checked r m ≡ Ok tt
unfolding ranges_checked first_refusal cores_checked cores_in_range
passed r m fit some fits =
    let in_table_lem : (i : ℕ) → 0 ≤ i → i < 0 + r.count → task_checked (get_or r.tasks i zero_ranged_task) (i + 1) ≡ Ok tt
    = λ i l h. fit.each_checked i (omega arith) in
    rw (
      le-ltb max_tasks r.count fit.count_fits,
      ne_eqb r.count 0 (omega (arith, fit.count_some)),
      none_refused r.tasks r.count 0 in_table_lem,
      le-leb 1 m some,
      le-leb m max_cores fits,
    )
