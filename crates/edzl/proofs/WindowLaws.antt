-- Laws of the window test. Others cite: `SameTask`, that two sets agree on a task, with `same_task`; `spare_same`, `sum_of_same` and `count_same`, that the
-- test reads the tasks below the count only; `admitted_few`; and `window_more`, that longer windows take no less.
use Prim.Native.Nat.{ℕ, ◌≤◌, ◌<◌}
use mathlib.Core.Path.{◌≡◌, refl, ap, ◌∙◌}
use mathlib.Core.Bool.{true}
use native.Mathlib.Omega.{arith}
use borrow.Author.Tests.{leb-true}
use Rattle.edzl.specs.TaskSet.{TaskSet}
use Rattle.edzl.specs.Window.{interference, spare, no_slack, window_sum, may_turn_urgent, count_urgent, admitted}
use Rattle.laws.specs.Sums.{sum_to, bit}
use Rattle.edzl.proofs.WellFormed.{WellFormed}
use Rattle.edzl.proofs.InterferenceLaws.{monotone}
use Rattle.laws.proofs.SumLaws.{sum_same, others_same}

-- One task is the same in both sets.
pub record SameTask (shorter longer : TaskSet) (i : ℕ) : Type 0 where
  pub same_period : longer.period i ≡ shorter.period i
  pub same_budget : longer.budget i ≡ shorter.budget i
  pub same_deadline : longer.deadline i ≡ shorter.deadline i

pub same_task : (tasks : TaskSet) (i : ℕ) → SameTask tasks tasks i
same_task tasks i = record { same_period = refl; same_budget = refl; same_deadline = refl }

-- So is its spare.
pub spare_same : (tasks tasks' : TaskSet) (k : ℕ) → SameTask tasks tasks' k → spare tasks' k ≡ spare tasks k
unfolding spare
spare_same tasks tasks' k task = rw (task.same_deadline, task.same_budget)

module _ (tasks tasks' : TaskSet) (same_count : tasks'.count ≡ tasks.count) (same : (i : ℕ) → i < tasks.count → SameTask tasks tasks' i) where
  module _ (slack slack' : ℕ → ℕ) (same-slack : (i : ℕ) → i < tasks.count → slack' i ≡ slack i) (m : ℕ) where
    pub sum_of_same : (k : ℕ) → k < tasks.count → window_sum tasks' slack' k ≡ window_sum tasks slack k
    unfolding window_sum
    sum_of_same k h =
        rw (spare_same tasks tasks' k (same k h), (same k h).same_deadline, same_count)
        (others_same _ _ k tasks.count λ i l ne. rw ((same i l).same_period, (same i l).same_budget, same-slack i l))

    may_same : (k : ℕ) → k < tasks.count → may_turn_urgent tasks' slack' m k ≡ may_turn_urgent tasks slack m k
    unfolding may_turn_urgent
    may_same k h = rw (spare_same tasks tasks' k (same k h), sum_of_same k h)

    pub count_same : count_urgent tasks' slack' m ≡ count_urgent tasks slack m
    unfolding count_urgent
    count_same =
        ap (λ (n : ℕ). sum_to n (λ k. bit (may_turn_urgent tasks' slack' m k))) same_count
        ∙ sum_same _ _ tasks.count (λ k h. ap bit (may_same k h))

-- An admitted set has at most m tasks that may turn urgent.
pub admitted_few : (tasks : TaskSet) (m : ℕ) → admitted tasks m ≡ true → count_urgent tasks no_slack m ≤ m
unfolding admitted
admitted_few tasks m e = leb-true _ _ e

-- A longer window takes no less.
pub window_more : (tasks : TaskSet) → WellFormed tasks → (i K L : ℕ) → i < tasks.count → K ≤ L →
    interference (tasks.period i) (tasks.budget i) K ≤ interference (tasks.period i) (tasks.budget i) L
unfolding WellFormed
window_more tasks well i K L h l =
    let fits = well i h in
    monotone (tasks.period i) (tasks.budget i) (omega arith) (omega arith) K L l
