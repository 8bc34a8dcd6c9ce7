-- A legal choice of runners in a slot. Others cite: `Beats` with its cases, `LegalChoice`; and `urgent_runs`, that every urgent job runs
-- (`UrgentRun`) where the invariant holds and the test counts at most m tasks.
use Prim.Native.Nat.{ℕ, ◌≤◌, ◌<◌}
use mathlib.Core.Path.{◌≡◌}
use mathlib.Core.Bool.{Bool, true, false}
use mathlib.Core.Logic.{◌⊎◌, ⊎_elim}
use native.Mathlib.Omega.{arith}
use Rattle.edzl.specs.TaskSet.{TaskSet}
use Rattle.laws.specs.Sums.{sum_to, bit}
use Rattle.edzl.specs.Window.{may_turn_urgent, count_urgent}
use Rattle.laws.proofs.CaseSplits.{by_order, by_test}
use Rattle.laws.proofs.SumLaws.{sum_strict, bit_true, bit_false, bit_monotone}
use Rattle.edzl.proofs.Invariant.{Jobs, Invariant}
use Rattle.edzl.proofs.BoundLaws.{urgent_counted}

-- x goes before y: x is urgent and y is not, or both are alike in urgency and x has fewer slots to its deadline.
pub data Beats (jobs : Jobs) (x y : ℕ) : Type 0 where
  more_urgent : jobs.left x ≤ jobs.budget x → jobs.budget y < jobs.left y → Beats jobs x y
  both_urgent : jobs.left x ≤ jobs.budget x → jobs.left y ≤ jobs.budget y → jobs.left x < jobs.left y → Beats jobs x y
  neither_urgent : jobs.budget x < jobs.left x → jobs.budget y < jobs.left y → jobs.left x < jobs.left y → Beats jobs x y

-- A choice of runners on m cores among the first n tasks: only open tasks run; m run, or more, or all that are open; and no idle open task
-- beats a runner.
pub record LegalChoice (n m : ℕ) (ran : ℕ → Bool) (jobs : Jobs) : Type 0 where
  pub runner_open : (i : ℕ) → i < n → ran i ≡ true → jobs.is_open i ≡ true
  pub enough : (m ≤ sum_to n (λ i. bit (ran i))) ⊎ ((i : ℕ) → i < n → jobs.is_open i ≡ true → ran i ≡ true)
  pub none_beaten_lem : (x y : ℕ) → x < n → y < n → jobs.is_open x ≡ true → ran x ≡ false → ran y ≡ true → Beats jobs x y → ⊥

-- Every open task that is urgent runs.
unfoldable pub UrgentRun : (n : ℕ) → (ℕ → Bool) → Jobs → Type 0
UrgentRun n ran jobs = (k : ℕ) → k < n → jobs.is_open k ≡ true → jobs.left k ≤ jobs.budget k → ran k ≡ true

module _ (tasks : TaskSet) (slack : ℕ → ℕ) (m : ℕ) (ran : ℕ → Bool) (jobs : Jobs) where
  module _ (choice : LegalChoice tasks.count m ran jobs) (inv : Invariant tasks slack m jobs) where
    counted : (i : ℕ) → i < tasks.count → jobs.is_open i ≡ true → jobs.left i ≤ jobs.budget i → may_turn_urgent tasks slack m i ≡ true
    counted i h o urgent = urgent_counted tasks slack jobs m i (inv.bound i h o) (inv.in_time i h o) urgent

    module _ (k : ℕ) (h : k < tasks.count) (o : jobs.is_open k ≡ true) (urgent : jobs.left k ≤ jobs.budget k) (idle : ran k ≡ false) where
      -- Beside an idle urgent job every runner is urgent, so the test counts it.
      runner_counted : (i : ℕ) → i < tasks.count → ran i ≡ true → may_turn_urgent tasks slack m i ≡ true
      runner_counted i l runs =
          by_order (jobs.left i) (jobs.budget i)
          (λ u. counted i l (choice.runner_open i l runs) u)
          (λ calm. absurd (choice.none_beaten_lem k i h l o idle runs (more_urgent urgent calm)))

      -- And it counts the idle job too.
      more_counted : sum_to tasks.count (λ i. bit (ran i)) < count_urgent tasks slack m
      unfolding count_urgent
      more_counted =
          sum_strict (λ i. bit (ran i)) (λ i. bit (may_turn_urgent tasks slack m i)) tasks.count k h
          (λ i l. bit_monotone (ran i) (may_turn_urgent tasks slack m i) (runner_counted i l))
          (omega (arith, bit_false (ran k) idle, bit_true (may_turn_urgent tasks slack m k) (counted k h o urgent)))

    -- Were an urgent job idle, at least m would run, and the test would count more than m.
    pub urgent_runs : count_urgent tasks slack m ≤ m → UrgentRun tasks.count ran jobs
    unfolding UrgentRun
    urgent_runs few k h o urgent =
        by_test (ran k)
        (λ runs. runs)
        (λ idle.
        ⊎_elim
        (λ full. absurd (omega (arith, more_counted k h o urgent idle)))
        (λ all. all k h o)
        choice.enough)
