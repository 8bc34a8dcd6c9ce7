-- The bound of a job. Others cite: `claim_open` and `claim_closed`, a claim by the task's state; `claim_start`, a claim where all of the window is
-- ahead; `lost_bound` and `urgent_counted`, that a task whose job is urgent is one of those that the test counts; `bound_moved` and
-- `bound_kept`, where a step keeps the bound; and `claim_same`, `lost_same` and `held_same`, of a task that a step leaves alone.
use Prim.Native.Nat.{ℕ, ◌+◌, ◌*◌, ◌-◌, ◌≤◌, ◌<◌}
use mathlib.Core.Path.{◌≡◌, sym, ◌∙◌}
use mathlib.Core.Bool.{true, false}
use native.Mathlib.Nat.{le_refl, le_trans}
use native.Mathlib.Omega.{arith}
use borrow.Author.Tests.{le-leb}
use Rattle.edzl.specs.TaskSet.{TaskSet}
use Rattle.edzl.proofs.WellFormed.{TaskFits}
use Rattle.laws.specs.Sums.{others}
use Rattle.edzl.specs.Window.{interference, spare, window_sum, may_turn_urgent}
use Rattle.laws.proofs.CaseSplits.{by_order, by_test}
use Rattle.laws.proofs.SumLaws.{sum_longer, others_monotone}
use Rattle.edzl.proofs.WindowLaws.{SameTask}
use Rattle.edzl.proofs.Potential.{open_claim, closed_claim, start_open, start_closed}
use Rattle.edzl.proofs.Invariant.{Jobs, Bound, Held, SameJob, allowance, claim, lost, used, held_open, held_closed}

module _ (tasks : TaskSet) (jobs : Jobs) where
  pub claim_open : (l i : ℕ) →
      jobs.is_open i ≡ true →
      claim tasks jobs l i ≡ open_claim (tasks.period i) (tasks.budget i) (jobs.left i) (jobs.budget i) l
  unfolding claim
  claim_open l i e = rw e

  pub claim_closed : (l i : ℕ) →
      jobs.is_open i ≡ false →
      claim tasks jobs l i ≡ closed_claim (tasks.period i) (tasks.budget i) (tasks.deadline i) (jobs.gap i) l
  unfolding claim
  claim_closed l i e = rw e

module _ (tasks : TaskSet) (slack : ℕ → ℕ) (jobs : Jobs) where
  -- The law `start`, whatever the state of task i.
  pub claim_start : (l i : ℕ) →
      TaskFits (tasks.period i) (tasks.budget i) (tasks.deadline i) →
      slack i ≤ spare tasks i →
      (jobs.is_open i ≡ true → (jobs.budget i ≤ tasks.budget i) × (jobs.budget i + slack i ≤ jobs.left i)) →
      claim tasks jobs l i ≤ interference (tasks.period i) (tasks.budget i) (l - slack i)
  unfolding spare
  claim_start l i fits slack_fits ahead =
      by_test (jobs.is_open i)
      (λ e. rw (claim_open tasks jobs l i e) (start_open _ _ _ fits (slack i) (jobs.left i) (jobs.budget i) l (ahead e).0 (ahead e).1))
      (λ e. rw (claim_closed tasks jobs l i e) (start_closed _ _ _ fits (slack i) (jobs.gap i) l (omega arith)))

  module _ (m k : ℕ) (bound : Bound tasks slack m jobs k) (in_time : jobs.budget k ≤ jobs.left k) where
    -- What a job in time has lost is within the sum of its task.
    pub lost_bound : m * lost tasks jobs k ≤ window_sum tasks slack k
    unfolding used lost window_sum allowance
    lost_bound = le_trans bound.paid (others_monotone _ _ k tasks.count (λ i h ne. omega arith))

    -- An urgent job is one that the test counts.
    pub urgent_counted : jobs.left k ≤ jobs.budget k → may_turn_urgent tasks slack m k ≡ true
    unfolding may_turn_urgent lost
    urgent_counted urgent =
        let all-lost : lost tasks jobs k ≡ spare tasks k = omega arith in
        le-leb _ _ (rw all-lost at lost_bound)

-- A job keeps its bound where it has lost as much as before, no other task claims more or is allowed less, and a task that is new claims
-- what it is allowed.
pub bound_moved : (tasks tasks' : TaskSet) (slack slack' : ℕ → ℕ) (m : ℕ) (before after : Jobs) (k : ℕ) →
    tasks.count ≤ tasks'.count →
    lost tasks' after k ≡ lost tasks before k →
    ((i : ℕ) → i < tasks.count → (i ≡ k → ⊥) → claim tasks' after (after.left k) i ≤ claim tasks before (before.left k) i) →
    ((i : ℕ) → i < tasks.count → (i ≡ k → ⊥) → allowance tasks slack k i ≤ allowance tasks' slack' k i) →
    ((i : ℕ) → tasks.count ≤ i → i < tasks'.count → claim tasks' after (after.left k) i ≤ allowance tasks' slack' k i) →
    Bound tasks slack m before k →
    Bound tasks' slack' m after k
unfolding used
bound_moved tasks tasks' slack slack' m before after k longer same less more new bound =
    record {
      claims = λ i h ne.
          by_order tasks.count i
          (λ l. new i l h)
          (λ l. omega (arith, less i l ne, more i l ne, bound.claims i l ne));
      paid =
          rw same
          (omega (
            arith,
            bound.paid,
            others_monotone (used tasks slack before k) (used tasks' slack' after k) k tasks.count
                (λ i h ne. rw same (omega (arith, less i h ne, more i h ne))),
            sum_longer (others k (used tasks' slack' after k)) tasks.count tasks'.count longer,
          ));
    }

-- The same with the set of tasks and the slack as they were.
pub bound_kept : (tasks : TaskSet) (slack : ℕ → ℕ) (m : ℕ) (before after : Jobs) (k : ℕ) →
    lost tasks after k ≡ lost tasks before k →
    ((i : ℕ) → i < tasks.count → (i ≡ k → ⊥) → claim tasks after (after.left k) i ≤ claim tasks before (before.left k) i) →
    Bound tasks slack m before k →
    Bound tasks slack m after k
bound_kept tasks slack m before after k same less bound =
    bound_moved tasks tasks slack slack m before after k
    (le_refl _)
    same
    less
    (λ i h ne. le_refl _)
    (λ i h l. absurd (omega arith))
    bound

-- A task that a step leaves alone: its numbers and its job are as they were.
module _ (tasks tasks' : TaskSet) (before after : Jobs) (i : ℕ) (task : SameTask tasks tasks' i) (job : SameJob before after i) where
  pub claim_same : (l : ℕ) → claim tasks' after l i ≡ claim tasks before l i
  unfolding claim
  claim_same l =
      rw (task.same_period, task.same_budget, task.same_deadline, job.same_open, job.same_left, job.same_budget, job.same_gap)

  pub lost_same : lost tasks' after i ≡ lost tasks before i
  unfolding lost spare
  lost_same = rw (task.same_budget, task.same_deadline, job.same_left, job.same_budget)

  pub held_same : (slack slack' : ℕ → ℕ) (m : ℕ) →
      (before.is_open i ≡ true → Bound tasks slack m before i → Bound tasks' slack' m after i) →
      Held tasks slack m before i →
      Held tasks' slack' m after i
  held_same slack slack' m kept held =
      let gap_fits : after.gap i ≤ tasks'.period i = omega (arith, held.shape.gap_fits) in
      by_test (after.is_open i)
      (λ o.
      let was_open = sym job.same_open ∙ o in
      let s = held.shape.while_open was_open in
      held_open gap_fits o (omega arith) (omega (arith, held.in_time was_open)) (kept was_open (held.bound was_open)))
      (λ c.
      let none = held.shape.while_closed (sym job.same_open ∙ c) in
      held_closed gap_fits
      (record { closed = c; left_none = job.same_left ∙ none.left_none; budget_none = job.same_budget ∙ none.budget_none }))
