-- The invariant that keeps every job in time, on the state of the jobs as plain functions of the task's index. Others cite: `Jobs`, `Invariant`
-- and its parts; `Fresh`, `SameJob`, `RestSame`; `Held`, what it says of one task, with `invariant`, `of_task_lem`, `held_open` and `held_closed`;
-- and `fresh_starts`, that a fresh state has it.
use Prim.Native.Nat.{ℕ, ◌+◌, ◌*◌, ◌-◌, ◌≤◌, ◌<◌, min}
use mathlib.Core.Path.{◌≡◌}
use mathlib.Core.Bool.{Bool, true, false, cond}
use native.Mathlib.Omega.{arith}
use Rattle.edzl.specs.TaskSet.{TaskSet}
use Rattle.edzl.specs.Window.{interference, spare}
use Rattle.laws.specs.Sums.{sum_to, others}
use Rattle.laws.proofs.CaseSplits.{not_both}
use Rattle.edzl.proofs.Potential.{open_claim, closed_claim}

-- The state of each task's job: whether there is one, its slots to the deadline, its slots still owed, and the slots until the task's
-- next release is allowed.
pub record Jobs : Type 0 where
  pub is_open : ℕ → Bool
  pub left : ℕ → ℕ
  pub budget : ℕ → ℕ
  pub gap : ℕ → ℕ

-- Task i has no job: "A closed task has left 0 and budget 0."
pub record NoJob (jobs : Jobs) (i : ℕ) : Type 0 where
  pub closed : jobs.is_open i ≡ false
  pub left_none : jobs.left i ≡ 0
  pub budget_none : jobs.budget i ≡ 0

-- The numbers of an open job: the gap ends with the period that the job was released in.
pub record OpenShape (T C D left budget gap : ℕ) : Type 0 where
  pub left_some : 1 ≤ left
  pub left_fits : left ≤ D
  pub budget_some : 1 ≤ budget
  pub budget_fits : budget ≤ C
  pub gap_is : gap ≡ left + (T - D)

-- The numbers of task i, with a job and without.
pub record Shape (tasks : TaskSet) (jobs : Jobs) (i : ℕ) : Type 0 where
  pub gap_fits : jobs.gap i ≤ tasks.period i
  pub while_open : jobs.is_open i ≡ true →
      OpenShape (tasks.period i) (tasks.budget i) (tasks.deadline i) (jobs.left i) (jobs.budget i) (jobs.gap i)
  pub while_closed : jobs.is_open i ≡ false → NoJob jobs i

-- What task i can still take from a job that has l slots to its deadline.
unfoldable pub claim : TaskSet → Jobs → (l i : ℕ) → ℕ
claim tasks jobs l i =
    cond (jobs.is_open i)
    (open_claim (tasks.period i) (tasks.budget i) (jobs.left i) (jobs.budget i) l)
    (closed_claim (tasks.period i) (tasks.budget i) (tasks.deadline i) (jobs.gap i) l)

-- What the window test allows task i to take from a job of task k.
unfoldable pub allowance : TaskSet → (slack : ℕ → ℕ) → (k i : ℕ) → ℕ
allowance tasks slack k i = interference (tasks.period i) (tasks.budget i) (tasks.deadline k - slack i)

-- The slots that job k has lost out of its spare.
unfoldable pub lost : TaskSet → Jobs → ℕ → ℕ
lost tasks jobs k = (spare tasks k + jobs.budget k) - jobs.left k

-- The part of the allowance that task i has used up, so far as it counts.
unfoldable pub used : TaskSet → (slack : ℕ → ℕ) → Jobs → (k i : ℕ) → ℕ
used tasks slack jobs k i = min (lost tasks jobs k) (allowance tasks slack k i - claim tasks jobs (jobs.left k) i)

-- No task claims more than it is allowed, and what job k has lost on m cores was used by the others.
pub record Bound (tasks : TaskSet) (slack : ℕ → ℕ) (m : ℕ) (jobs : Jobs) (k : ℕ) : Type 0 where
  pub claims : (i : ℕ) → i < tasks.count → (i ≡ k → ⊥) → claim tasks jobs (jobs.left k) i ≤ allowance tasks slack k i
  pub paid : m * lost tasks jobs k ≤ sum_to tasks.count (others k (used tasks slack jobs k))

-- A job owes at most the slots that it has, with the task's slack to spare.
unfoldable pub Ahead : TaskSet → (slack : ℕ → ℕ) → Jobs → Type 0
Ahead tasks slack jobs = (i : ℕ) → i < tasks.count → jobs.is_open i ≡ true → jobs.budget i + slack i ≤ jobs.left i

-- No task has more slack than spare.
unfoldable pub SlackFits : TaskSet → (slack : ℕ → ℕ) → Type 0
SlackFits tasks slack = (i : ℕ) → i < tasks.count → slack i ≤ spare tasks i

-- Every job has its shape, is in time, and has the bound by which it stays in time.
pub record Invariant (tasks : TaskSet) (slack : ℕ → ℕ) (m : ℕ) (jobs : Jobs) : Type 0 where
  pub shape : (i : ℕ) → i < tasks.count → Shape tasks jobs i
  pub in_time : (i : ℕ) → i < tasks.count → jobs.is_open i ≡ true → jobs.budget i ≤ jobs.left i
  pub bound : (k : ℕ) → k < tasks.count → jobs.is_open k ≡ true → Bound tasks slack m jobs k

-- "A fresh machine has every task closed and all three numbers 0."
pub record Fresh (tasks : TaskSet) (jobs : Jobs) : Type 0 where
  pub none : (i : ℕ) → i < tasks.count → NoJob jobs i
  pub gap_none : (i : ℕ) → i < tasks.count → jobs.gap i ≡ 0

-- One job is as it was.
pub record SameJob (before after : Jobs) (i : ℕ) : Type 0 where
  pub same_open : after.is_open i ≡ before.is_open i
  pub same_left : after.left i ≡ before.left i
  pub same_budget : after.budget i ≡ before.budget i
  pub same_gap : after.gap i ≡ before.gap i

-- The jobs of all tasks but j are as they were.
abbrev pub RestSame : TaskSet → (j : ℕ) → (before after : Jobs) → Type 0
RestSame tasks j before after = (i : ℕ) → i < tasks.count → (i ≡ j → ⊥) → SameJob before after i

-- What the invariant says of one task.
pub record Held (tasks : TaskSet) (slack : ℕ → ℕ) (m : ℕ) (jobs : Jobs) (i : ℕ) : Type 0 where
  pub shape : Shape tasks jobs i
  pub in_time : jobs.is_open i ≡ true → jobs.budget i ≤ jobs.left i
  pub bound : jobs.is_open i ≡ true → Bound tasks slack m jobs i

module _ {tasks : TaskSet} {slack : ℕ → ℕ} {m : ℕ} {jobs : Jobs} where
  pub of_task_lem : Invariant tasks slack m jobs → (i : ℕ) → i < tasks.count → Held tasks slack m jobs i
  of_task_lem inv i h = record { shape = inv.shape i h; in_time = inv.in_time i h; bound = inv.bound i h }

  pub invariant : ((i : ℕ) → i < tasks.count → Held tasks slack m jobs i) → Invariant tasks slack m jobs
  invariant held = record { shape = λ i h. (held i h).shape; in_time = λ i h. (held i h).in_time; bound = λ k h. (held k h).bound }

  module _ {i : ℕ} (gap_fits : jobs.gap i ≤ tasks.period i) where
    pub held_open : jobs.is_open i ≡ true →
        OpenShape (tasks.period i) (tasks.budget i) (tasks.deadline i) (jobs.left i) (jobs.budget i) (jobs.gap i) →
        jobs.budget i ≤ jobs.left i →
        Bound tasks slack m jobs i →
        Held tasks slack m jobs i
    held_open o shape in_time bound =
        record {
          shape = record { gap_fits = gap_fits; while_open = λ _. shape; while_closed = λ c. not_both (jobs.is_open i) o c };
          in_time = λ _. in_time;
          bound = λ _. bound;
        }

    pub held_closed : NoJob jobs i → Held tasks slack m jobs i
    held_closed none =
        record {
          shape = record { gap_fits = gap_fits; while_open = λ o. not_both (jobs.is_open i) o none.closed; while_closed = λ _. none };
          in_time = λ o. not_both (jobs.is_open i) o none.closed;
          bound = λ o. not_both (jobs.is_open i) o none.closed;
        }

pub fresh_starts : (tasks : TaskSet) (slack : ℕ → ℕ) (m : ℕ) (jobs : Jobs) → Fresh tasks jobs → Invariant tasks slack m jobs
fresh_starts tasks slack m jobs fresh = invariant (λ i h. held_closed (omega (arith, fresh.gap_none i h)) (fresh.none i h))
