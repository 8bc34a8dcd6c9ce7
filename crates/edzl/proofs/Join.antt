-- A join keeps the invariant: `join_keeps`, at the end. The longer set may have smaller slacks.
use Prim.Native.Nat.{ℕ, suc, ◌-◌, ◌≤◌, ◌<◌}
use mathlib.Core.Path.{◌≡◌}
use mathlib.Core.Bool.{true}
use native.Mathlib.Nat.{le_of_eq, le_trans}
use native.Mathlib.Omega.{arith}
use Rattle.edzl.specs.TaskSet.{TaskSet}
use Rattle.edzl.proofs.WellFormed.{WellFormed}
use Rattle.edzl.specs.Window.{spare}
use Rattle.laws.proofs.CaseSplits.{by_order, not_both}
use Rattle.edzl.proofs.WindowLaws.{SameTask, window_more}
use Rattle.edzl.proofs.CheaperLaws.{shorter_cheaper, part_no_larger}
use Rattle.edzl.proofs.Invariant.{Jobs, NoJob, Bound, Invariant, SameJob, allowance, claim, invariant, of_task_lem, held_closed}
use Rattle.edzl.proofs.BoundLaws.{claim_start, bound_moved, claim_same, lost_same, held_same}

-- A task is added at the end of the set, closed, with gap 0.
pub record Joined (shorter longer : TaskSet) (before after : Jobs) : Type 0 where
  pub one_more : longer.count ≡ suc shorter.count
  pub same_tasks : (i : ℕ) → i < shorter.count → SameTask shorter longer i
  pub same_jobs : (i : ℕ) → i < shorter.count → SameJob before after i
  pub new_job : NoJob after shorter.count
  pub new_gap : after.gap shorter.count ≡ 0

-- The slacks of the longer set are no larger, and that of the new task fits.
pub record SlackShrinks (shorter longer : TaskSet) (slack slack' : ℕ → ℕ) : Type 0 where
  pub no_larger : (i : ℕ) → i < shorter.count → slack' i ≤ slack i
  pub new_fits : slack' shorter.count ≤ spare longer shorter.count

module _ (shorter longer : TaskSet) (slack slack' : ℕ → ℕ) (m : ℕ) (well : WellFormed longer) (less : SlackShrinks shorter longer slack slack') where
  module _ (before after : Jobs) (step : Joined shorter longer before after) (inv : Invariant shorter slack m before) where
    -- The old tasks are allowed no less.
    allowance_old : (k i : ℕ) → k < shorter.count → i < shorter.count → allowance shorter slack k i ≤ allowance longer slack' k i
    unfolding allowance shorter_cheaper
    allowance_old = part_no_larger longer shorter well (shorter_cheaper shorter longer (omega arith) step.same_tasks) slack' slack less.no_larger

    -- The new task claims no more than it is allowed, from a job that has at most its whole deadline.
    claim_new : (l k : ℕ) → l ≤ longer.deadline k → claim longer after l shorter.count ≤ allowance longer slack' k shorter.count
    unfolding allowance WellFormed
    claim_new l k h =
        let n = shorter.count in
        le_trans
        (claim_start longer slack' after l n (well n (omega arith)) less.new_fits (λ o. not_both (after.is_open n) o step.new_job.closed))
        (window_more longer well n (l - slack' n) (longer.deadline k - slack' n) (omega arith) (omega arith))

    bound_old : (k : ℕ) → k < shorter.count → before.is_open k ≡ true → Bound shorter slack m before k → Bound longer slack' m after k
    bound_old k h was_open =
        let job = step.same_jobs k h in
        let task = step.same_tasks k h in
        let s = (inv.shape k h).while_open was_open in
        bound_moved shorter longer slack slack' m before after k
        (omega arith)
        (lost_same shorter longer before after k task job)
        (λ i l ne.
        rw job.same_left (le_of_eq (claim_same shorter longer before after i (step.same_tasks i l) (step.same_jobs i l) (before.left k))))
        (λ i l ne. allowance_old k i h l)
        (λ i l l'.
        let e : i ≡ shorter.count = omega arith in
        rw e (claim_new (after.left k) k (omega arith)))

    pub join_keeps : Invariant longer slack' m after
    join_keeps =
        invariant λ i h.
        by_order shorter.count i
        (λ l.
        let e : i ≡ shorter.count = omega arith in
        rw e (held_closed (omega (arith, step.new_gap)) step.new_job))
        (λ l.
        held_same shorter longer before after i (step.same_tasks i l) (step.same_jobs i l) slack slack' m
        (bound_old i l)
        (of_task_lem inv i l))
