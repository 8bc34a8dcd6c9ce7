-- A release keeps the invariant: `release_keeps`, at the end.
use Prim.Native.Nat.{ℕ, ◌≤◌, ◌<◌}
use mathlib.Core.Path.{◌≡◌}
use mathlib.Core.Bool.{true, false}
use native.Mathlib.Omega.{arith}
use Rattle.edzl.specs.TaskSet.{TaskSet}
use Rattle.edzl.proofs.WellFormed.{WellFormed}
use Rattle.edzl.specs.Window.{spare}
use Rattle.edzl.proofs.Potential.{release}
use Rattle.edzl.proofs.WindowLaws.{same_task}
use Rattle.edzl.proofs.Invariant.{Jobs, Bound, Ahead, SlackFits, Invariant, RestSame, allowance, claim, lost, held_open}
use Rattle.edzl.proofs.BoundLaws.{claim_open, claim_closed, claim_start, claim_same}
use Rattle.edzl.proofs.OneJob.{one_job_keeps}

-- Task j is released: it had no job and no gap, and now has one that may owe less than the task's whole budget.
pub record Released (tasks : TaskSet) (j : ℕ) (before after : Jobs) : Type 0 where
  pub was_closed : before.is_open j ≡ false
  pub was_free : before.gap j ≡ 0
  pub now_open : after.is_open j ≡ true
  pub now_left : after.left j ≡ tasks.deadline j
  pub budget_some : 1 ≤ after.budget j
  pub budget_fits : after.budget j ≤ tasks.budget j
  pub now_gap : after.gap j ≡ tasks.period j
  pub rest : RestSame tasks j before after

module _ (tasks : TaskSet) (slack : ℕ → ℕ) (m : ℕ) (well : WellFormed tasks) (slack_fits : SlackFits tasks slack) where
  module _ (j : ℕ) (j-in : j < tasks.count) (before after : Jobs) (step : Released tasks j before after) (inv : Invariant tasks slack m before) where
    -- The task claims no more after the release.
    claim_after : (l : ℕ) → claim tasks after l j ≤ claim tasks before l j
    unfolding WellFormed
    claim_after l =
        rw (
          claim_open tasks after l j step.now_open,
          claim_closed tasks before l j step.was_closed,
          step.now_left,
          step.was_free,
        )
        (release _ _ _ (well j j-in) (after.budget j) l step.budget_fits)

    -- The new job has lost nothing, and the others claim no more than they are allowed.
    bound_new : Ahead tasks slack before → Bound tasks slack m after j
    unfolding WellFormed SlackFits Ahead allowance lost spare
    bound_new ahead =
        record {
          claims = λ i h ne.
              rw (
                step.now_left,
                claim_same tasks tasks before after i (same_task tasks i) (step.rest i h ne) (tasks.deadline j),
              )
              (claim_start tasks slack before (tasks.deadline j) i (well i h) (slack_fits i h)
              (λ o. (((inv.shape i h).while_open o).budget_fits, ahead i h o)));
          paid =
              let fits = well j j-in in
              let none : lost tasks after j ≡ 0 = omega arith in
              rw none (omega arith);
        }

    -- The new job starts within its bound because the others are ahead by their slack.
    pub release_keeps : Ahead tasks slack before → Invariant tasks slack m after
    unfolding WellFormed
    release_keeps ahead =
        let fits = well j j-in in
        one_job_keeps tasks slack m j before after step.rest claim_after
        (held_open (omega arith) step.now_open (omega arith) (omega arith) (bound_new ahead))
        inv
