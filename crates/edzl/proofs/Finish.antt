-- A finish keeps the invariant: `finish_keeps`, at the end.
use Prim.Native.Nat.{ℕ, ◌≤◌, ◌<◌}
use mathlib.Core.Path.{◌≡◌}
use mathlib.Core.Bool.{true}
use native.Mathlib.Omega.{arith}
use Rattle.edzl.specs.TaskSet.{TaskSet}
use Rattle.edzl.proofs.WellFormed.{WellFormed}
use Rattle.edzl.proofs.Potential.{finish}
use Rattle.edzl.proofs.Invariant.{Jobs, NoJob, Invariant, RestSame, claim, held_closed}
use Rattle.edzl.proofs.BoundLaws.{claim_open, claim_closed}
use Rattle.edzl.proofs.OneJob.{one_job_keeps}

-- The job of task j closes; the gap stays.
pub record Finished (tasks : TaskSet) (j : ℕ) (before after : Jobs) : Type 0 where
  pub was_open : before.is_open j ≡ true
  pub ended : NoJob after j
  pub same_gap : after.gap j ≡ before.gap j
  pub rest : RestSame tasks j before after

module _ (tasks : TaskSet) (slack : ℕ → ℕ) (m : ℕ) (well : WellFormed tasks) (j : ℕ) (j-in : j < tasks.count) where
  module _ (before after : Jobs) (step : Finished tasks j before after) (inv : Invariant tasks slack m before) where
    -- The task claims no more after the finish.
    claim_after : (l : ℕ) → claim tasks after l j ≤ claim tasks before l j
    unfolding WellFormed
    claim_after l =
        let s = (inv.shape j j-in).while_open step.was_open in
        rw (
          claim_open tasks before l j step.was_open,
          claim_closed tasks after l j step.ended.closed,
          step.same_gap,
        )
        (finish _ _ _ (well j j-in) (before.left j) (before.budget j) (before.gap j) l s.gap_is)

    pub finish_keeps : Invariant tasks slack m after
    finish_keeps =
        one_job_keeps tasks slack m j before after step.rest claim_after
        (held_closed (omega (arith, step.same_gap, (inv.shape j j-in).gap_fits)) step.ended)
        inv
