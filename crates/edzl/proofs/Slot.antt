-- What a slot does to the jobs and to their claims, whatever legal choice of runners is made. Others cite: `StillOpen`, `SlotEffect`, `Slotted`;
-- `Way` with `way`, how a task comes out of a slot; and `claim_passes` and `claim_falls`, its claim after the slot.
use Prim.Native.Nat.{ℕ, ◌+◌, ◌-◌, ◌≤◌, ◌<◌}
use mathlib.Core.Path.{◌≡◌}
use mathlib.Core.Bool.{Bool, true, false}
use native.Mathlib.Nat.{le_refl, le_trans}
use native.Mathlib.Omega.{arith}
use Rattle.edzl.specs.TaskSet.{TaskSet}
use Rattle.edzl.proofs.WellFormed.{WellFormed}
use Rattle.laws.specs.Sums.{bit}
use Rattle.laws.proofs.CaseSplits.{by_order, by_test}
use Rattle.laws.proofs.SumLaws.{bit_true}
use Rattle.edzl.proofs.Potential.{open_claim, finish, pass_open, pass_closed, take}
use Rattle.edzl.proofs.Invariant.{Jobs, NoJob, Invariant, claim}
use Rattle.edzl.proofs.BoundLaws.{claim_open, claim_closed}
use Rattle.edzl.proofs.Choice.{LegalChoice}

-- A job that goes on after the slot.
pub record StillOpen (ran : ℕ → Bool) (before after : Jobs) (i : ℕ) : Type 0 where
  pub still_open : after.is_open i ≡ true
  pub now_left : after.left i ≡ before.left i - 1
  pub now_budget : after.budget i ≡ before.budget i - bit (ran i)

-- What a slot does to task i: a runner's budget falls by 1, an open task's left and every gap above 0 fall by 1, and then an open task
-- with no budget or nothing left closes.
pub record SlotEffect (ran : ℕ → Bool) (before after : Jobs) (i : ℕ) : Type 0 where
  pub gap_falls : after.gap i ≡ before.gap i - 1
  pub stays_closed : before.is_open i ≡ false → NoJob after i
  pub closes_finished : before.is_open i ≡ true → before.budget i - bit (ran i) ≡ 0 → NoJob after i
  pub closes_late : before.is_open i ≡ true → before.left i - 1 ≡ 0 → NoJob after i
  pub stays_open : before.is_open i ≡ true → 1 ≤ before.budget i - bit (ran i) → 1 ≤ before.left i - 1 → StillOpen ran before after i

pub record Slotted (tasks : TaskSet) (m : ℕ) (ran : ℕ → Bool) (before after : Jobs) : Type 0 where
  pub choice : LegalChoice tasks.count m ran before
  pub effect : (i : ℕ) → i < tasks.count → SlotEffect ran before after i

-- How a task comes out of a slot: its job goes on, or it has none.
pub data Way (ran : ℕ → Bool) (before after : Jobs) (i : ℕ) : Type 0 where
  went_on : before.is_open i ≡ true →
      1 ≤ before.budget i - bit (ran i) →
      1 ≤ before.left i - 1 →
      StillOpen ran before after i →
      Way ran before after i
  no_job : NoJob after i → Way ran before after i

pub way : {ran : ℕ → Bool} {before after : Jobs} {i : ℕ} → SlotEffect ran before after i → Way ran before after i
way {ran} {before} {after} {i} effect =
    by_test (before.is_open i)
    (λ o.
    by_order 1 (before.budget i - bit (ran i))
    (λ owes.
    by_order 1 (before.left i - 1)
    (λ more. went_on o owes more (effect.stays_open o owes more))
    (λ out. no_job (effect.closes_late o (omega arith))))
    (λ done. no_job (effect.closes_finished o (omega arith))))
    (λ c. no_job (effect.stays_closed c))

module _ (tasks : TaskSet) (slack : ℕ → ℕ) (m : ℕ) (well : WellFormed tasks) (ran : ℕ → Bool) where
  module _ (before after : Jobs) (step : Slotted tasks m ran before after) (inv : Invariant tasks slack m before) (i : ℕ) (h : i < tasks.count) where
    -- A task that had a job claims no more than that job would with one slot less and what it still owes.
    claim_after : (l : ℕ) →
        before.is_open i ≡ true →
        claim tasks after l i ≤ open_claim (tasks.period i) (tasks.budget i) (before.left i - 1) (before.budget i - bit (ran i)) l
    unfolding WellFormed
    claim_after l o =
        let s = (inv.shape i h).while_open o in
        let gap = (step.effect i h).gap_falls in
        elim (way (step.effect i h)) [
          | went_on _ owes more still ↦
              rw (claim_open tasks after l i still.still_open, still.now_left, still.now_budget) (le_refl _)
          | no_job none ↦
              rw (claim_closed tasks after l i none.closed)
              (finish _ _ _ (well i h) (before.left i - 1) (before.budget i - bit (ran i)) (after.gap i) l (omega arith))
        ]

    -- Seen from a job that has l slots left and one fewer after the slot, no claim grows.
    pub claim_passes : (l : ℕ) → 1 ≤ l → claim tasks after (l - 1) i ≤ claim tasks before l i
    unfolding WellFormed
    claim_passes l l-some =
        let effect = step.effect i h in
        by_test (before.is_open i)
        (λ o.
        let s = (inv.shape i h).while_open o in
        rw (claim_open tasks before l i o)
        (le_trans
        (claim_after (l - 1) o)
        (pass_open _ _ _ (well i h) (before.left i) (before.budget i) _ l s.left_some l-some (omega arith))))
        (λ c.
        rw (
          claim_closed tasks before l i c,
          claim_closed tasks after (l - 1) i (effect.stays_closed c).closed,
          effect.gap_falls,
        )
        (pass_closed _ _ _ (well i h) (before.gap i) l l-some))

    -- And the claim of a runner whose budget reaches into those l slots falls.
    pub claim_falls : (l : ℕ) → 1 ≤ l → ran i ≡ true → before.left i - l < before.budget i →
        claim tasks after (l - 1) i + 1 ≤ claim tasks before l i
    unfolding WellFormed
    claim_falls l l-some runs reaches =
        let o = step.choice.runner_open i h runs in
        let s = (inv.shape i h).while_open o in
        rw (claim_open tasks before l i o)
        (omega (
          arith,
          rw (bit_true (ran i) runs) at (claim_after (l - 1) o),
          take _ _ _ (well i h) (before.left i) (before.budget i) l s.left_some l-some reaches,
        ))
