-- A slot keeps the invariant, whatever legal choice of runners is made. Others cite, where every urgent job runs (`urgent_runs`), `owes_in_time`
-- and `slot_keeps`, at the end.
use Prim.Native.Nat.{ℕ, ◌+◌, ◌*◌, ◌-◌, ◌≤◌, ◌<◌}
use mathlib.Core.Path.{◌≡◌}
use mathlib.Core.Bool.{Bool, true, false}
use mathlib.Core.Logic.{⊎_elim}
use native.Mathlib.Nat.{le_trans}
use native.Mathlib.Omega.{arith}
use Rattle.edzl.specs.TaskSet.{TaskSet}
use Rattle.edzl.proofs.WellFormed.{WellFormed}
use Rattle.laws.specs.Sums.{sum_to, bit, others}
use Rattle.laws.proofs.CaseSplits.{by_order, by_test, not_both}
use Rattle.laws.proofs.SumLaws.{others_gain, bit_true, bit_false}
use Rattle.edzl.proofs.Invariant.{Jobs, Bound, Invariant, claim, lost, used, invariant, held_open, held_closed}
use Rattle.edzl.proofs.BoundLaws.{bound_kept}
use Rattle.edzl.proofs.Choice.{UrgentRun, neither_urgent}
use Rattle.edzl.proofs.Slot.{StillOpen, Slotted, went_on, no_job, way, claim_passes, claim_falls}

module _ (tasks : TaskSet) (slack : ℕ → ℕ) (m : ℕ) (well : WellFormed tasks) (ran : ℕ → Bool) (before after : Jobs) where
  module _ (step : Slotted tasks m ran before after) (urgent : UrgentRun tasks.count ran before) (inv : Invariant tasks slack m before) where
    -- An idle job is not urgent.
    calm : (k : ℕ) → k < tasks.count → before.is_open k ≡ true → ran k ≡ false → before.budget k < before.left k
    unfolding UrgentRun
    calm k h o idle =
        by_order (before.left k) (before.budget k)
        (λ u. not_both (ran k) (urgent k h o u) idle)
        (λ l. l)

    -- A job owes no more after the slot than it has slots left: at its deadline nothing.
    pub owes_in_time : (i : ℕ) → i < tasks.count → before.is_open i ≡ true → before.budget i - bit (ran i) ≤ before.left i - 1
    owes_in_time i h o =
        by_test (ran i)
        (λ runs. omega (arith, bit_true (ran i) runs, inv.in_time i h o))
        (λ idle. omega (arith, calm i h o idle))

    -- A runner's budget reaches into the slots of an idle job: it is urgent, or its deadline is no later.
    runner_reaches : (k i : ℕ) → k < tasks.count → i < tasks.count → before.is_open k ≡ true → ran k ≡ false → ran i ≡ true →
        before.left i - before.left k < before.budget i
    runner_reaches k i h l o idle runs =
        let s = (inv.shape k h).while_open o in
        let s' = (inv.shape i l).while_open (step.choice.runner_open i l runs) in
        by_order (before.left i) (before.budget i)
        (λ u. omega arith)
        (λ c.
        by_order (before.left i) (before.left k)
        (λ sooner. omega arith)
        (λ later. absurd (step.choice.none_beaten_lem k i h l o idle runs (neither_urgent (calm k h o idle) c later))))

    -- While one open job is idle, at least m tasks run.
    all_busy : (k : ℕ) → k < tasks.count → before.is_open k ≡ true → ran k ≡ false → m ≤ sum_to tasks.count (λ i. bit (ran i))
    all_busy k h o idle = ⊎_elim (λ full. full) (λ all. not_both (ran k) (all k h o) idle) step.choice.enough

    -- A job k that goes on.
    module _ (k : ℕ) (h : k < tasks.count) (o : before.is_open k ≡ true) where
      module _ (owes : 1 ≤ before.budget k - bit (ran k)) (more : 1 ≤ before.left k - 1) (still : StillOpen ran before after k) where
        passes : (i : ℕ) → i < tasks.count → claim tasks after (after.left k) i ≤ claim tasks before (before.left k) i
        passes i l = rw still.now_left (claim_passes tasks slack m well ran before after step inv i l (before.left k) (omega arith))

        lost_run : ran k ≡ true → lost tasks after k ≡ lost tasks before k
        unfolding lost
        lost_run runs = omega (arith, bit_true (ran k) runs)

        lost_idle : ran k ≡ false → 0 < lost tasks after k → lost tasks after k ≡ lost tasks before k + 1
        unfolding lost
        lost_idle idle some = omega (arith, bit_false (ran k) idle)

        -- Where it loses a slot, each runner uses one slot more of its allowance.
        used_more : ran k ≡ false →
            lost tasks after k ≡ lost tasks before k + 1 →
            (i : ℕ) →
            i < tasks.count →
            (i ≡ k → ⊥) →
            used tasks slack before k i + bit (ran i) ≤ used tasks slack after k i
        unfolding used
        used_more idle loses i l ne =
            by_test (ran i)
            (λ runs.
            let reaches = runner_reaches k i h l o idle runs in
            let falls = claim_falls tasks slack m well ran before after step inv i l (before.left k) (omega arith) runs reaches in
            rw (bit_true (ran i) runs, still.now_left, loses) (omega (arith, (inv.bound k h o).claims i l ne)))
            (λ rests. rw (loses, bit_false (ran i) rests) (omega (arith, passes i l)))

        paid_idle : ran k ≡ false → m * lost tasks after k ≤ sum_to tasks.count (others k (used tasks slack after k))
        paid_idle idle =
            by_order 1 (lost tasks after k)
            (λ some.
            let loses = lost_idle idle some in
            rw loses
            (omega (
              arith,
              (inv.bound k h o).paid,
              others_gain (used tasks slack before k) (λ i. bit (ran i)) (used tasks slack after k) k tasks.count m
                  (all_busy k h o idle)
                  (bit_false (ran k) idle)
                  (used_more idle loses),
            )))
            (λ nothing.
            let e : lost tasks after k ≡ 0 = omega arith in
            rw e (omega arith))

        -- If k ran it lost nothing, and if it was idle the runners used what it lost.
        bound_still : Bound tasks slack m after k
        bound_still =
            by_test (ran k)
            (λ runs. bound_kept tasks slack m before after k (lost_run runs) (λ i l ne. passes i l) (inv.bound k h o))
            (λ idle.
            record {
              claims = λ i l ne. le_trans (passes i l) ((inv.bound k h o).claims i l ne);
              paid = paid_idle idle;
            })

    pub slot_keeps : Invariant tasks slack m after
    slot_keeps =
        invariant λ i h.
        let gap = (step.effect i h).gap_falls in
        let gap_fits : after.gap i ≤ tasks.period i = omega (arith, (inv.shape i h).gap_fits) in
        elim (way (step.effect i h)) [
          | went_on o owes more still ↦
              let s = (inv.shape i h).while_open o in
              held_open gap_fits still.still_open (omega arith) (omega (arith, owes_in_time i h o)) (bound_still i h o owes more still)
          | no_job none ↦ held_closed gap_fits none
        ]
