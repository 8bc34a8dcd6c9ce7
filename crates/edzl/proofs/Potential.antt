-- The potential of the proof: a task's claim, a bound on how many slots it can still take from another task's job that has l slots to its
-- deadline. It is read off the task's numbers and the present record of its job. Others cite `open_claim` and `closed_claim`, and one law for
-- each thing that can happen: `start_open` and `start_closed`, `release`, `finish`, `pass_open` and `pass_closed`, `take`.
use Prim.Native.Nat.{ℕ, ◌+◌, ◌-◌, ◌≤◌, ◌<◌}
use mathlib.Core.Path.{◌≡◌, ap}
use native.Mathlib.Omega.{arith}
use Rattle.edzl.proofs.WellFormed.{TaskFits}
use Rattle.edzl.specs.Window.{interference}
use Rattle.laws.proofs.CaseSplits.{by_order}
use Rattle.edzl.proofs.InterferenceLaws as I

-- The staircase of interference, rising at the end of each period instead of at its start.
unfoldable pub trailing : (T C z : ℕ) → ℕ
trailing T C z = interference T C (z + C) - C

-- While the job is open: what is left of its budget by then, and the jobs after it.
unfoldable pub open_claim : (T C left budget l : ℕ) → ℕ
open_claim T C left budget l = (budget - (left - l)) + trailing T C (l - left)

-- While there is no job: the jobs from the next release on.
unfoldable pub closed_claim : (T C D gap l : ℕ) → ℕ
closed_claim T C D gap l = trailing T C ((l + T) - (D + gap))

module _ (T C D : ℕ) (fits : TaskFits T C D) where
  t_some : 1 ≤ T
  t_some = omega arith

  c_fits : C ≤ T
  c_fits = omega arith

  -- The subtraction in `trailing` never stops at 0.
  trailing_more : (z : ℕ) → trailing T C z + C ≡ interference T C (z + C)
  unfolding trailing
  trailing_more z = omega (arith, I.at_least T C t_some c_fits (z + C))

  trailing_monotone : (y z : ℕ) → y ≤ z → trailing T C y ≤ trailing T C z
  trailing_monotone y z h =
      omega (arith, trailing_more y, trailing_more z, I.monotone T C t_some c_fits (y + C) (z + C) (omega arith))

  trailing_period : (z : ℕ) → trailing T C (z + T) ≡ trailing T C z + C
  trailing_period z =
      let e : (z + T) + C ≡ (z + C) + T = omega arith in
      omega (arith, trailing_more z, rw e at (trailing_more (z + T)), I.period_more T C t_some c_fits (z + C))

  trailing_first : (z : ℕ) → z ≤ T → trailing T C z ≡ C - (T - z)
  trailing_first z h =
      by_order (z + C) T
      (λ small. omega (arith, trailing_more z, I.first_period T C t_some c_fits (z + C) small))
      (λ large.
      let x = (z + C) - T in
      let e : z + C ≡ x + T = omega arith in
      omega (
        arith,
        trailing_more z,
        ap (interference T C) e,
        I.period_more T C t_some c_fits x,
        I.first_period T C t_some c_fits x (omega arith),
      ))

  -- Before the deadline of the job only its budget counts.
  open_before : (left b l : ℕ) → l ≤ left → open_claim T C left b l ≡ b - (left - l)
  unfolding open_claim
  open_before left b l h =
      let e : l - left ≡ 0 = omega arith in
      omega (arith, ap (trailing T C) e, trailing_first 0 (omega arith))

  -- Start: what a task may claim from a job whose whole deadline is ahead, with slack S.
  pub start_open : (S left b l : ℕ) → b ≤ C → b + S ≤ left → open_claim T C left b l ≤ interference T C (l - S)
  unfolding open_claim
  start_open S left b l b-fits ahead =
      by_order l left
      (λ before. omega (arith, open_before left b l before, I.at_least T C t_some c_fits (l - S)))
      (λ after.
      let x = l - left in
      by_order (x + C) (l - S)
      (λ long. omega (arith, trailing_more x, I.monotone T C t_some c_fits (x + C) (l - S) long))
      (λ short.
      let e : (l - S) + ((x + C) - (l - S)) ≡ x + C = omega arith in
      omega (arith, trailing_more x, rw e at (I.grows T C t_some c_fits ((x + C) - (l - S)) (l - S)))))

  pub start_closed : (S gap l : ℕ) → S + C ≤ D → closed_claim T C D gap l ≤ interference T C (l - S)
  unfolding closed_claim
  start_closed S gap l slack_fits =
      let z = (l + T) - D in
      let A = D - C in
      let drop : trailing T C ((l + T) - (D + gap)) ≤ trailing T C z = trailing_monotone _ z (omega arith) in
      by_order A l
      (λ long.
      let e : z + C ≡ (l - A) + T = omega arith in
      omega (
        arith,
        drop,
        trailing_more z,
        ap (interference T C) e,
        I.period_more T C t_some c_fits (l - A),
        I.monotone T C t_some c_fits (l - A) (l - S) (omega arith),
      ))
      (λ short. omega (arith, drop, trailing_first z (omega arith)))

  -- Release: a new job claims no more than the task did before it.
  pub release : (b l : ℕ) → b ≤ C → open_claim T C D b l ≤ closed_claim T C D 0 l
  unfolding closed_claim open_claim
  release b l b-fits =
      by_order l D
      (λ before. omega (arith, open_before D b l before, trailing_first ((l + T) - (D + 0)) (omega arith)))
      (λ after.
      let e : (l + T) - (D + 0) ≡ (l - D) + T = omega arith in
      omega (arith, ap (trailing T C) e, trailing_period (l - D)))

  -- Finish: a closed job claims no more than it did while open, since what it leaves is its open form with no budget.
  pub finish : (left b gap l : ℕ) → gap ≡ left + (T - D) → closed_claim T C D gap l ≤ open_claim T C left b l
  unfolding closed_claim open_claim
  finish left b gap l h =
      let e : (l + T) - (D + gap) ≡ l - left = omega arith in
      omega (arith, ap (trailing T C) e)

  -- After a slot in which l falls too, neither difference of the open form has changed.
  open_slot : (left b l : ℕ) → 1 ≤ left → 1 ≤ l → open_claim T C (left - 1) b (l - 1) ≡ open_claim T C left b l
  unfolding open_claim
  open_slot left b l left_some l-some =
      let e : (l - 1) - (left - 1) ≡ l - left = omega arith in
      let d : (left - 1) - (l - 1) ≡ left - l = omega arith in
      rw (e, d)

  -- Pass: a slot in which l falls too lets no claim grow, whether the budget stays or falls.
  pub pass_open : (left b b' l : ℕ) → 1 ≤ left → 1 ≤ l → b' ≤ b → open_claim T C (left - 1) b' (l - 1) ≤ open_claim T C left b l
  unfolding open_claim
  pass_open left b b' l left_some l-some h = rw (open_slot left b' l left_some l-some) (omega arith)

  pub pass_closed : (gap l : ℕ) → 1 ≤ l → closed_claim T C D (gap - 1) (l - 1) ≤ closed_claim T C D gap l
  unfolding closed_claim
  pass_closed gap l l-some = trailing_monotone _ _ (omega arith)

  -- Take: a slot in which the task runs, while its budget reaches into the other job's slots, lowers its claim.
  pub take : (left b l : ℕ) → 1 ≤ left → 1 ≤ l → left - l < b → open_claim T C (left - 1) (b - 1) (l - 1) + 1 ≤ open_claim T C left b l
  unfolding open_claim
  take left b l left_some l-some reaches = rw (open_slot left (b - 1) l left_some l-some) (omega arith)
