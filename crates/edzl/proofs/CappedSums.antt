-- Sums over the others of parts that count up to a cap, as the sum of a task counts them up to its spare. Others cite `capped`, such a sum, and `cap_raised`: with a
-- larger cap the sum gives a slack that is no smaller. It goes by steps of 1, and each of them by `few_above`: below m times the cap there are fewer than m
-- parts above it, so a sum with a cap of 1 more is less than m larger.
use Prim.Native.Nat.{ℕ, suc, ◌+◌, ◌*◌, ◌/◌, ◌%◌, ◌≤◌, ◌<◌, min}
use mathlib.Core.Path.{◌≡◌, sym}
use lib.Dec.{ltb}
use native.Mathlib.Nat.{mul-le-mul_right, div-add-mod', div-lt_iff_lt-mul, mod-lt}
use native.Mathlib.Omega.{arith}
use borrow.Author.Tests.{ltb-true, ltb-false}
use Rattle.laws.specs.Sums.{sum_to, bit, others}
use Rattle.laws.proofs.CaseSplits.{by_order, by_equal, by_test}
use Rattle.laws.proofs.Steps.{by_steps}
use Rattle.laws.proofs.SumLaws.{sum_monotone, sum_add, sum_times, others_at, others_off, bit_true, bit_false}
use Rattle.edzl.specs.Slack.{new_slack}
use Rattle.edzl.proofs.SlackLaws.{new_none, new_some}

-- The sum of the parts other than k, each counted up to the cap.
abbrev pub capped : (parts : ℕ → ℕ) (k n cap : ℕ) → ℕ
capped parts k n cap = sum_to n (others k (λ i. min (parts i) cap))

-- How many of these parts are above the cap.
abbrev above : (parts : ℕ → ℕ) (k n cap : ℕ) → ℕ
above parts k n cap = sum_to n (others k (λ i. bit (ltb cap (parts i))))

module _ (parts : ℕ → ℕ) (k n : ℕ) where
  -- Each part above the cap counts for the whole of it.
  whole_caps : (cap : ℕ) → above parts k n cap * cap ≤ capped parts k n cap
  whole_caps cap =
      rw (← sum_times (others k (λ i. bit (ltb cap (parts i)))) cap n)
      (sum_monotone _ _ n λ i h.
      by_equal i k
      (λ e. rw (others_at (λ i. bit (ltb cap (parts i))) e) (omega arith))
      (λ ne.
      rw (others_off (λ i. bit (ltb cap (parts i))) ne, others_off (λ i. min (parts i) cap) ne)
      (by_test (ltb cap (parts i))
      (λ larger. rw (bit_true _ larger) (omega (arith, ltb-true cap (parts i) larger)))
      (λ fits. rw (bit_false _ fits) (omega arith)))))

  -- The counting: a sum below m times the cap has fewer than m parts above the cap.
  few_above : (m cap : ℕ) → capped parts k n cap < m * cap → above parts k n cap < m
  few_above m cap below =
      by_order m (above parts k n cap)
      (λ many. absurd (omega (arith, whole_caps cap, mul-le-mul_right cap many)))
      (λ few. few)

  -- A cap of 1 more adds 1 for each part above the cap.
  one_more : (cap : ℕ) → capped parts k n (suc cap) ≤ capped parts k n cap + above parts k n cap
  one_more cap =
      rw (← sum_add (others k (λ i. min (parts i) cap)) (others k (λ i. bit (ltb cap (parts i)))) n)
      (sum_monotone _ _ n λ i h.
      by_equal i k
      (λ e. rw (others_at (λ i. min (parts i) (suc cap)) e) (omega arith))
      (λ ne.
      rw (
        others_off (λ i. min (parts i) (suc cap)) ne,
        others_off (λ i. min (parts i) cap) ne,
        others_off (λ i. bit (ltb cap (parts i))) ne,
      )
      (by_test (ltb cap (parts i))
      (λ larger. rw (bit_true _ larger) (omega (arith, ltb-true cap (parts i) larger)))
      (λ fits. rw (bit_false _ fits) (omega (arith, ltb-false cap (parts i) fits))))))

  -- One step: the quotient of the sum by m grows by at most 1, and so does the cap.
  raised_by_one : (m cap : ℕ) → new_slack m cap (capped parts k n cap) ≤ new_slack m (suc cap) (capped parts k n (suc cap))
  raised_by_one m cap =
      let sum = capped parts k n cap in
      let sum' = capped parts k n (suc cap) in
      by_order (m * cap) sum
      (λ reaches. rw (new_none m cap sum reaches) (omega arith))
      (λ below.
      let few : above parts k n cap < m = few_above m cap below in
      let grown : sum' ≤ sum + above parts k n cap = one_more cap in
      let some : 0 < m = omega arith in
      let below' : sum' < m * suc cap = omega arith in
      let cut : sum ≡ sum / m * m + sum % m = sym (div-add-mod' sum m) in
      let rest : sum % m < m = mod-lt sum some in
      let quotients : sum' / m < sum / m + 2 = (div-lt_iff_lt-mul some).1 (omega arith) in
      rw (new_some m cap sum below, new_some m (suc cap) sum' below') (omega arith))

  pub cap_raised : (m cap cap' : ℕ) → cap ≤ cap' → new_slack m cap (capped parts k n cap) ≤ new_slack m cap' (capped parts k n cap')
  cap_raised m = by_steps (λ cap. new_slack m cap (capped parts k n cap)) (raised_by_one m)
