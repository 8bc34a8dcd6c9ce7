-- Laws of a new slack: `new_none` and `new_some`, what it is by whether the sum reaches, and `none_reaches`, that it is 0 in no other case. Others cite `new_fits`;
-- `new_antitone` and `new_more_cores`, by which it is no smaller; `new_ahead`, by which a job is ahead by it; and `new_rounded`, what it is without that test.
use Prim.Native.Nat.{ℕ, ◌+◌, ◌*◌, ◌-◌, ◌/◌, ◌%◌, ◌≤◌, ◌<◌}
use mathlib.Core.Path.{◌≡◌, sym, ap, ◌∙◌}
use native.Mathlib.Nat.{mul_comm, mul-le-mul_left, mul-le-mul_right, lt_of_mul-lt-mul_left, le-div_iff_mul-le, div-mul-le_self, div-add-mod', div-eq_of_lt-le, mod-lt}
use native.Mathlib.Omega.{arith}
use borrow.Author.Tests.{le-leb, lt-leb}
use Rattle.laws.proofs.CaseSplits.{by_order}
use Rattle.edzl.specs.Slack.{reaches, new_slack}

module _ (m A sum : ℕ) where
  pub new_none : m * A ≤ sum → new_slack m A sum ≡ 0
  unfolding new_slack reaches
  new_none h = rw (le-leb (m * A) sum h)

  pub new_some : sum < m * A → new_slack m A sum ≡ A - sum / m
  unfolding new_slack reaches
  new_some h = rw (lt-leb (m * A) sum h)

  -- With no core every sum reaches.
  some_cores : sum < m * A → 0 < m
  some_cores h =
      by_order 1 m
      (λ some. some)
      (λ none.
      let e : m ≡ 0 = omega arith in
      let nothing : m * A ≡ 0 = rw e (omega arith) in
      absurd (omega arith))

  pub new_fits : new_slack m A sum ≤ A
  new_fits = by_order (m * A) sum (λ h. rw (new_none h) (omega arith)) (λ h. rw (new_some h) (omega arith))

-- It is no larger where the sum is no smaller.
pub new_antitone : (m A sum sum' : ℕ) → sum ≤ sum' → new_slack m A sum' ≤ new_slack m A sum
new_antitone m A sum sum' l =
    by_order (m * A) sum'
    (λ h. rw (new_none m A sum' h) (omega arith))
    (λ h.
    let quotients : sum / m ≤ sum' / m = (le-div_iff_mul-le (some_cores m A sum' h)).1 (omega (arith, div-mul-le_self sum m)) in
    rw (new_some m A sum' h, new_some m A sum (omega arith)) (omega arith))

-- A job that is in time and has lost at most what the sum gives for each core is ahead by the new slack.
pub new_ahead : (m A sum budget left : ℕ) → budget ≤ left → m * ((A + budget) - left) ≤ sum → budget + new_slack m A sum ≤ left
new_ahead m A sum budget left in_time paid =
    by_order (m * A) sum
    (λ h. rw (new_none m A sum h) (omega arith))
    (λ h.
    let lost : (A + budget) - left ≤ sum / m =
    (le-div_iff_mul-le (some_cores m A sum h)).1 (omega (arith, mul_comm m ((A + budget) - left)))
    in
    rw (new_some m A sum h) (omega arith))

-- It is 0 only where the sum reaches.
pub none_reaches : (m A sum : ℕ) → new_slack m A sum ≡ 0 → m * A ≤ sum
none_reaches m A sum none =
    by_order (m * A) sum
    (λ h. h)
    (λ h.
    let all-used : A ≤ sum / m = omega (arith, new_some m A sum h) in
    absurd (omega (arith, (le-div_iff_mul-le (some_cores m A sum h)).0 all-used, mul_comm m A)))

-- It is no smaller on more cores.
pub new_more_cores : (m m' A sum : ℕ) → m ≤ m' → new_slack m A sum ≤ new_slack m' A sum
new_more_cores m m' A sum more =
    by_order (m * A) sum
    (λ h. rw (new_none m A sum h) (omega arith))
    (λ h.
    let below : sum < m' * A = omega (arith, mul-le-mul_right A more) in
    let quotients : sum / m' ≤ sum / m =
    (le-div_iff_mul-le (some_cores m A sum h)).1 (omega (arith, mul-le-mul_left (sum / m') more, div-mul-le_self sum m'))
    in
    rw (new_some m A sum h, new_some m' A sum below) (omega arith))

-- It is what the sum lacks, divided by m and rounded up.
pub new_rounded : (m A sum : ℕ) → 1 ≤ m → new_slack m A sum ≡ (m * A - sum + m - 1) / m
new_rounded m A sum some =
    by_order (m * A) sum
    (λ h.
    let none : (m * A - sum + m - 1) / m ≡ 0 = div-eq_of_lt-le m (omega arith) (omega arith) in
    new_none m A sum h ∙ sym none)
    (λ h.
    let q = sum / m in
    let cut : sum ≡ q * m + sum % m = sym (div-add-mod' sum m) in
    let rest : sum % m < m = mod-lt sum some in
    let q-small : q < A = lt_of_mul-lt-mul_left m (omega (arith, mul_comm m q)) in
    let d = A - q in
    let whole : m * A ≡ m * q + m * d = let e : A ≡ q + d = omega arith in ap (λ (n : ℕ). m * n) e ∙ omega arith in
    let lacking : (m * A - sum + m - 1) / m ≡ d =
    div-eq_of_lt-le m (omega (arith, mul_comm m q, mul_comm m d)) (omega (arith, mul_comm m q, mul_comm m d))
    in
    new_some m A sum h ∙ sym lacking)
