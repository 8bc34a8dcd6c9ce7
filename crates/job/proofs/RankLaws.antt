-- The rank of a job. Others cite: `open_rank`, that an open job's is that of a waiting task; and `rank_precedes_lem`, that precedence by rank is
-- precedence. Both ask that left and budget are below 2^20 (`Small`), as they are on a sound machine; the code's rank is a number of 64 bits for
-- every left and budget of 32.
use Prim.Native.Nat.{ℕ, ◌+◌, ◌<◌}
use mathlib.Core.Path.{◌≡◌, ◌∙◌}
use mathlib.Core.Bool.{true, false}
use native.Mathlib.Omega.{arith}
use borrow.Author.Tests.{lt-ltb, le-ltb, eq-eqb, ne_eqb}
use Rattle.laws.proofs.CaseSplits.{by_order, by_equal, by_test}
use Rattle.laws.proofs.Tests.{same_ltb, same_eqb}
use Rattle.job.specs.Job.{is_urgent}
use Rattle.job.specs.Precedence.{longer_first, left_first, by_urgency, job_precedes}
use Rattle.job.specs.Rank.{slot_weight, later, never, alike_rank, rank, waits, rank_precedes}
use Rattle.job.specs.declared.job.Job.{Job}

-- A job whose left and budget are below 2^20.
pub record Small (j : Job) : Type 0 where
  pub left_small : j.left < slot_weight
  pub budget_small : j.budget < slot_weight

-- It keeps urgent jobs apart from the others, and open ones from those that do not wait.
alike_below : (j : Job) → Small j → alike_rank j < later
unfolding alike_rank
alike_below j small = omega (arith, small)

-- The rank of an open job, by whether it is urgent.
module _ (j : Job) (o : j.«open» ≡ true) where
  urgent_rank : is_urgent j ≡ true → rank j ≡ alike_rank j
  unfolding rank alike_rank
  urgent_rank u = rw (u, o)

  other_rank : is_urgent j ≡ false → rank j ≡ later + alike_rank j
  unfolding rank alike_rank
  other_rank u = rw (u, o)

  pub open_rank : Small j → waits (rank j) ≡ true
  unfolding waits
  open_rank small =
      let below = alike_below j small in
      by_test (is_urgent j)
      (λ u. lt-ltb (rank j) never (omega (arith, below, urgent_rank u)))
      (λ u. lt-ltb (rank j) never (omega (arith, below, other_rank u)))

-- A slot of left outweighs the budgets.
left_outweighs : (x y : Job) → Small x → Small y → x.left < y.left → alike_rank x < alike_rank y
unfolding alike_rank
left_outweighs x y small-x small-y l = omega (arith, small-x, small-y)

-- As much more on both sides changes nothing.
shifted : (more x i y j : ℕ) → rank_precedes (more + x) i (more + y) j ≡ rank_precedes x i y j
unfolding rank_precedes
shifted more x i y j =
    let less = same_ltb (more + x) (more + y) x y (λ h. omega arith) (λ h. omega arith) in
    let equal = same_eqb (more + x) (more + y) x y (λ h. omega arith) (λ h. omega arith) in
    rw (less, equal)

module _ (x : Job) (i : ℕ) (y : Job) (j : ℕ) (small-x : Small x) (small-y : Small y) where
  -- Of equal left, the larger budget has the smaller rank.
  same_left : x.left ≡ y.left → rank_precedes (alike_rank x) i (alike_rank y) j ≡ longer_first x i y j
  unfolding alike_rank rank_precedes longer_first
  same_left e =
      rw (
        same_ltb (alike_rank x) (alike_rank y) y.budget x.budget (λ h. omega (arith, small-x, small-y)) (λ h. omega (arith, small-x, small-y)),
        same_eqb (alike_rank x) (alike_rank y) x.budget y.budget (λ h. omega (arith, small-x, small-y)) (λ h. omega (arith, small-x, small-y)),
      )

  alike_first : rank_precedes (alike_rank x) i (alike_rank y) j ≡ left_first x i y j
  unfolding rank_precedes left_first
  alike_first =
      by_order x.left y.left
      (λ h.
      by_equal x.left y.left
      (λ e. same_left e ∙ rw (le-ltb x.left y.left (omega arith), eq-eqb _ _ e))
      (λ ne.
      let l : x.left < y.left = omega arith in
      rw (lt-ltb _ _ l, lt-ltb _ _ (left_outweighs x y small-x small-y l))))
      (λ l.
      let more = left_outweighs y x small-y small-x l in
      rw (
        le-ltb x.left y.left (omega arith),
        ne_eqb x.left y.left (λ e. omega arith),
        le-ltb (alike_rank x) (alike_rank y) (omega (arith, more)),
        ne_eqb (alike_rank x) (alike_rank y) (λ e. omega (arith, more)),
      ))

  pub rank_precedes_lem : x.«open» ≡ true → y.«open» ≡ true → rank_precedes (rank x) i (rank y) j ≡ job_precedes x i y j
  unfolding rank_precedes job_precedes by_urgency
  rank_precedes_lem open-x open-y =
      let below-x = alike_below x small-x in
      let below-y = alike_below y small-y in
      by_test (is_urgent x)
      (λ p.
      by_test (is_urgent y)
      (λ q. rw (p, q, urgent_rank x open-x p, urgent_rank y open-y q) alike_first)
      (λ q. rw (p, q, urgent_rank x open-x p, lt-ltb (alike_rank x) (rank y) (omega (arith, below-x, other_rank y open-y q)))))
      (λ p.
      by_test (is_urgent y)
      (λ q.
      let more : rank y < rank x = omega (arith, below-y, other_rank x open-x p, urgent_rank y open-y q) in
      rw (p, q, le-ltb (rank x) (rank y) (omega (arith, more)), ne_eqb (rank x) (rank y) (λ e. omega (arith, more))))
      (λ q.
      rw (p, q, other_rank x open-x p, other_rank y open-y q) (shifted later (alike_rank x) i (alike_rank y) j ∙ alike_first)))
