-- Turns of jobs: `turn_closed`, `turn_urgent` and `turn_later`. Of two open jobs the one with the smaller turn beats the other: `turn_beats`. An open job's
-- turn is below a closed one's: `open_turn`.
use Prim.Native.Nat.{ℕ, ◌+◌, ◌<◌}
use native.Mathlib.Omega.{arith}
use mathlib.Core.Path.{◌≡◌, sym, ◌∙◌}
use mathlib.Core.Bool.{Bool, true, false, cond}
use lib.Dec.{ltb}
use borrow.Author.Tests.{lt-ltb, le-ltb}
use Rattle.laws.proofs.CaseSplits.{by_order, by_test}
use Rattle.job.specs.declared.job.Job.{Job}
use Rattle.job.specs.Job.{is_urgent}
use Rattle.job.specs.Precedence.{by_urgency, job_beats}
use Rattle.auditing.specs.Turn.{later, never, turn}

is_true : (t : Bool) → t ≡ true → (x y : ℕ) → cond t x y ≡ x
is_true t e x y = rw e

is_false : (t : Bool) → t ≡ false → (x y : ℕ) → cond t x y ≡ y
is_false t e x y = rw e

module _ (j : Job) where
  pub turn_closed : j.«open» ≡ false → turn j ≡ never
  unfolding turn
  turn_closed c = rw c

  pub turn_urgent : j.«open» ≡ true → is_urgent j ≡ true → turn j ≡ j.left
  unfolding turn
  turn_urgent o u = is_true j.«open» o (cond (is_urgent j) j.left (later + j.left)) never ∙ is_true (is_urgent j) u j.left (later + j.left)

  pub turn_later : j.«open» ≡ true → is_urgent j ≡ false → turn j ≡ later + j.left
  unfolding turn
  turn_later o u = is_true j.«open» o (cond (is_urgent j) j.left (later + j.left)) never ∙ is_false (is_urgent j) u j.left (later + j.left)

  pub open_turn : j.«open» ≡ true → j.left < later → turn j < never
  open_turn o small =
      by_test (is_urgent j)
      (λ u. omega (arith, turn_urgent o u))
      (λ u. omega (arith, turn_later o u))

module _ (x y : Job) (open-x : x.«open» ≡ true) (open-y : y.«open» ≡ true) (small-x : x.left < later) (small-y : y.left < later) where
  -- what the turns say where both are alike in urgency
  alike : (a b c : ℕ) → a ≡ c + x.left → b ≡ c + y.left → ltb x.left y.left ≡ ltb a b
  alike a b c e f =
      by_order y.left x.left
      (λ h. le-ltb x.left y.left h ∙ sym (le-ltb a b (omega arith)))
      (λ h. lt-ltb x.left y.left h ∙ sym (lt-ltb a b (omega arith)))

  pub turn_beats : job_beats x y ≡ ltb (turn x) (turn y)
  unfolding job_beats by_urgency
  turn_beats =
      by_test (is_urgent x)
      (λ ux.
      let tx = turn_urgent x open-x ux in
      by_test (is_urgent y)
      (λ uy. let ty = turn_urgent y open-y uy in rw (ux, uy) (alike (turn x) (turn y) 0 (omega arith) (omega arith)))
      (λ uy. rw (ux, uy) (sym (lt-ltb (turn x) (turn y) (omega (arith, tx, turn_later y open-y uy))))))
      (λ ux.
      let tx = turn_later x open-x ux in
      by_test (is_urgent y)
      (λ uy. rw (ux, uy) (sym (le-ltb (turn x) (turn y) (omega (arith, tx, turn_urgent y open-y uy)))))
      (λ uy. rw (ux, uy) (alike (turn x) (turn y) later tx (turn_later y open-y uy))))
