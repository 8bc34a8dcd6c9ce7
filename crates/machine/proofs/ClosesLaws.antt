-- When a log closes a job that has l slots left and owes b: what its first entry settles, and what it leaves to the rest. Others cite
-- `closes`, the five laws and `closes_by_slot`.
use Prim.Native.Nat.{ℕ, ◌-◌, ◌≤◌, ◌<◌}
use mathlib.Core.Path.{◌≡◌}
use mathlib.Core.Bool.{Bool, true, false, cond, ◌||◌, or_comm, or_assoc, or-true}
use mathlib.Core.List.{List, ◌∷◌}
use native.Mathlib.Omega.{arith}
use borrow.Author.Tests.{le-leb, lt-leb, ne_eqb}
use Rattle.machine.specs.Play.{Entry}
use Rattle.machine.specs.InTime.{accepted_slot, accepted_finish, says_ran, says_finished, up_to_slot, any_finish, ran_whole, closed_by_slot}

-- the task of this number finishes, or runs out its b slots, by the l-th slot
unfoldable pub closes : (number l b : ℕ) → List Entry → Bool
closes number l b log = any_finish number (up_to_slot l log) || ran_whole number b (up_to_slot l log)

pub closes_by_slot : (number need deadline : ℕ) (log : List Entry) → closed_by_slot number need deadline log ≡ closes number deadline need log
unfolding closes closed_by_slot
closes_by_slot number need deadline log = or_comm (ran_whole number need (up_to_slot deadline log)) (any_finish number (up_to_slot deadline log))

module _ (number l b : ℕ) (e : Entry) (log : List Entry) (l-some : 1 ≤ l) where
  goes_in : up_to_slot l (e ∷ log) ≡ e ∷ up_to_slot (cond (accepted_slot e) (l - 1) l) log
  unfolding up_to_slot
  goes_in = rw (ne_eqb l 0 (λ h. omega arith))

  -- what the entries after e settle, e does not undo
  still_settled :
      (c : ℕ) (up : List Entry) → (any_finish number up || ran_whole number c up) ≡ true
      → ((accepted_finish number e || any_finish number up) || ran_whole number c up) ≡ true
  still_settled c up h = rw (or_assoc, h, or-true)

  pub closes_finish : accepted_finish number e ≡ true → closes number l b (e ∷ log) ≡ true
  unfolding closes any_finish
  closes_finish finishes = rw (goes_in, finishes)

  -- an entry that is no slot
  pub closes_past : accepted_slot e ≡ false → closes number l b log ≡ true → closes number l b (e ∷ log) ≡ true
  unfolding closes any_finish ran_whole says_ran
  closes_past no_slot rest =
      rw (goes_in, no_slot) (still_settled b (up_to_slot l log) rest)

  module _ (is-slot : accepted_slot e ≡ true) where
    pub closes_idle : says_ran number e ≡ false → closes number (l - 1) b log ≡ true → closes number l b (e ∷ log) ≡ true
    unfolding closes any_finish ran_whole
    closes_idle idle rest =
        rw (goes_in, is-slot, idle)
        (still_settled b (up_to_slot (l - 1) log) rest)

    module _ (runs : says_ran number e ≡ true) where
      pub closes_ran : 1 < b → closes number (l - 1) (b - 1) log ≡ true → closes number l b (e ∷ log) ≡ true
      unfolding closes any_finish ran_whole
      closes_ran more rest =
          rw (goes_in, is-slot, runs, lt-leb b 1 more)
          (still_settled (b - 1) (up_to_slot (l - 1) log) rest)

      pub closes_last : b ≤ 1 → says_finished number e ≡ true → closes number l b (e ∷ log) ≡ true
      unfolding closes ran_whole
      closes_last few finishes = rw (goes_in, runs, le-leb b 1 few, finishes, or-true)
