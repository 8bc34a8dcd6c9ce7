-- Whether the first line of a text is what it must be. Others cite `is_ended`; and, by how many bytes stand before the first byte 10, `not_ended_lem`, where these are
-- all of the text, and `first_is_lem`, where they are not.
use Prim.Native.Nat.{ℕ, ◌≤◌, ◌<◌}
use mathlib.Core.Path.{◌≡◌}
use mathlib.Core.Bool.{Bool, true, false}
use mathlib.Core.List.{List}
use lib.ListN.{length, take}
use Rattle.laws.proofs.Booleans.{and_left}
use Rattle.text.specs.Lines.{line_end, has, before, first_is}
use Rattle.text.proofs.Split.{cut, hasnt_of}

module _ (must : List ℕ → Bool) (s : List ℕ) where
  pub is_ended : first_is must s ≡ true → has line_end s ≡ true
  unfolding first_is
  is_ended b = and_left (has line_end s) (must (before line_end s)) b

  module _ (k : ℕ) (e : k ≡ length (before line_end s)) where
    pub not_ended_lem : length s ≤ k → first_is must s ≡ false
    unfolding first_is
    not_ended_lem h = rw (hasnt_of line_end s (rw e at h))

    pub first_is_lem : k < length s → first_is must s ≡ must (take k s)
    unfolding first_is
    first_is_lem h = let line = cut line_end s k e h in rw (line.is, ← line.front)
