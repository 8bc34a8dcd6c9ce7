-- Parts of a list, as the checker writes those of a slice, and lists by their lengths.
use Prim.Native.Nat.{ℕ, ◌+◌, ◌-◌, ◌≤◌}
use native.Mathlib.Nat.{le_refl}
use native.Mathlib.Omega.{arith}
use mathlib.Core.Path.{◌≡◌, refl}
use mathlib.Core.List.{List, [], ◌∷◌}
use lib.ListN.{length, take, drop, length-drop}
use lib.Seq.{take_all}

-- the part from a place to the end, and what follows the entry at a place
abbrev pub from : {A : Type 0} → List A → ℕ → List A
from s k = take (length s - k) (drop k s)

abbrev pub past : {A : Type 0} → List A → ℕ → List A
past s k = from s (k + 1)

pub from_drop : {A : Type 0} (s : List A) (k : ℕ) → from s k ≡ drop k s
from_drop s k = take_all (length s - k) (drop k s) (rw (length-drop k s) (le_refl (length s - k)))

pub from_length : {A : Type 0} (s : List A) (k : ℕ) → length (from s k) ≡ length s - k
from_length s k = rw (from_drop s k) (length-drop k s)

pub empty : {A : Type 0} (s : List A) → length s ≤ 0 → s ≡ []
empty [] h = refl
empty (x ∷ s) h = absurd (omega arith)
