-- A line of numbers, one number at a time, for the loop that puts those after the first: `next_number`, `no_number`.
use Prim.Native.Nat.{ℕ, ◌+◌, ◌≤◌, ◌<◌}
use native.Mathlib.Numerals.{add-one}
use mathlib.Core.Path.{◌≡◌}
use mathlib.Core.List.{List, [], ◌∷◌, ◌++◌}
use lib.ListN.{length, get_or, drop, drop_of_length-le}
use lib.Seq.{drop-cons}
use Rattle.text.specs.Lines.{line_end, space}
use Rattle.text.specs.Number.{decimal_text}
use Rattle.text.specs.Output.{further_numbers}

module _ (ns : List ℕ) (i : ℕ) where
  pub next_number :
      i < length ns → further_numbers (drop i ns) ≡ (space ∷ []) ++ decimal_text (get_or ns i 0) ++ further_numbers (drop (i + 1) ns)
  unfolding further_numbers
  next_number h = rw (add-one, drop-cons ns i 0 h)

  pub no_number : length ns ≤ i → further_numbers (drop i ns) ≡ line_end ∷ []
  unfolding further_numbers
  no_number h = rw (drop_of_length-le ns h)
