-- What lists of computed tests are written in.
use Rattle.std.specs.Prelude.{ℕ, List, [], ◌∷◌, Bool, true, false, ◌&&◌, eqb}

-- two lists have the same numbers
unfoldable pub same_numbers : List ℕ → List ℕ → Bool
same_numbers [] [] = true
same_numbers [] (y ∷ t) = false
same_numbers (x ∷ s) [] = false
same_numbers (x ∷ s) (y ∷ t) = eqb x y && same_numbers s t

-- every test of a list holds
unfoldable pub all_true : List Bool → Bool
all_true [] = true
all_true (b ∷ l) = b && all_true l
