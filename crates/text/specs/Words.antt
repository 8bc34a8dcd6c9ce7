-- Words of a text.
use Rattle.std.specs.Prelude.{ℕ, List, [], ◌∷◌, Bool, true, false, ◌&&◌, eqb}

-- whether two texts are equal, byte by byte
unfoldable pub same_bytes : List ℕ → List ℕ → Bool
same_bytes [] [] = true
same_bytes [] (y ∷ t) = false
same_bytes (x ∷ s) [] = false
same_bytes (x ∷ s) (y ∷ t) = eqb x y && same_bytes s t

-- whether the text begins with the word, given first
unfoldable pub begins_with : List ℕ → List ℕ → Bool
begins_with [] s = true
begins_with (b ∷ w) [] = false
begins_with (b ∷ w) (x ∷ s) = eqb x b && begins_with w s
