-- Values: document 01, "The table as text".
use Rattle.std.specs.Prelude.{ℕ, List, Bool}
use Rattle.text.specs.Number.{well_formed}

-- "A value is 1 to 7 digits without a leading zero"
unfoldable pub is_value : List ℕ → Bool
is_value f = well_formed 7 f
