-- Lists whose first entries are replaced.
use Rattle.std.specs.Prelude.{ℕ, zero, suc, List, set}

-- a list with its first n entries, or all where it has fewer, replaced by those of f; the others stay as they are
unfoldable pub replaced : {A : Type 0} → (n : ℕ) → (ℕ → A) → List A → List A
replaced zero f l = l
replaced (suc n) f l = set (replaced n f l) n (f n)
