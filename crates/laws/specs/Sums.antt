-- Sums over indexes, and counting as a sum: what document 01 calls "the total, over every i" and "the number of".
use Rattle.std.specs.Prelude.{ℕ, zero, suc, ◌+◌, Bool, cond, eqb}

-- The total of f over the indexes below n.
unfoldable pub sum_to : ℕ → (ℕ → ℕ) → ℕ
sum_to zero f = 0
sum_to (suc n) f = sum_to n f + f n

-- f, with nothing at k: a sum of it is "over every i other than k".
unfoldable pub others : ℕ → (ℕ → ℕ) → ℕ → ℕ
others k f i = cond (eqb i k) 0 (f i)

-- 1 for what holds and 0 for what does not, so that a sum counts.
unfoldable pub bit : Bool → ℕ
bit t = cond t 1 0
