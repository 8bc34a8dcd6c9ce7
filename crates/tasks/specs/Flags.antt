-- Some of a table's tasks as one number: document 01, "The table as text", of the session program; and of a log, document 02, change 11.
use Rattle.std.specs.Prelude.{ℕ, zero, suc, ◌+◌, ◌*◌, ◌/◌, ◌%◌, Bool, List, [], ◌∷◌, eqb}
use Rattle.laws.specs.Sums.{bit}
use Rattle.tasks.specs.Limits.{max_tasks}

-- "the sum of 2 to the power (task number − 1)", where a list has a flag for each task
unfoldable pub mask : List Bool → ℕ
mask [] = 0
mask (named ∷ others) = bit named + 2 * mask others

-- the first n flags of such a sum: the first task is named where the sum is odd, and half of it is the sum of the others
unfoldable pub flags_from : (n : ℕ) → ℕ → List Bool
flags_from zero v = []
flags_from (suc n) v = eqb (v % 2) 1 ∷ flags_from n (v / 2)

-- change 11: "A value is the sum of 2 to the power (task number − 1)": the flags of a value of 32 bits
unfoldable pub flags_of : ℕ → List Bool
flags_of v = flags_from max_tasks v
