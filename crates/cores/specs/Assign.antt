-- Which core each runner of a slot has: document 02, change 4. A list of cores has an entry for each of the tasks that a table may have, 0
-- for no core. Tasks are named by their indexes, from 0, and the runners are listed in precedence.
use Rattle.std.specs.Prelude.{ℕ, zero, suc, List, [], ◌∷◌, Bool, false, cond, ◌||◌, eqb, leb, get_or, set, replicate}
use Rattle.tasks.specs.Limits.{max_tasks}

-- "A task that runs again and whose core is among 1 to k keeps it.": the core that a runner keeps, by its recorded one; 0, which
-- is no core, where it keeps none
unfoldable pub kept_core : (recorded k : ℕ) → ℕ
kept_core recorded k = cond (leb recorded k) recorded 0

-- the cores when every runner that keeps its core has it, and no other task has one
unfoldable pub kept : (recorded : List ℕ) → (k : ℕ) → (runners : List ℕ) → List ℕ
kept recorded k [] = replicate max_tasks 0
kept recorded k (i ∷ runners) = set (kept recorded k runners) i (kept_core (get_or recorded i 0) k)

-- a number is among those of a list
unfoldable pub is_among : (numbers : List ℕ) → ℕ → Bool
is_among [] n = false
is_among (x ∷ numbers) n = eqb x n || is_among numbers n

-- the first of the n cores from `core` on that is not used; 0 where each is
unfoldable pub first_unused : (isUsed : ℕ → Bool) → (core n : ℕ) → ℕ
first_unused isUsed core zero = 0
first_unused isUsed core (suc n) = cond (isUsed core) (first_unused isUsed (suc core) n) core

-- "The other runners, in precedence, take the unused cores in rising number.": one after the other, a runner that has none takes the lowest of 1 to k
-- that no task has by then
unfoldable pub taken : (k : ℕ) → (runners : List ℕ) → (assigned : List ℕ) → List ℕ
taken k [] assigned = assigned
taken k (i ∷ runners) assigned =
    taken k runners (cond (eqb (get_or assigned i 0) 0) (set assigned i (first_unused (is_among assigned) 1 k)) assigned)

-- the core of each runner of a slot with k cores, and 0 for every other task: first every keeper keeps its core, and then "The
-- other runners, in precedence, take" theirs
unfoldable pub assignment : (recorded : List ℕ) → (k : ℕ) → (runners : List ℕ) → List ℕ
assignment recorded k runners = taken k runners (kept recorded k runners)
