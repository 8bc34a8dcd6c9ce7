-- The search for the next runner: document 01, "The slot machine".
use Rattle.std.specs.Prelude.{ℕ, zero, suc, Bool, true, cond, not, ◌&&◌, Option, Some, None}

-- what a search goes by: how many tasks there are, closed and picked ones among them, which of them wait (are open and not picked), and which
-- precedes which, each by its index
pub record Candidates : Type 0 where
  pub count : ℕ
  pub waits : ℕ → Bool
  pub precedes : (i j : ℕ) → Bool

-- no waiting task among the first n precedes task i: "It looks at unpicked open tasks only."
unfoldable pub unpreceded : Candidates → (i n : ℕ) → Bool
unpreceded q i zero = true
unpreceded q i (suc n) = unpreceded q i n && not (q.waits n && q.precedes n i)

-- an "open task that no unpicked one precedes"
unfoldable pub is_next : Candidates → ℕ → Bool
is_next q i = q.waits i && unpreceded q i q.count

-- the index of the first of the n tasks from index i on that is next, if one is
unfoldable pub first_next : Candidates → (i n : ℕ) → Option ℕ
first_next q i zero = None
first_next q i (suc n) = cond (is_next q i) (Some i) (first_next q (suc i) n)

-- "The search for the next runner ends at the first open task that no unpicked one precedes.": its index; none where there is none, which in a
-- strict order is where no task waits
unfoldable pub next_runner : Candidates → Option ℕ
next_runner q = first_next q 0 q.count
