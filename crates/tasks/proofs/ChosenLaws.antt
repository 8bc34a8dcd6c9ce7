-- Some tasks of a list, chosen by flags. Others cite: `picked`, where in the list each chosen task stands, with `picked_there`, `picked_rises` and `picked_task`;
-- `chosen_few`, that there are no more than in the list; and `but_one`, that a list without one entry is such a choice.
use Prim.Native.Nat.{ℕ, zero, suc, ◌≤◌, ◌<◌}
use native.Mathlib.Omega.{arith}
use mathlib.Core.Path.{◌≡◌, refl, ap}
use mathlib.Core.Bool.{Bool, true, false}
use mathlib.Core.List.{List, [], ◌∷◌, ◌++◌}
use lib.ListN.{get_or, length, take, drop, replicate}
use Rattle.tasks.specs.Table.{zero_task}
use Rattle.tasks.specs.Trimmed.{chosen}
use Rattle.tasks.specs.declared.task.Task.{Task}

-- the index of the flag that chose entry i
pub picked : List Bool → (i : ℕ) → ℕ
picked [] i = 0
picked (true ∷ flags) zero = 0
picked (true ∷ flags) (suc i) = suc (picked flags i)
picked (false ∷ flags) i = suc (picked flags i)

pub picked_there : (flags : List Bool) (tasks : List Task) (i : ℕ) → i < length (chosen flags tasks) → picked flags i < length tasks
unfolding chosen picked
picked_there [] tasks i h = absurd (omega arith)
picked_there (flag ∷ flags) [] i h = absurd (omega arith)
picked_there (true ∷ flags) (one ∷ tasks) zero h = omega arith
picked_there (true ∷ flags) (one ∷ tasks) (suc i) h = omega (arith, picked_there flags tasks i (omega arith))
picked_there (false ∷ flags) (one ∷ tasks) i h = omega (arith, picked_there flags tasks i h)

pub picked_rises : (flags : List Bool) (tasks : List Task) (i j : ℕ) → i < j → j < length (chosen flags tasks) → picked flags i < picked flags j
unfolding chosen picked
picked_rises [] tasks i j l h = absurd (omega arith)
picked_rises (flag ∷ flags) [] i j l h = absurd (omega arith)
picked_rises (true ∷ flags) (one ∷ tasks) i zero l h = absurd (omega arith)
picked_rises (true ∷ flags) (one ∷ tasks) zero (suc j) l h = omega arith
picked_rises (true ∷ flags) (one ∷ tasks) (suc i) (suc j) l h = omega (arith, picked_rises flags tasks i j (omega arith) (omega arith))
picked_rises (false ∷ flags) (one ∷ tasks) i j l h = omega (arith, picked_rises flags tasks i j l h)

pub picked_task : (flags : List Bool) (tasks : List Task) (i : ℕ) →
    i < length (chosen flags tasks) →
    get_or (chosen flags tasks) i zero_task ≡ get_or tasks (picked flags i) zero_task
unfolding chosen picked
picked_task [] tasks i h = absurd (omega arith)
picked_task (flag ∷ flags) [] i h = absurd (omega arith)
picked_task (true ∷ flags) (one ∷ tasks) zero h = refl
picked_task (true ∷ flags) (one ∷ tasks) (suc i) h = picked_task flags tasks i (omega arith)
picked_task (false ∷ flags) (one ∷ tasks) i h = picked_task flags tasks i h

pub chosen_few : (flags : List Bool) (tasks : List Task) → length (chosen flags tasks) ≤ length tasks
unfolding chosen
chosen_few [] tasks = omega arith
chosen_few (flag ∷ flags) [] = omega arith
chosen_few (true ∷ flags) (one ∷ tasks) = omega (arith, chosen_few flags tasks)
chosen_few (false ∷ flags) (one ∷ tasks) = omega (arith, chosen_few flags tasks)

-- flags that choose all of the first n entries but entry i
pub all_but : (i n : ℕ) → List Bool
all_but i n = replicate i true ++ false ∷ replicate n true

all_chosen : (n : ℕ) (tasks : List Task) → length tasks ≤ n → chosen (replicate n true) tasks ≡ tasks
unfolding chosen
all_chosen zero [] few = refl
all_chosen (suc n) [] few = refl
all_chosen zero (one ∷ tasks) few = absurd (omega arith)
all_chosen (suc n) (one ∷ tasks) few = ap (λ (rest : List Task). one ∷ rest) (all_chosen n tasks (omega arith))

pub but_one : (i n : ℕ) (tasks : List Task) → length tasks ≤ n → chosen (all_but i n) tasks ≡ take i tasks ++ drop (suc i) tasks
unfolding chosen all_but
but_one zero n [] few = refl
but_one (suc i) n [] few = refl
but_one zero n (one ∷ tasks) few = all_chosen n tasks (omega arith)
but_one (suc i) n (one ∷ tasks) few = ap (λ (rest : List Task). one ∷ rest) (but_one i n tasks (omega arith))
