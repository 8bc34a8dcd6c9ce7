-- Flags for the cores that tasks have, for the contract of a private function. There are as many as a list of cores has entries, and one more: whatever the
-- number of cores, one of these is unused while an entry is 0.
use Rattle.std.specs.Prelude.{ℕ, suc, ◌≤◌, ◌≡◌, List, Bool, false, length, get_or}
use Rattle.tasks.specs.Limits.{max_tasks}
use Rattle.cores.specs.Assign.{kept, is_among}

-- a flag for 0, which is not read, and for each core from 1 on, as many as there are tasks: whether a task has it
pub record Flagged (assigned : List ℕ) (used : List Bool) : Type 0 where
  pub all_flags : length used ≡ suc max_tasks
  pub flag : (core : ℕ) → 1 ≤ core → core ≤ max_tasks → get_or used core false ≡ is_among assigned core

-- the cores of the runners that keep theirs, with their flags
pub record KeptCores (recorded : List ℕ) (k : ℕ) (runners assigned : List ℕ) (used : List Bool) : Type 0 where
  pub are : assigned ≡ kept recorded k runners
  pub flagged : Flagged assigned used
