-- The ranks of a machine's tasks. Others cite: `length_ranks`; `rank_unpicked`, the rank while no task is picked; `ranks_picked`, what a pick does
-- to the ranks; and `ranked_runner`, that the search over the ranks finds the next runner.
use Prim.Native.Nat.{ℕ, ◌≤◌, ◌<◌}
use mathlib.Core.Path.{◌≡◌, refl, sym, ap, ◌∙◌}
use mathlib.Core.Bool.{Bool, true, false, and-true, and-false}
use mathlib.Core.List.{List}
use native.Mathlib.Omega.{arith}
use lib.ListN.{get_or, set, length, take, replicate, length-take, length-replicate}
use lib.Seq.{get_or-take, get_or-set_same, get_or-set_other}
use Rattle.laws.proofs.CaseSplits.{by_test}
use Rattle.laws.proofs.Replaced.{replicate_entry, length_replaced, replaced_at, replaced_set}
use Rattle.tasks.specs.Limits.{max_tasks}
use Rattle.job.specs.Search.{next_runner}
use Rattle.job.specs.Rank.{never, rank, waits, rank_precedes, ranked}
use Rattle.job.proofs.Next.{same_runner}
use Rattle.job.proofs.RankLaws.{open_rank, rank_precedes_lem}
use Rattle.machine.specs.Machine.{job_at}
use Rattle.machine.specs.Pick.{waiting, precedes, candidates, pick}
use Rattle.machine.specs.Ranks.{rank_at, ranks}
use Rattle.machine.specs.Sound.{sound}
use Rattle.machine.specs.declared.machine.Machine.{Machine}
use Rattle.machine.proofs.SoundLaws.{sound_passes, sound_small}
use Rattle.machine.proofs.Waiting.{waits_open}

pub length_ranks : (m : Machine) (picked : List Bool) → length (ranks m picked) ≡ max_tasks
unfolding ranks
length_ranks m picked =
    length_replaced (rank_at m picked) (replicate max_tasks never) m.table.count
    ∙ length-replicate max_tasks never

-- While no task is picked, each has its job's rank: a closed one's is `never`.
pub rank_unpicked : (m : Machine) (i : ℕ) → rank_at m (pick m 0) i ≡ rank (job_at m i)
unfolding rank_at waiting pick rank
rank_unpicked m i =
    rw (replicate_entry max_tasks i false, and-true)
    (by_test (job_at m i).«open» (λ o. rw o) (λ c. rw c))

-- A task that is picked does not wait, and the others are as they were.
module _ (m : Machine) (picked : List Bool) (r : ℕ) where
  now_idle : r < length picked → rank_at m (set picked r true) r ≡ never
  unfolding rank_at waiting
  now_idle h = rw (get_or-set_same picked r true false h, and-false)

  others_wait : (i : ℕ) → (i ≡ r → ⊥) → rank_at m (set picked r true) i ≡ rank_at m picked i
  unfolding rank_at waiting
  others_wait i ne = rw (get_or-set_other picked r i true false ne)

  pub ranks_picked :
      r < length picked → r < m.table.count → m.table.count ≤ max_tasks → set (ranks m picked) r never ≡ ranks m (set picked r true)
  unfolding ranks
  ranks_picked h inside fits =
      ap (set (ranks m picked) r) (sym (now_idle h))
      ∙ replaced_set (rank_at m picked) (rank_at m (set picked r true))
      (replicate max_tasks never) m.table.count r others_wait never inside (omega (arith, length-replicate max_tasks never))

never_waits : waits never ≡ false
unfolding waits
never_waits = refl

-- The list l is that of the ranks of a sound machine's tasks.
module _ (l : List ℕ) (m : Machine) (picked : List Bool) (ok : sound m ≡ true) (are : l ≡ take m.table.count (ranks m picked)) where
  as_many : length l ≡ m.table.count
  as_many = rw are (length-take m.table.count (ranks m picked) ∙ omega (arith, (sound_passes m ok).count_fits, length_ranks m picked))

  rank_at_lem : (i : ℕ) → i < m.table.count → get_or l i 0 ≡ rank_at m picked i
  unfolding ranks
  rank_at_lem i h =
      rw are
      (get_or-take m.table.count (ranks m picked) i 0 h
      ∙ replaced_at (rank_at m picked) (replicate max_tasks never) 0 m.table.count i h
      (omega (arith, (sound_passes m ok).count_fits, length-replicate max_tasks never)))

  same_waits : (i : ℕ) → i < m.table.count → waits (get_or l i 0) ≡ waiting m picked i
  unfolding rank_at
  same_waits i h =
      rw (rank_at_lem i h)
      (by_test (waiting m picked i)
      (λ w. let o = waits_open m picked i w in rw w (open_rank (job_at m i) o (sound_small m ok i h o)))
      (λ idle. rw idle never_waits))

  same_order :
      (i j : ℕ) → i < m.table.count → j < m.table.count → waiting m picked i ≡ true → waiting m picked j ≡ true
      → rank_precedes (get_or l i 0) i (get_or l j 0) j ≡ precedes m i j
  unfolding rank_at precedes
  same_order i j hi hj wi wj =
      let oi = waits_open m picked i wi in
      let oj = waits_open m picked j wj in
      rw (rank_at_lem i hi, rank_at_lem j hj, wi, wj)
      (rank_precedes_lem (job_at m i) i (job_at m j) j (sound_small m ok i hi oi) (sound_small m ok j hj oj) oi oj)

  pub ranked_runner : next_runner (ranked l) ≡ next_runner (candidates m picked)
  unfolding ranked candidates
  ranked_runner = same_runner (ranked l) (candidates m picked) as_many same_waits same_order
