-- One turn of the pick: while fewer are picked than are open, the search over the ranks finds the next runner (`turn_finds`), and the pick of it is one
-- pick more (`pick_turn`).
use Rattle.std.proofs.Common.{ℕ, suc, ◌≡◌, ◌≤◌, ◌<◌, true, List, [], ◌∷◌, ◌++◌, Some, set, take, IsSome, refl, sym, ap, ◌∙◌, arith}
use Rattle.laws.proofs.SumLaws.{count_bound}
use Rattle.tasks.specs.Limits.{max_tasks}
use Rattle.job.specs.Search.{next_runner}
use Rattle.job.specs.Rank.{never, ranked}
use Rattle.machine.specs.Machine.{job_at}
use Rattle.machine.specs.Pick.{open_count, pick}
use Rattle.machine.specs.Cores.{runner_order}
use Rattle.machine.specs.Ranks.{ranks}
use Rattle.machine.specs.Sound.{sound}
use Rattle.machine.specs.declared.machine.Machine.{Machine}
use Rattle.machine.proofs.SoundLaws.{sound_passes}
use Rattle.machine.proofs.PickLaws.{length_pick}
use Rattle.machine.proofs.RanksLaws.{ranks_picked, ranked_runner}
use Rattle.machine.proofs.RunnerOrder.{next, next_listed, next_picked, next_inside}

-- The picks, the ranks and the list after the pick of the task at index r, which is the next runner after k picks.
pub record Turn (m : Machine) (k : ℕ) (waiting : List ℕ) (r : ℕ) : Type 0 where
  pub inside : r < m.table.count
  pub picks : set (pick m k) r true ≡ pick m (suc k)
  pub ranks_left : set waiting r never ≡ ranks m (pick m (suc k))
  pub listed : runner_order m k ++ r ∷ [] ≡ runner_order m (suc k)

same_index : {r s : ℕ} → Some r ≡ Some s → r ≡ s
same_index e = cc

module _ (m : Machine) (ok : sound m ≡ true) (k : ℕ) (more : k < open_count m) where
  fits : m.table.count ≤ max_tasks
  fits = (sound_passes m ok).count_fits

  -- no more are picked than the table has tasks
  pub few_picked : k < max_tasks
  unfolding open_count
  few_picked = omega (arith, fits, count_bound (λ i. (job_at m i).«open») m.table.count)

  runner : ℕ
  runner = (next m fits k more).index

  module _ (waiting : List ℕ) (are : waiting ≡ ranks m (pick m k)) where
    finds : next_runner (ranked (take m.table.count waiting)) ≡ Some runner
    unfolding runner
    finds = ranked_runner _ m (pick m k) ok (ap (take m.table.count) are) ∙ (next m fits k more).index_is

    pub turn_finds : IsSome (next_runner (ranked (take m.table.count waiting)))
    turn_finds = rw finds refl

    module _ (r : ℕ) (found : next_runner (ranked (take m.table.count waiting)) ≡ Some r) where
      is_next : r ≡ runner
      is_next = same_index (sym found ∙ finds)

      pub pick_turn : Turn m k waiting r
      unfolding runner
      pick_turn =
          let inside = next_inside m fits k more in
          let picks = next_picked m fits k more in
          rw is_next
          (record {
            inside = inside;
            picks = sym picks;
            ranks_left = rw (are, picks) (ranks_picked m (pick m k) runner (omega (arith, inside, fits, length_pick m k)) inside fits);
            listed = sym (next_listed m fits k more);
          })
