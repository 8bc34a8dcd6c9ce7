-- The runners that keep their cores, from the last to the first, as the code goes: `Keeping`, with `keeping_none`, `keeping_more`, `keeping_large` and
-- `keeping_far`.
use Prim.Native.Nat.{ℕ, suc, ◌-◌, ◌≤◌, ◌<◌}
use mathlib.Core.Path.{◌≡◌, sym, ap, ◌∙◌}
use mathlib.Core.List.{List, ◌∷◌}
use mathlib.Core.Bool.{Bool, true, false}
use mathlib.Core.Logic.{◌⊎◌, inl, inr}
use native.Mathlib.Omega.{arith}
use native.Mathlib.Nat.{le_refl}
use lib.ListN.{length, get_or, set, drop, replicate, length-replicate}
use lib.Seq.{drop-length, drop-cons, set_out}
use Rattle.laws.proofs.CaseSplits.{by_test}
use Rattle.laws.proofs.Replaced.{replicate_entry}
use Rattle.tasks.specs.Limits.{max_tasks}
use Rattle.cores.specs.Assign.{kept_core, kept, is_among}
use Rattle.cores.specs.Used.{Flagged}
use Rattle.cores.proofs.KeptLaws.{length_kept, kept_at}
use Rattle.cores.proofs.AmongLaws.{among_index}
use Rattle.cores.proofs.Flags.{flag_set, flag_far}

-- the runners from n on have kept theirs
pub record Keeping (recorded : List ℕ) (k : ℕ) (runners assigned : List ℕ) (used : List Bool) (n : ℕ) : Type 0 where
  pub within : n ≤ length runners
  pub are : assigned ≡ kept recorded k (drop n runners)
  pub flagged : Flagged assigned used

-- no core is among zeros
none_among : (n x : ℕ) → 1 ≤ x → is_among (replicate n 0) x ≡ false
none_among n x some =
    by_test (is_among (replicate n 0) x)
    (λ t. let (i, inside, is) = among_index (replicate n 0) x t in absurd (omega (arith, replicate_entry {A = ℕ} n i 0)))
    (λ f. f)

pub keeping_none :
    (recorded : List ℕ) (k : ℕ) (runners : List ℕ)
    → Keeping recorded k runners (replicate max_tasks 0) (replicate (suc max_tasks) false) (length runners)
unfolding kept
keeping_none recorded k runners =
    record {
      within = le_refl (length runners);
      are = rw (drop-length runners);
      flagged =
          record {
            all_flags = length-replicate (suc max_tasks) false;
            flag = λ x some small. replicate_entry (suc max_tasks) x false ∙ sym (none_among max_tasks x some);
          };
    }

module _
    (recorded : List ℕ)
    (k : ℕ)
    (runners assigned : List ℕ)
    (used : List Bool)
    (n : ℕ)
    (now : Keeping recorded k runners assigned used n)
    (more : 0 < n)
  where
    abbrev next : ℕ
    next = get_or runners (n - 1) 0

    abbrev core : ℕ
    core = kept_core (get_or recorded next 0) k

    one_more : drop (n - 1) runners ≡ next ∷ drop n runners
    one_more =
        let e : suc (n - 1) ≡ n = omega arith in
        drop-cons runners (n - 1) 0 (omega (arith, now.within)) ∙ ap (λ (j : ℕ). next ∷ drop j runners) e

    -- the next runner's core with it
    set_is : set assigned next core ≡ kept recorded k (drop (n - 1) runners)
    unfolding kept
    set_is = rw (one_more, now.are)

    -- it had none, or the same, if it was listed before
    had : next < max_tasks → (get_or assigned next 0 ≡ 0) ⊎ (get_or assigned next 0 ≡ core)
    had h =
        let is = kept_at recorded k (drop n runners) next h in
        by_test (is_among (drop n runners) next)
        (λ t. inr (rw now.are (is ∙ rw t)))
        (λ f. inl (rw now.are (is ∙ rw f)))

    module _ (h : next < max_tasks) where
      inside : next < length assigned
      inside = rw now.are (omega (arith, length_kept recorded k (drop n runners)))

      pub keeping_more : core ≤ max_tasks → Keeping recorded k runners (set assigned next core) (set used core true) (n - 1)
      keeping_more fits =
          record {
            within = omega (arith, now.within);
            are = set_is;
            flagged = flag_set assigned used now.flagged next core inside (had h) fits;
          }

      -- a core that has no flag
      pub keeping_large : max_tasks < core → Keeping recorded k runners (set assigned next core) used (n - 1)
      keeping_large large =
          record {
            within = omega (arith, now.within);
            are = set_is;
            flagged = flag_far assigned used now.flagged next core inside (had h) large;
          }

    -- an index that is no task's
    pub keeping_far : max_tasks ≤ next → Keeping recorded k runners assigned used (n - 1)
    keeping_far far =
        record {
          within = omega (arith, now.within);
          are = sym (set_out assigned next core (rw now.are (omega (arith, length_kept recorded k (drop n runners))))) ∙ set_is;
          flagged = now.flagged;
        }
