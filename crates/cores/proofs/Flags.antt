-- A flag for each core that a task has, after a task's core is set: `flag_set`, and `flag_far` of a core that has no flag.
use Prim.Native.Nat.{ℕ, ◌≤◌, ◌<◌}
use mathlib.Core.Path.{◌≡◌, sym, ◌∙◌}
use mathlib.Core.List.{List}
use mathlib.Core.Bool.{Bool, true, false}
use mathlib.Core.Logic.{◌⊎◌}
use native.Mathlib.Omega.{arith}
use lib.ListN.{length, get_or, set, length-set}
use lib.Seq.{get_or-set_same, get_or-set_other}
use borrow.Author.Tests.{eq-eqb, ne_eqb}
use Rattle.laws.proofs.CaseSplits.{by_equal}
use Rattle.tasks.specs.Limits.{max_tasks}
use Rattle.cores.specs.Assign.{is_among}
use Rattle.cores.specs.Used.{Flagged}
use Rattle.cores.proofs.AmongLaws.{among_set}

-- the entry that is set was 0, or the same core
module _
    (assigned : List ℕ)
    (used : List Bool)
    (f : Flagged assigned used)
    (i c : ℕ)
    (h : i < length assigned)
    (was : (get_or assigned i 0 ≡ 0) ⊎ (get_or assigned i 0 ≡ c))
  where
    -- a core other than the new one
    other : (x : ℕ) → 1 ≤ x → (x ≡ c → ⊥) → is_among (set assigned i c) x ≡ is_among assigned x
    other x some ne = among_set assigned i c x h was some ∙ rw (ne_eqb c x (λ e. ne (sym e)))

    pub flag_set : c ≤ max_tasks → Flagged (set assigned i c) (set used c true)
    flag_set fits =
        record {
          all_flags = length-set used c true ∙ f.all_flags;
          flag = λ x some small.
              by_equal x c
              (λ e.
              let new : is_among (set assigned i c) x ≡ true = among_set assigned i c x h was some ∙ rw (eq-eqb c x (sym e)) in
              rw (new, e) (get_or-set_same used c true false (omega (arith, f.all_flags))))
              (λ ne. get_or-set_other used c x true false ne ∙ f.flag x some small ∙ sym (other x some ne));
        }

    pub flag_far : max_tasks < c → Flagged (set assigned i c) used
    flag_far far =
        record { all_flags = f.all_flags; flag = λ x some small. f.flag x some small ∙ sym (other x some (λ e. omega arith)) }
