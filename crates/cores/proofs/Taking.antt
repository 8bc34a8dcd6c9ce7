-- The runners that take a core, in precedence, as the code goes: `Taking`, with `taking_none`, `taking_found`, `taking_has` and `taking_far`; and
-- `found_fits`, that a core found by the flags is no more than the tasks.
use Prim.Native.Nat.{ℕ, ◌+◌, ◌≤◌, ◌<◌, min}
use mathlib.Core.Path.{◌≡◌, refl, ap, ◌∙◌}
use mathlib.Core.List.{List, ◌∷◌}
use mathlib.Core.Bool.{Bool, true, false}
use mathlib.Core.Logic.{inl}
use native.Mathlib.Numerals.{add-one}
use native.Mathlib.Omega.{arith}
use lib.ListN.{length, get_or, set, drop, length-set, get_or-eq_default}
use lib.Seq.{drop-cons, set_out}
use borrow.Author.Tests.{eq-eqb, ne_eqb}
use Rattle.tasks.specs.Limits.{max_tasks}
use Rattle.cores.specs.Assign.{is_among, first_unused, taken}
use Rattle.cores.specs.Used.{Flagged}
use Rattle.cores.proofs.UnusedLaws.{first_same, first_within, first_bound, some_few}
use Rattle.cores.proofs.Flags.{flag_set}

-- the first of the runners has a core, or takes the lowest
taken_has : (k i : ℕ) (more assigned : List ℕ) → (get_or assigned i 0 ≡ 0 → ⊥) → taken k (i ∷ more) assigned ≡ taken k more assigned
unfolding taken
taken_has k i more assigned has = rw (ne_eqb (get_or assigned i 0) 0 has)

taken_one :
    (k i : ℕ) (more assigned : List ℕ) → get_or assigned i 0 ≡ 0 → taken k (i ∷ more) assigned ≡ taken k more (set assigned i (first_unused (is_among assigned) 1 k))
unfolding taken
taken_one k i more assigned none = rw (eq-eqb (get_or assigned i 0) 0 none)

-- the first n runners have taken theirs, of those that had none in `start`
pub record Taking (k : ℕ) (runners start assigned : List ℕ) (used : List Bool) (n : ℕ) : Type 0 where
  pub left : taken k runners start ≡ taken k (drop n runners) assigned
  pub all_there : length assigned ≡ max_tasks
  pub flagged : Flagged assigned used

pub taking_none : (k : ℕ) (runners assigned : List ℕ) (used : List Bool) → length assigned ≡ max_tasks → Flagged assigned used → Taking k runners assigned assigned used 0
taking_none k runners assigned used all f = record { left = refl; all_there = all; flagged = f }

module _
    (k : ℕ)
    (runners start assigned : List ℕ)
    (used : List Bool)
    (n : ℕ)
    (now : Taking k runners start assigned used n)
    (more : n < length runners)
  where
    abbrev next : ℕ
    next = get_or runners n 0

    abbrev lowest : ℕ
    lowest = first_unused (is_among assigned) 1 k

    one_more : drop n runners ≡ next ∷ drop (n + 1) runners
    one_more = rw (add-one n) (drop-cons runners n 0 more)

    -- a runner that has a core
    pub taking_has : (get_or assigned next 0 ≡ 0 → ⊥) → Taking k runners start assigned used (n + 1)
    taking_has has =
        record {
          left = now.left ∙ ap (λ (l : List ℕ). taken k l assigned) one_more ∙ taken_has k next _ assigned has;
          all_there = now.all_there;
          flagged = now.flagged;
        }

    takes : get_or assigned next 0 ≡ 0 → taken k runners start ≡ taken k (drop (n + 1) runners) (set assigned next lowest)
    takes none = now.left ∙ ap (λ (l : List ℕ). taken k l assigned) one_more ∙ taken_one k next _ assigned none

    -- an index that is no task's
    pub taking_far : max_tasks ≤ next → Taking k runners start assigned used (n + 1)
    taking_far far =
        let past : length assigned ≤ next = omega (arith, now.all_there) in
        record {
          left = takes (get_or-eq_default assigned 0 past) ∙ rw (set_out assigned next lowest past);
          all_there = now.all_there;
          flagged = now.flagged;
        }

    module _ (h : next < max_tasks) (none : get_or assigned next 0 ≡ 0) where
      takes_lowest : first_unused (λ core. get_or used core false) 1 (min k max_tasks) ≡ lowest
      takes_lowest =
          first_same (λ core. get_or used core false) (is_among assigned) 1 (min k max_tasks) (λ c from below. now.flagged.flag c from (omega arith))
          ∙ first_within assigned k max_tasks (omega (arith, some_few assigned next (omega (arith, now.all_there)) none, now.all_there))

      -- the core that is found by the flags
      module _ (found : ℕ) (is_first : found ≡ first_unused (λ core. get_or used core false) 1 (min k max_tasks)) where
        pub found_fits : found ≤ max_tasks
        found_fits = omega (arith, is_first, first_bound (λ core. get_or used core false) 1 (min k max_tasks) (omega arith))

        pub taking_found : Taking k runners start (set assigned next found) (set used found true) (n + 1)
        taking_found =
            record {
              left = rw (is_first ∙ takes_lowest) (takes none);
              all_there = length-set assigned next found ∙ now.all_there;
              flagged = flag_set assigned used now.flagged next found (omega (arith, now.all_there)) (inl none) found_fits;
            }
