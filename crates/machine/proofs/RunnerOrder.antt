-- The runners in precedence, as a list. Others cite: `listed_picked`, that those listed are those picked; and `listed_distinct`, `listed_inside` and
-- `listed_length`, that they are so many different tasks of the table.
use Prim.Native.Nat.{ℕ, zero, suc, ◌≤◌, ◌<◌}
use Rattle.std.specs.Prelude.{unwrap_or}
use mathlib.Core.Path.{◌≡◌, refl, sym, ◌∙◌}
use mathlib.Core.Bool.{true, false, or-true, or-false}
use mathlib.Core.List.{[], ◌∷◌, ◌++◌}
use native.Mathlib.Omega.{arith}
use lib.ListN.{length, get_or, set, length-append}
use lib.Seq.{get_or-set_same, get_or-set_other}
use borrow.Author.Tests.{eq-eqb, ne_eqb}
use Rattle.laws.proofs.CaseSplits.{by_equal, not_both}
use Rattle.laws.proofs.Replaced.{replicate_entry}
use Rattle.tasks.specs.Limits.{max_tasks}
use Rattle.job.specs.Search.{next_runner}
use Rattle.job.proofs.Next.{Found}
use Rattle.cores.specs.Assign.{is_among}
use Rattle.cores.proofs.AmongLaws.{among_more}
use Rattle.cores.proofs.KeptLaws.{is_distinct, distinct_more}
use Rattle.machine.specs.Pick.{open_count, candidates, with_picked, pick}
use Rattle.machine.specs.Cores.{runner_order}
use Rattle.machine.specs.declared.machine.Machine.{Machine}
use Rattle.machine.proofs.Waiting.{waits_unpicked}
use Rattle.machine.proofs.PickLaws.{length_pick, next_in}

module _ (m : Machine) (fits : m.table.count ≤ max_tasks) where
  module _ (n : ℕ) (more : n < open_count m) where
    pub next : Found (candidates m (pick m n))
    next = next_in m fits n more

    pub next_listed : runner_order m (suc n) ≡ runner_order m n ++ next.index ∷ []
    unfolding runner_order next
    next_listed = rw next.index_is

    pub next_picked : pick m (suc n) ≡ set (pick m n) next.index true
    unfolding pick with_picked next
    next_picked = rw next.index_is

    pub next_inside : next.index < m.table.count
    unfolding candidates next
    next_inside = next.next.inside

    next_new : get_or (pick m n) next.index false ≡ false
    unfolding candidates next
    next_new = waits_unpicked m (pick m n) next.index next.next.waits

  pub listed_picked : (n : ℕ) → n ≤ open_count m → (i : ℕ) → is_among (runner_order m n) i ≡ get_or (pick m n) i false
  unfolding runner_order is_among pick
  listed_picked zero h i = sym (replicate_entry max_tasks i false)
  listed_picked (suc n) h i =
      let before = listed_picked n (omega arith) i in
      let x : ℕ = (next n h).index in
      by_equal i x
      (λ e.
      let now : get_or (pick m (suc n)) x false ≡ true =
      rw (next_picked n h) (get_or-set_same (pick m n) x true false (omega (arith, length_pick m n, next_inside n h)))
      in
      rw (next_listed n h, among_more (runner_order m n) x i, eq-eqb x i (sym e), or-true) (sym (rw (← e) at now)))
      (λ ne.
      let same : get_or (pick m (suc n)) i false ≡ get_or (pick m n) i false =
      rw (next_picked n h) (get_or-set_other (pick m n) x i true false ne)
      in
      rw (next_listed n h, among_more (runner_order m n) x i, ne_eqb x i (λ s. ne (sym s)), or-false) (before ∙ sym same))

  pub listed_distinct : (n : ℕ) → n ≤ open_count m → is_distinct (runner_order m n) ≡ true
  unfolding runner_order is_distinct
  listed_distinct zero h = refl
  listed_distinct (suc n) h =
      let x : ℕ = (next n h).index in
      rw (next_listed n h)
      (distinct_more (runner_order m n) x (listed_distinct n (omega arith)) (listed_picked n (omega arith) x ∙ next_new n h))

  pub listed_inside : (n : ℕ) → n ≤ open_count m → (i : ℕ) → is_among (runner_order m n) i ≡ true → i < m.table.count
  unfolding runner_order is_among
  listed_inside zero h i e = not_both false e refl
  listed_inside (suc n) h i e =
      let x : ℕ = (next n h).index in
      by_equal i x
      (λ is. rw is (next_inside n h))
      (λ ne.
      listed_inside n (omega arith) i
      (rw (next_listed n h, among_more (runner_order m n) x i, ne_eqb x i (λ s. ne (sym s)), or-false) at e))

  pub listed_length : (n : ℕ) → length (runner_order m n) ≡ n
  unfolding runner_order
  listed_length zero = refl
  listed_length (suc n) =
      omega (arith, length-append (runner_order m n) (unwrap_or (next_runner (candidates m (pick m n))) 0 ∷ []), listed_length n)
