-- The cores that runners keep. Others cite: `length_kept`; `kept_at`, each entry; `kept_some`, what an entry that is not 0 is (`Keeps`); `without`, the number
-- of runners that have none, with `without_set`; and `kept_count`, that the cores kept and the runners without one are no more than the runners. Of
-- lists: `is_distinct` with `distinct_more`, and `AllInside`.
use Prim.Native.Nat.{ℕ, ◌+◌, ◌≤◌, ◌<◌}
use mathlib.Core.Path.{◌≡◌, refl, sym, ap, ◌∙◌}
use mathlib.Core.List.{List, [], ◌∷◌, ◌++◌}
use mathlib.Core.Bool.{Bool, true, false, cond, not, ◌&&◌, or-true}
use native.Mathlib.Omega.{arith}
use lib.Dec.{eqb, leb}
use lib.ListN.{length, get_or, set, length-set, length-replicate}
use lib.Seq.{get_or-set_same, get_or-set_other, set-get_or}
use borrow.Author.Tests.{leb-true, eq-eqb, ne_eqb, not-true}
use Rattle.laws.proofs.CaseSplits.{by_test, by_equal, not_both}
use Rattle.laws.proofs.Booleans.{and_left, and_right}
use Rattle.laws.proofs.Replaced.{replicate_entry}
use Rattle.tasks.specs.Limits.{max_tasks}
use Rattle.cores.specs.Assign.{kept_core, kept, is_among}
use Rattle.cores.proofs.UnusedLaws.{some_count, none_some, some_set}
use Rattle.cores.proofs.AmongLaws.{some_inside, among_at, among_more}

-- no number stands in the list twice
unfoldable pub is_distinct : List ℕ → Bool
is_distinct [] = true
is_distinct (x ∷ l) = not (is_among l x) && is_distinct l

pub distinct_more : (l : List ℕ) (x : ℕ) → is_distinct l ≡ true → is_among l x ≡ false → is_distinct (l ++ x ∷ []) ≡ true
unfolding is_distinct is_among
distinct_more [] x d new = refl
distinct_more (y ∷ l) x d new =
    let apart : eqb y x ≡ false = by_test (eqb y x) (λ t. not_both true refl (rw t at new)) (λ f. f) in
    let rest : is_among l x ≡ false = rw apart at new in
    let old : is_among l y ≡ false = not-true (is_among l y) (and_left _ _ d) in
    let other : eqb x y ≡ false = ne_eqb x y (λ e. not_both (eqb y x) (eq-eqb y x (sym e)) apart) in
    rw (among_more l x y, old, other) (distinct_more l x (and_right (not (is_among l y)) _ d) rest)

-- every number of the list is a task's index
pub record AllInside (l : List ℕ) : Type 0 where
  pub inside : (i : ℕ) → is_among l i ≡ true → i < max_tasks

-- how many of the tasks have no core
unfoldable pub without : (assigned tasks : List ℕ) → ℕ
without assigned [] = 0
without assigned (i ∷ tasks) = cond (eqb (get_or assigned i 0) 0) 1 0 + without assigned tasks

-- where no core is taken away, no more are without
pub without_set : (assigned : List ℕ) (i c : ℕ) (tasks : List ℕ) → get_or assigned i 0 ≡ 0 → without (set assigned i c) tasks ≤ without assigned tasks
unfolding without
without_set assigned i c [] none = omega arith
without_set assigned i c (j ∷ tasks) none =
    let rest = without_set assigned i c tasks none in
    by_equal j i
    (λ e. rw (e, eq-eqb (get_or assigned i 0) 0 none) (by_test (eqb (get_or (set assigned i c) i 0) 0) (λ t. rw t (omega (arith, rest))) (λ f. rw f (omega (arith, rest)))))
    (λ ne. rw (get_or-set_other assigned i j c 0 ne) (omega (arith, rest)))

rest_inside : (x : ℕ) (l : List ℕ) → AllInside (x ∷ l) → AllInside l
unfolding is_among
rest_inside x l all = record { inside = λ i e. all.inside i (rw (e, or-true)) }

-- one more task, with the core c
count_more :
    (before l : List ℕ) (i c : ℕ)
    → get_or before i 0 ≡ 0
    → i < length before
    → some_count before + without before l ≤ length l
    → some_count (set before i c) + without (set before i c) (i ∷ l) ≤ length (i ∷ l)
unfolding without
count_more before l i c none inside rest =
    by_equal c 0
    (λ z.
    let same : set before i c ≡ before = rw (z, ← none) (set-get_or before i 0) in
    let now : get_or (set before i c) i 0 ≡ 0 = ap (λ entries. get_or entries i 0) same ∙ none in
    let count : some_count (set before i c) ≡ some_count before = ap some_count same in
    let others : without (set before i c) l ≡ without before l = ap (λ entries. without entries l) same in
    rw (eq-eqb _ 0 now) (omega (arith, rest, count, others)))
    (λ ne.
    let now : get_or (set before i c) i 0 ≡ c = get_or-set_same before i c 0 inside in
    rw (now, ne_eqb c 0 ne)
    (omega (arith, rest, some_set before i c inside none (omega arith), without_set before i c l none)))

module _ (recorded : List ℕ) (k : ℕ) where
  pub length_kept : (l : List ℕ) → length (kept recorded k l) ≡ max_tasks
  unfolding kept
  length_kept [] = length-replicate {A = ℕ} max_tasks 0
  length_kept (x ∷ l) = length-set (kept recorded k l) x (kept_core (get_or recorded x 0) k) ∙ length_kept l

  pub kept_at : (l : List ℕ) (i : ℕ) → i < max_tasks → get_or (kept recorded k l) i 0 ≡ cond (is_among l i) (kept_core (get_or recorded i 0) k) 0
  unfolding kept is_among
  kept_at [] i h = replicate_entry max_tasks i 0
  kept_at (x ∷ l) i h =
      by_equal i x
      (λ e.
      let same : eqb x x ≡ true = eq-eqb x x refl in
      rw (e, same) (get_or-set_same (kept recorded k l) x _ 0 (omega (arith, length_kept l))))
      (λ ne.
      let other : eqb x i ≡ false = ne_eqb x i (λ s. ne (sym s)) in
      rw other (get_or-set_other (kept recorded k l) x i _ 0 ne ∙ kept_at l i h))

  -- the task at an index keeps its core
  pub record Keeps (l : List ℕ) (i : ℕ) : Type 0 where
    pub runs : is_among l i ≡ true
    pub same : get_or (kept recorded k l) i 0 ≡ get_or recorded i 0
    pub small : get_or (kept recorded k l) i 0 ≤ k

  pub kept_some : (l : List ℕ) (i : ℕ) → 1 ≤ get_or (kept recorded k l) i 0 → Keeps l i
  unfolding kept_core
  kept_some l i some =
      let h : i < max_tasks = omega (arith, some_inside (kept recorded k l) i some, length_kept l) in
      by_test (is_among l i)
      (λ t.
      by_test (leb (get_or recorded i 0) k)
      (λ few.
      let e : get_or (kept recorded k l) i 0 ≡ get_or recorded i 0 = kept_at l i h ∙ rw (t, few) in
      record { runs = t; same = e; small = omega (arith, leb-true (get_or recorded i 0) k few) })
      (λ many. let e : get_or (kept recorded k l) i 0 ≡ 0 = kept_at l i h ∙ rw (t, many) in absurd (omega arith)))
      (λ f. let e : get_or (kept recorded k l) i 0 ≡ 0 = kept_at l i h ∙ rw f in absurd (omega arith))

  pub kept_count : (l : List ℕ) → is_distinct l ≡ true → AllInside l → some_count (kept recorded k l) + without (kept recorded k l) l ≤ length l
  unfolding kept is_distinct without
  kept_count [] d all = omega (arith, none_some max_tasks)
  kept_count (i ∷ l) d all =
      let h : i < max_tasks = all.inside i (among_at (i ∷ l) 0 i (omega arith) refl) in
      let none : get_or (kept recorded k l) i 0 ≡ 0 = kept_at l i h ∙ rw (not-true (is_among l i) (and_left _ _ d)) in
      let rest = kept_count l (and_right (not (is_among l i)) _ d) (rest_inside i l all) in
      count_more (kept recorded k l) l i (kept_core (get_or recorded i 0) k) none (omega (arith, length_kept l)) rest
