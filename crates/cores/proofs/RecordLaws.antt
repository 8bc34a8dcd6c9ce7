-- Sound records of cores, entry by entry: `Apart`, with `sound_apart` and `apart_sound`; `apart_same`, of a list whose entries are the same or 0. Of the first
-- entry of a sound record: `First`, with `first_sound`; of a part of one: `sound_drop`.
use Prim.Native.Nat.{ℕ, zero, suc, ◌≤◌}
use mathlib.Core.Path.{◌≡◌, refl, sym, ◌∙◌}
use mathlib.Core.List.{List, [], ◌∷◌}
use mathlib.Core.Bool.{true, false, not, ◌&&◌, ◌||◌}
use native.Mathlib.Omega.{arith}
use lib.Dec.{eqb, leb}
use lib.ListN.{get_or, drop}
use borrow.Author.Tests.{leb-true, le-leb, eq-eqb, ne_eqb, not-true}
use Rattle.laws.proofs.CaseSplits.{by_test, by_equal, by_order, not_both}
use Rattle.laws.proofs.Booleans.{and_left, and_right}
use Rattle.tasks.specs.Limits.{max_cores}
use Rattle.cores.specs.Assign.{is_among}
use Rattle.cores.specs.Record.{cores_sound}
use Rattle.cores.proofs.AmongLaws.{among_at, among_index}

-- no core is above 16, and none but 0 stands at two indexes; past the end every entry reads as 0
pub record Apart (l : List ℕ) : Type 0 where
  pub within : (i : ℕ) → get_or l i 0 ≤ max_cores
  pub apart : (i j : ℕ) → get_or l i 0 ≡ get_or l j 0 → 1 ≤ get_or l i 0 → i ≡ j

-- what the first core of a sound record, and the rest of it, are
pub record First (x : ℕ) (l : List ℕ) : Type 0 where
  pub small : x ≤ max_cores
  pub alone : 1 ≤ x → is_among l x ≡ false
  pub rest : cores_sound l ≡ true

pub first_sound : (x : ℕ) (l : List ℕ) → cores_sound (x ∷ l) ≡ true → First x l
unfolding cores_sound
first_sound x l e =
    let both = and_left (leb x max_cores && (eqb x 0 || not (is_among l x))) (cores_sound l) e in
    record {
      small = leb-true x max_cores (and_left _ _ both);
      alone = λ some.
          let no : eqb x 0 ≡ false = ne_eqb x 0 (λ z. omega arith) in
          not-true _ (rw no at (and_right (leb x max_cores) _ both));
      rest = and_right (leb x max_cores && (eqb x 0 || not (is_among l x))) _ e;
    }

pub sound_drop : (l : List ℕ) (n : ℕ) → cores_sound l ≡ true → cores_sound (drop n l) ≡ true
sound_drop l zero e = e
sound_drop [] (suc n) e = e
sound_drop (x ∷ l) (suc n) e = sound_drop l n (first_sound x l e).rest

-- a core from 1 on that is not among the list stands nowhere in it
stands_nowhere : {A : Type 0} (l : List ℕ) (x j : ℕ) → is_among l x ≡ false → 1 ≤ x → x ≡ get_or l j 0 → A
stands_nowhere [] x j none some e = absurd (omega arith)
stands_nowhere (y ∷ l) x zero none some e = not_both (is_among (y ∷ l) x) (among_at (y ∷ l) 0 x (omega arith) (sym e)) none
stands_nowhere (y ∷ l) x (suc j) none some e =
    by_test (is_among l x)
    (λ t. let (i, inside, is) = among_index l x t in not_both (is_among (y ∷ l) x) (among_at (y ∷ l) (suc i) x (omega arith) is) none)
    (λ f. stands_nowhere l x j f some e)

more_apart : (x : ℕ) (l : List ℕ) → First x l → Apart l → (i j : ℕ) → get_or (x ∷ l) i 0 ≡ get_or (x ∷ l) j 0 → 1 ≤ get_or (x ∷ l) i 0 → i ≡ j
more_apart x l f r zero zero same some = refl
more_apart x l f r zero (suc j) same some = stands_nowhere l x j (f.alone some) some same
more_apart x l f r (suc i) zero same some = stands_nowhere l x i (f.alone (omega arith)) (omega arith) (sym same)
more_apart x l f r (suc i) (suc j) same some = let e : i ≡ j = r.apart i j same some in rw e

pub sound_apart : (l : List ℕ) → cores_sound l ≡ true → Apart l
sound_apart [] e = record { within = λ i. omega arith; apart = λ i j same some. absurd (omega arith) }
sound_apart (x ∷ l) e =
    let f = first_sound x l e in
    let r = sound_apart l f.rest in
    record {
      within = λ i. elim i as (λ i. get_or (x ∷ l) i 0 ≤ max_cores) [ zero ↦ f.small | suc i' ↦ r.within i' ];
      apart = λ i j. more_apart x l f r i j;
    }

pub apart_same : (l l' : List ℕ) → Apart l → ((i : ℕ) → 1 ≤ get_or l' i 0 → get_or l' i 0 ≡ get_or l i 0) → Apart l'
apart_same l l' a same =
    record {
      within = λ i. by_order 1 (get_or l' i 0) (λ some. rw (same i some) (a.within i)) (λ none. omega arith);
      apart = λ i j e some.
          let si = same i some in
          let sj = same j (rw e at some) in
          a.apart i j (sym si ∙ e ∙ sj) (rw si at some);
    }

pub apart_sound : (l : List ℕ) → Apart l → cores_sound l ≡ true
unfolding cores_sound
apart_sound [] a = refl
apart_sound (x ∷ l) a =
    let rest : cores_sound l ≡ true =
    apart_sound l
    (record {
      within = λ i. a.within (suc i);
      apart = λ i j same some. let e : suc i ≡ suc j = a.apart (suc i) (suc j) same some in omega arith;
    })
    in
    rw (le-leb x max_cores (a.within 0), rest)
    (by_equal x 0
    (λ z. rw (eq-eqb x 0 z))
    (λ ne.
    by_test (is_among l x)
    (λ t. let (i, inside, is) = among_index l x t in absurd (omega (arith, a.apart 0 (suc i) (sym is) (omega arith))))
    (λ f. rw (ne_eqb x 0 ne, f))))
