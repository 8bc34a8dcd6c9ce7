-- An array that is filled from a line of numbers, one field at a time. Others cite `SoFar`, the state between two fields, with `so_far_more`,
-- what the answer says of the line where the reading stops: `no_number`, `last_field` and `fields_left`, and `entry_is`, each entry of
-- the array after a line of as many numbers.
use Prim.Native.Nat.{ℕ, zero, suc, ◌+◌, ◌-◌, ◌≤◌, ◌<◌}
use native.Mathlib.Numerals.{add-one}
use native.Mathlib.Omega.{arith}
use mathlib.Core.Path.{◌≡◌, refl, sym, ◌∙◌}
use mathlib.Core.Bool.{true, false, false≢true}
use mathlib.Core.List.{List, [], ◌∷◌, ◌++◌, append-nil, append_assoc}
use borrow.Author.Tests.{eqb-true}
use lib.Dec.{eqb}
use lib.ListN.{length, get_or, set, take, drop, length-set, take-append-drop, drop_of_length-le}
use lib.Seq.{drop-cons, set_split, take_all, take-suc-set, drop-set-lt}
use Rattle.laws.proofs.CaseSplits.{by_test}
use Rattle.laws.proofs.Tests.{same_eqb}
use Rattle.laws.proofs.Parts.{past, from_length}
use Rattle.text.specs.Lines.{space, has, before, after, field}
use Rattle.text.specs.Number.{decimal, well_formed, is_number, number_up_to}
use Rattle.text.specs.Fields.{are_numbers, numbers_into, FilledFromLine}
use Rattle.std.specs.Prelude.{Some, None}
use Rattle.text.specs.declared.number.LeadingNumber.{LeadingNumber}
use Rattle.text.proofs.Split.{gone_rest, hasnt_of, cut}
use Rattle.text.proofs.NumberLaws.{up_to, not_up_to}
use Rattle.text.proofs.NumbersOn.{no_numbers, first_none, first_only, first_then}

module _ (k largest : ℕ) where
  -- between two fields: the array's first i entries are done, and the rest of the line goes into the others
  pub record SoFar (line array₀ array rest : List ℕ) (i : ℕ) : Type 0 where
    pub few : length rest ≤ length line
    pub size : length array ≡ length array₀
    pub left : are_numbers k largest (length array₀) line ≡ are_numbers k largest (length array₀ - i) rest
    pub done : numbers_into k largest line array₀ ≡ take i array ++ numbers_into k largest rest (drop i array)

  -- a line of one number or more begins with one
  first_is_lem : (m : ℕ) (s : List ℕ) → are_numbers k largest (suc m) s ≡ true → is_number k largest (before space s) ≡ true
  first_is_lem m s e = by_test (is_number k largest (before space s)) (λ t. t) (λ f. absurd (false≢true (sym (first_none k largest m s f) ∙ e)))

  -- nothing goes into an array where no field is left
  into_none : (a : List ℕ) → numbers_into k largest [] a ≡ a
  unfolding numbers_into field before is_number well_formed
  into_none [] = refl
  into_none (x ∷ a) = refl

  number_at :
      (line array : List ℕ) → are_numbers k largest (length array) line ≡ true → (j : ℕ) → j < length array
      → get_or (numbers_into k largest line array) j 0 ≡ decimal (field j line)
  unfolding numbers_into field
  number_at line [] e j h = absurd (omega arith)
  number_at line (x ∷ a) e zero h = rw (first_is_lem (length a) line e)
  number_at line (x ∷ a) e (suc j) h =
      let t = first_is_lem (length a) line e in
      rw t
      (by_test (has space line)
      (λ m. number_at (after space line) a (sym (first_then k largest (length a) line m t) ∙ e) j (omega arith))
      (λ m. absurd (omega (arith, eqb-true (suc (length a)) 1 (sym (first_only k largest (length a) line m t) ∙ e)))))

  pub entry_is :
      (line array after : List ℕ) → FilledFromLine k largest line array after true → (j : ℕ) → j < length array → get_or after j 0 ≡ decimal (field j line)
  entry_is line array after p j h = rw p.filled (number_at line array (sym p.is) j h)

  module _ (line array₀ array rest : List ℕ) (i : ℕ) (p : SoFar line array₀ array rest i) where
    -- the array is full, and there is another field
    pub fields_left : length array ≤ i → FilledFromLine k largest line array₀ array false
    unfolding numbers_into
    fields_left h =
        let z : length array₀ - i ≡ 0 = omega (arith, p.size) in
        record {
          is = sym (p.left ∙ rw (z, no_numbers k largest rest));
          filled = sym (p.done ∙ rw (drop_of_length-le array h, append-nil) (take_all i array h));
        }

    -- the array has room for the next field
    module _ (h : i < length array) where
      another : length array₀ - i ≡ suc (length array₀ - (i + 1))
      another = omega (arith, p.size)

      pub no_number : number_up_to k largest space rest ≡ None → FilledFromLine k largest line array₀ array false
      unfolding numbers_into field
      no_number e =
          let f = not_up_to k largest space rest e in
          record {
            is = sym (p.left ∙ rw another (first_none k largest (length array₀ - (i + 1)) rest f));
            filled = sym (p.done ∙ rw (drop-cons array i 0 h, f, ← drop-cons array i 0 h) (take-append-drop i array));
          }

      -- which is a number m
      module _ (m : LeadingNumber) (e : number_up_to k largest space rest ≡ Some m) where
        one_more : numbers_into k largest line array₀ ≡ take i array ++ m.number ∷ numbers_into k largest (after space rest) (drop (suc i) array)
        unfolding numbers_into field
        one_more = let w = (up_to k largest space rest m e).0 in p.done ∙ rw (drop-cons array i 0 h, w.is, w.value)

        pub last_field : length rest ≤ m.length → FilledFromLine k largest line array₀ (set array i m.number) (eqb (i + 1) (length (set array i m.number)))
        last_field l =
            let (w, c) = up_to k largest space rest m e in
            let others = length array₀ - (i + 1) in
            let only = hasnt_of space rest (omega (arith, c)) in
            let is : are_numbers k largest (length array₀) line ≡ eqb (suc others) 1 = p.left ∙ rw another (first_only k largest others rest only w.is) in
            record {
              is = rw (length-set array i m.number) (sym (is ∙ same_eqb (suc others) 1 (i + 1) (length array) (λ q. omega (arith, p.size)) (λ q. omega (arith, p.size))));
              filled = set_split array i m.number h ∙ sym (one_more ∙ rw (gone_rest space rest only, into_none (drop (suc i) array)));
            }

        pub so_far_more : m.length < length rest → SoFar line array₀ (set array i m.number) (past rest m.length) (i + 1)
        so_far_more l =
            let (w, c) = up_to k largest space rest m e in
            let d = cut space rest m.length c l in
            record {
              few = omega (arith, p.few, from_length rest (m.length + 1));
              size = length-set array i m.number ∙ p.size;
              left = rw d.rest (p.left ∙ rw another (first_then k largest (length array₀ - (i + 1)) rest d.is w.is));
              done =
                  one_more
                  ∙ sym
                  (rw (add-one i, d.rest, take-suc-set array i m.number h, drop-set-lt (suc i) array i m.number (omega arith))
                  (append_assoc (take i array) (m.number ∷ []) (numbers_into k largest (after space rest) (drop (suc i) array))));
            }
