-- Laws of `same_bytes` and `begins_with`. Others cite: of two texts that are compared up to a place `same_next` and `all_agree`, and by how long they are
-- `other_length`; that texts that are the same are equal (`same_is`); and that a text begins with a word where as many of its first bytes are the same
-- (`same_begins`), with `longer` and `not_longer`.
use Prim.Native.Nat.{ℕ, suc, ◌+◌, ◌≤◌, ◌<◌}
use native.Mathlib.Numerals.{add-one}
use native.Mathlib.Omega.{arith}
use mathlib.Core.Path.{◌≡◌, refl, sym, ap}
use mathlib.Core.Bool.{Bool, true, false, ◌&&◌, false≢true, and_assoc}
use mathlib.Core.List.{List, [], ◌∷◌}
use borrow.Author.Tests.{eqb-true}
use lib.Dec.{eqb}
use lib.ListN.{length, get_or, take, drop, drop_of_length-le}
use lib.Seq.{drop-cons}
use Rattle.laws.proofs.CaseSplits.{by_test}
use Rattle.laws.proofs.Booleans.{and_left, and_right}
use Rattle.text.specs.Words.{same_bytes, begins_with}

pub same_is : (s t : List ℕ) → same_bytes s t ≡ true → s ≡ t
unfolding same_bytes
same_is [] [] h = refl
same_is [] (y ∷ t) h = absurd (false≢true h)
same_is (x ∷ s) [] h = absurd (false≢true h)
same_is (x ∷ s) (y ∷ t) h =
    rw (eqb-true x y (and_left (eqb x y) (same_bytes s t) h), same_is s t (and_right (eqb x y) (same_bytes s t) h))

same_length : (s t : List ℕ) → same_bytes s t ≡ true → length s ≡ length t
same_length s t h = ap length (same_is s t h)

pub other_length : (s t : List ℕ) → (length s ≡ length t → ⊥) → false ≡ same_bytes s t
other_length s t n = by_test (same_bytes s t) (λ e. absurd (n (same_length s t e))) (λ e. sym e)

-- two texts as long as each other, at a place that both have, and past the last
module _ (s t : List ℕ) (i : ℕ) (e : length s ≡ length t) where
  -- with what the bytes so far came to
  pub same_next :
      i < length s → (so_far : Bool)
      → (so_far && same_bytes (drop i s) (drop i t))
      ≡ (so_far && eqb (get_or s i 0) (get_or t i 0) && same_bytes (drop (i + 1) s) (drop (i + 1) t))
  unfolding same_bytes
  same_next h so_far =
      rw (add-one, drop-cons s i 0 h, drop-cons t i 0 (omega arith))
      (sym (and_assoc so_far (eqb (get_or s i 0) (get_or t i 0)) (same_bytes (drop (suc i) s) (drop (suc i) t))))

  pub all_agree : length s ≤ i → same_bytes (drop i s) (drop i t) ≡ true
  unfolding same_bytes
  all_agree h = let h' : length t ≤ i = omega arith in rw (drop_of_length-le s h, drop_of_length-le t h')

-- a word that a text begins with is no longer than the text
pub not_longer : (w s : List ℕ) → begins_with w s ≡ true → length w ≤ length s
unfolding begins_with
not_longer [] s h = omega arith
not_longer (b ∷ w) [] h = absurd (false≢true h)
not_longer (b ∷ w) (x ∷ s) h = let l = not_longer w s (and_right (eqb x b) (begins_with w s) h) in omega arith

pub longer : (w s : List ℕ) → length s < length w → false ≡ begins_with w s
longer w s h = by_test (begins_with w s) (λ e. let l = not_longer w s e in absurd (omega arith)) (λ e. sym e)

pub same_begins : (w s : List ℕ) → length w ≤ length s → same_bytes (take (length w) s) w ≡ begins_with w s
unfolding same_bytes begins_with
same_begins [] s h = refl
same_begins (b ∷ w) [] h = absurd (omega arith)
same_begins (b ∷ w) (x ∷ s) h = let l : length w ≤ length s = omega arith in rw (same_begins w s l)
