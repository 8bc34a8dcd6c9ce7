-- The search for the first byte b of a text. Others cite `Passed` with its laws: the first i bytes are no b (`passed_none`, `passed_more`,
-- `passed_next`), and what is known at the next byte (`at_other`, `met`), at the end of the text (`missed_count`), at either (`stopped`), and of what is left
-- (`passed_rest`); and `before_position`, how many bytes stand before b.
use Prim.Native.Nat.{ℕ, suc, ◌+◌, ◌≤◌, ◌<◌}
use native.Mathlib.Numerals.{add-one}
use native.Mathlib.Omega.{arith}
use mathlib.Core.Path.{◌≡◌, refl, sym, ap, ◌∙◌}
use mathlib.Core.Bool.{true, false}
use mathlib.Core.Logic.{◌⊎◌, ⊎_elim}
use mathlib.Core.List.{List, [], ◌∷◌, ◌++◌, append-nil}
use lib.ListN.{length, get_or, take, drop, length-append, drop_of_length-le}
use lib.Seq.{drop-cons, take-suc, length-take-le, take_all, get_or_at, append_snoc}
use borrow.Author.Tests.{eq-eqb, ne_eqb, ltb-false}
use lib.Dec.{eqb, ltb}
use Rattle.std.specs.Prelude.{◌==◌, unwrap_or}
use Rattle.std.specs.List.{position, position_or_len}
use Rattle.laws.proofs.CaseSplits.{by_test}
use Rattle.laws.proofs.Parts.{from, from_drop}
use Rattle.text.specs.Lines.{has, before}
use Rattle.text.proofs.Split.{gone, before_fits}

-- the first i bytes of s are no b
pub record Passed (b : ℕ) (s : List ℕ) (i : ℕ) : Type 0 where
  pub within : i ≤ length s
  pub there : has b s ≡ has b (drop i s)
  pub front : before b s ≡ take i s ++ before b (drop i s)

pub passed_none : (b : ℕ) (s : List ℕ) → Passed b s 0
passed_none b s = record { within = omega arith; there = refl; front = refl }

-- a byte that is no b
has_other : (b x : ℕ) (s : List ℕ) → (x ≡ b → ⊥) → has b (x ∷ s) ≡ has b s
unfolding has
has_other b x s n = rw (ne_eqb x b n)

before_other : (b x : ℕ) (s : List ℕ) → (x ≡ b → ⊥) → before b (x ∷ s) ≡ x ∷ before b s
unfolding before
before_other b x s n = rw (ne_eqb x b n)

pub passed_more : (b : ℕ) (s : List ℕ) (i : ℕ) → Passed b s i → i < length s → (get_or s i 0 ≡ b → ⊥) → Passed b s (i + 1)
passed_more b s i p h n =
    record {
      within = omega arith;
      there = p.there ∙ rw (add-one, drop-cons s i 0 h) (has_other b (get_or s i 0) (drop (suc i) s) n);
      front =
          p.front
          ∙ rw (add-one, drop-cons s i 0 h, before_other b (get_or s i 0) (drop (suc i) s) n, take-suc s i 0 h)
          (sym (append_snoc (take i s) (get_or s i 0) (before b (drop (suc i) s))));
    }

pub passed_next : (b : ℕ) (s : List ℕ) (i : ℕ) → Passed b s i → i < length s → (get_or s i 0 ≡ b → ⊥) → (j : ℕ) → j ≡ i + 1 → Passed b s j
passed_next b s i p h n j e = rw e (passed_more b s i p h n)

-- the scan goes on in what is left
pub passed_rest : (b : ℕ) (s : List ℕ) (i : ℕ) → Passed b s i → (r : ℕ) → r ≡ length (before b (from s i)) → i + r ≡ length (before b s)
passed_rest b s i p r e =
    let q : r ≡ length (before b (drop i s)) = rw (from_drop s i) at e in
    rw (p.front, length-append, length-take-le i s p.within, q)

-- the scan is at another byte, which is then one of those before b
pub record Other (b : ℕ) (s : List ℕ) (i : ℕ) : Type 0 where
  pub inside : i < length (before b s)
  pub same : get_or (before b s) i 0 ≡ get_or s i 0

pub at_other : (b : ℕ) (s : List ℕ) (i : ℕ) → Passed b s i → i < length s → (get_or s i 0 ≡ b → ⊥) → Other b s i
at_other b s i p h n =
    let r = before b (drop (suc i) s) in
    let e : before b s ≡ take i s ++ get_or s i 0 ∷ r = p.front ∙ rw (drop-cons s i 0 h) (rw (before_other b (get_or s i 0) (drop (suc i) s) n)) in
    let l = length-take-le i s p.within in
    record { inside = rw e (simp length-append (omega (arith, l))); same = rw e (get_or_at (take i s) (get_or s i 0) r 0 i l) }

-- where the scan meets b
pub record Met (b : ℕ) (s : List ℕ) (i : ℕ) : Type 0 where
  pub is : has b s ≡ true
  pub front : before b s ≡ take i s
  pub count : length (before b s) ≡ i

pub met : (b : ℕ) (s : List ℕ) (i : ℕ) → Passed b s i → i < length s → get_or s i 0 ≡ b → Met b s i
unfolding has before
met b s i p h e =
    let f : before b s ≡ take i s = p.front ∙ rw (drop-cons s i 0 h, eq-eqb (get_or s i 0) b e) (append-nil (take i s)) in
    record {
      is = p.there ∙ rw (drop-cons s i 0 h, eq-eqb (get_or s i 0) b e);
      front = f;
      count = ap length f ∙ length-take-le i s (omega arith);
    }

-- where it comes to the end of the text
missed : (b : ℕ) (s : List ℕ) (i : ℕ) → Passed b s i → length s ≤ i → has b s ≡ false
unfolding has
missed b s i p h = p.there ∙ rw (drop_of_length-le s h)

pub missed_count : (b : ℕ) (s : List ℕ) (i : ℕ) → Passed b s i → length s ≤ i → length (before b s) ≡ i
missed_count b s i p h = omega (arith, ap length (gone b s (missed b s i p h)))

-- where it stops, at b or at the end: what stands before b is what was passed
pub stopped :
    (b : ℕ) (s : List ℕ) (i : ℕ) → Passed b s i → (length s ≤ i) ⊎ ((i < length s) × (get_or s i 0 ≡ b))
    → (before b s ≡ take i s) × (length (before b s) ≡ i)
stopped b s i p =
    ⊎_elim
    (λ h. (gone b s (missed b s i p h) ∙ sym (take_all i s h), missed_count b s i p h))
    (λ h. let m = met b s i p h.0 h.1 in (m.front, m.count))

-- how many bytes stand before b, as the library's `position` tells it
length_before : (b : ℕ) (s : List ℕ) → position_or_len (λ x. x == b) s ≡ length (before b s)
unfolding before
length_before b [] = refl
length_before b (x ∷ s) = by_test (eqb x b) (λ e. rw e) (λ e. rw (e, length_before b s) (omega arith))

pub before_position : (b : ℕ) (s : List ℕ) → unwrap_or (position (λ x. x == b) s) (length s) ≡ length (before b s)
before_position b s =
    let n = length (before b s) in
    rw (length_before b s)
    (by_test (ltb n (length s)) (λ e. rw e) (λ e. rw e (omega (arith, ltb-false n (length s) e, before_fits b s))))
