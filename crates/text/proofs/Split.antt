-- A text split at its first byte b: laws of `has`, `before` and `after`. Others cite `here` (b is in the text: its three parts), `gone` and
-- `gone_rest` (it is not), `before_fits` and `before_front` (either), `has_of` and `hasnt_of` (which of the two, by how many bytes stand before b),
-- `cut` (the parts as the code has them), `has_append` (two texts put together), and `inner`, `outer`, `has_past` and `has_after` (which of two bytes
-- comes first).
use Prim.Native.Nat.{ℕ, ◌+◌, ◌≤◌, ◌<◌}
use native.Mathlib.Nat.{le_refl, lt_irrefl, not-le_of_lt}
use native.Mathlib.Omega.{arith}
use mathlib.Core.Path.{◌≡◌, refl, sym, ap, ◌∙◌}
use mathlib.Core.Bool.{true, false, ◌||◌, false≢true}
use mathlib.Core.List.{List, [], ◌∷◌, ◌++◌}
use lib.Dec.{eqb}
use lib.ListN.{length, take, drop, length-append}
use lib.Seq.{take-append_seam, drop-append-add, take_all}
use borrow.Author.Tests.{ne_eqb, eqb-true}
use Rattle.laws.proofs.CaseSplits.{by_test}
use Rattle.laws.proofs.Parts.{past, from_drop}
use Rattle.text.specs.Lines.{has, before, after}

-- b is in s: what stands before it and after it
pub record Here (b : ℕ) (s : List ℕ) : Type 0 where
  pub whole : s ≡ before b s ++ b ∷ after b s
  pub within : length (before b s) < length s
  pub front : take (length (before b s)) s ≡ before b s
  pub rest : drop (length (before b s) + 1) s ≡ after b s

whole_of : (b : ℕ) (s : List ℕ) → has b s ≡ true → s ≡ before b s ++ b ∷ after b s
unfolding has before after
whole_of b [] h = absurd (false≢true h)
whole_of b (x ∷ s) h =
    by_test (eqb x b)
    (λ e. rw e (ap (λ (y : ℕ). y ∷ s) (eqb-true x b e)))
    (λ e. rw e (ap (λ (l : List ℕ). x ∷ l) (whole_of b s (rw e at h))))

pub here : (b : ℕ) (s : List ℕ) → has b s ≡ true → Here b s
here b s h =
    let w = whole_of b s h in
    record {
      whole = w;
      within = within_of (before b s) (after b s) w;
      front = front_of (before b s) (after b s) w;
      rest = rest_of (before b s) (after b s) w;
    }
  where
    within_of : (f r : List ℕ) → s ≡ f ++ b ∷ r → length f < length s
    within_of f r e = omega (arith, simp length-append at (ap length e))

    front_of : (f r : List ℕ) → s ≡ f ++ b ∷ r → take (length f) s ≡ f
    front_of f r e = rw e (take-append_seam f (b ∷ r))

    rest_of : (f r : List ℕ) → s ≡ f ++ b ∷ r → drop (length f + 1) s ≡ r
    rest_of f r e = rw e (drop-append-add f (b ∷ r) 1)

-- b is not in s: all of s stands before it
pub gone : (b : ℕ) (s : List ℕ) → has b s ≡ false → before b s ≡ s
unfolding has before
gone b [] h = refl
gone b (x ∷ s) h =
    by_test (eqb x b) (λ e. absurd (false≢true (sym (rw e at h)))) (λ e. rw e (ap (λ (l : List ℕ). x ∷ l) (gone b s (rw e at h))))

pub gone_rest : (b : ℕ) (s : List ℕ) → has b s ≡ false → after b s ≡ []
unfolding has after
gone_rest b [] h = refl
gone_rest b (x ∷ s) h = by_test (eqb x b) (λ e. absurd (false≢true (sym (rw e at h)))) (λ e. rw e (gone_rest b s (rw e at h)))

-- by how many bytes stand before b: fewer than there are, or all
pub has_of : (b : ℕ) (s : List ℕ) → length (before b s) < length s → has b s ≡ true
has_of b s h = by_test (has b s) (λ e. e) (λ e. absurd (lt_irrefl (length s) (rw (gone b s e) at h)))

pub hasnt_of : (b : ℕ) (s : List ℕ) → length s ≤ length (before b s) → has b s ≡ false
hasnt_of b s h = by_test (has b s) (λ e. absurd (not-le_of_lt (here b s e).within h)) (λ e. e)

-- a byte of two texts put together
pub has_append : (b : ℕ) (f g : List ℕ) → has b (f ++ g) ≡ (has b f || has b g)
unfolding has
has_append b [] g = refl
has_append b (x ∷ f) g = by_test (eqb x b) (λ e. rw e) (λ e. rw e (has_append b f g))

-- a byte e that is not before the first b is after it, or nowhere
pub has_past : (b e : ℕ) (s : List ℕ) → eqb b e ≡ false → has b s ≡ true → has e (before b s) ≡ false → has e s ≡ has e (after b s)
unfolding has
has_past b e s n i f = ap (has e) (here b s i).whole ∙ has_append e (before b s) (b ∷ after b s) ∙ rw (f, n)

pub has_after : (b e : ℕ) (s : List ℕ) → eqb b e ≡ false → has b s ≡ true → has e s ≡ true → has e (before b s) ≡ false → has e (after b s) ≡ true
has_after b e s n i h f = sym (has_past b e s n i f) ∙ h

pub before_fits : (b : ℕ) (s : List ℕ) → length (before b s) ≤ length s
before_fits b s = by_test (has b s) (λ h. omega (arith, (here b s h).within)) (λ h. omega (arith, ap length (gone b s h)))

-- as many first bytes of a text as stand before b are those
pub before_front : (b : ℕ) (s : List ℕ) → take (length (before b s)) s ≡ before b s
before_front b s = by_test (has b s) (λ h. (here b s h).front) (λ h. rw (gone b s h) (take_all (length s) s (le_refl (length s))))

-- the parts of a slice on either side of a byte that was found at r, as the code has them
pub record Cut (b : ℕ) (s : List ℕ) (r : ℕ) : Type 0 where
  pub is : has b s ≡ true
  pub front : take r s ≡ before b s
  pub rest : past s r ≡ after b s

pub cut : (b : ℕ) (s : List ℕ) (r : ℕ) → r ≡ length (before b s) → r < length s → Cut b s r
cut b s r e h =
    let i : has b s ≡ true = has_of b s (rw e at h) in
    record {
      is = i;
      front = rw e (here b s i).front;
      rest = from_drop s (r + 1) ∙ rw e (here b s i).rest;
    }

-- the first b of a text stands before its first e, which is another byte
pub record Inner (b e : ℕ) (s : List ℕ) : Type 0 where
  pub there : has b s ≡ true
  pub first : before b s ≡ before b (before e s)
  pub rest : before e (after b s) ≡ after b (before e s)

module _ (b e : ℕ) (ne : b ≡ e → ⊥) where
  pub inner : (s : List ℕ) → has b (before e s) ≡ true → Inner b e s
  unfolding has before after
  inner [] h = absurd (false≢true h)
  inner (x ∷ s) h =
      by_test (eqb x e)
      (λ p. absurd (false≢true (rw p at h)))
      (λ p.
      by_test (eqb x b)
      (λ q. record { there = rw q; first = rw (p, q); rest = rw (p, q) })
      (λ q. let i = inner s (rw (p, q) at h) in record { there = rw (q, i.there); first = rw (p, q, i.first); rest = rw (p, q, i.rest) }))

  -- or after it
  pub outer : (s : List ℕ) → has b s ≡ true → has b (before e s) ≡ false → has e (before b s) ≡ true
  unfolding has before
  outer [] h n = absurd (false≢true h)
  outer (x ∷ s) h n =
      by_test (eqb x b)
      (λ q.
      let p : eqb x e ≡ false = ne_eqb x e (λ same. ne (sym (eqb-true x b q) ∙ same)) in
      absurd (false≢true (sym (rw (p, q) at n))))
      (λ q. by_test (eqb x e) (λ p. rw (q, p)) (λ p. rw (q, p) (outer s (rw q at h) (rw (p, q) at n))))
