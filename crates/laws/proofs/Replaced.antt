-- The entries of a list that a loop rewrites. Others cite: `replicate_entry` and `set_replicate`; and of `replaced` `replaced_more`, a turn of such a loop,
-- `length_replaced`, `replaced_same`, `replaced_at`, `replaced_past`, `replaced_short` and `replaced_set`.
use Prim.Native.Nat.{ℕ, zero, suc, ◌+◌, ◌≤◌, ◌<◌}
use mathlib.Core.Path.{◌≡◌, refl, sym, ◌∙◌}
use mathlib.Core.List.{List}
use native.Mathlib.Numerals.{add-one}
use native.Mathlib.Omega.{arith}
use lib.ListN.{get_or, set, length, replicate, length-set, length-replicate, get_or-replicate, get_or-eq_default}
use lib.Seq.{get_or-set_same, get_or-set_other, ext_get_or}
use Rattle.laws.proofs.Below.{down}
use Rattle.laws.proofs.CaseSplits.{by_order, by_equal}
use Rattle.laws.specs.Lists.{replaced}

-- In a list of one value, read with that value as the default, no index finds another.
pub replicate_entry : {A : Type 0} (n i : ℕ) (a : A) → get_or (replicate n a) i a ≡ a
replicate_entry n i a =
    by_order n i
    (λ h. get_or-eq_default (replicate n a) a (omega (arith, length-replicate n a)))
    (λ h. get_or-replicate n i a a h)

-- A list of one value with that value put at an index, past its end too.
pub set_replicate : {A : Type 0} (n i : ℕ) (a : A) → set (replicate n a) i a ≡ replicate n a
set_replicate n i a =
    ext_get_or a (set (replicate n a) i a) (replicate n a) (length-set (replicate n a) i a)
    (λ k inside.
    by_equal k i
    (λ e. rw e (get_or-set_same (replicate n a) i a a (omega (arith, length-set (replicate n a) i a)) ∙ sym (replicate_entry n i a)))
    (λ ne. get_or-set_other (replicate n a) i k a a ne))

-- One turn more of a loop that writes entry n.
pub replaced_more : {A : Type 0} (f : ℕ → A) (l : List A) (n : ℕ) {l' : List A} {v : A} →
    l' ≡ replaced n f l →
    v ≡ f n →
    set l' n v ≡ replaced (n + 1) f l
unfolding replaced
replaced_more f l n so_far next = rw (add-one n, so_far, next)

-- Entries that agree below n make the same list.
pub replaced_same : {A : Type 0} (f g : ℕ → A) (l : List A) (n : ℕ) → ((i : ℕ) → i < n → f i ≡ g i) → replaced n f l ≡ replaced n g l
unfolding replaced
replaced_same f g l zero h = refl
replaced_same f g l (suc n) h = rw (replaced_same f g l n (down n h), h n (omega arith))

module _ {A : Type 0} (f : ℕ → A) (l : List A) where
  pub length_replaced : (n : ℕ) → length (replaced n f l) ≡ length l
  unfolding replaced
  length_replaced zero = refl
  length_replaced (suc n) = length-set (replaced n f l) n (f n) ∙ length_replaced n

  module _ (d : A) where
    pub replaced_past : (n i : ℕ) → n ≤ i → get_or (replaced n f l) i d ≡ get_or l i d
    unfolding replaced
    replaced_past zero i h = refl
    replaced_past (suc n) i h = get_or-set_other (replaced n f l) n i (f n) d (omega arith) ∙ replaced_past n i (omega arith)

    pub replaced_at : (n i : ℕ) → i < n → i < length l → get_or (replaced n f l) i d ≡ f i
    unfolding replaced
    replaced_at zero i h long = absurd (omega arith)
    replaced_at (suc n) i h long =
        by_equal i n
        (λ e. rw e (get_or-set_same (replaced n f l) n (f n) d (omega (arith, length_replaced n))))
        (λ ne. get_or-set_other (replaced n f l) n i (f n) d ne ∙ replaced_at n i (omega arith) long)

    pub replaced_short : (n i : ℕ) → length l ≤ i → get_or (replaced n f l) i d ≡ d
    replaced_short n i short = get_or-eq_default (replaced n f l) d (omega (arith, length_replaced n))

-- One of the replaced entries set to another value: the list replaced by the entries of g, which is that value there and else f.
module _ {A : Type 0} (f g : ℕ → A) (l : List A) (n k : ℕ) (others : (i : ℕ) → (i ≡ k → ⊥) → g i ≡ f i) where
  pub replaced_set : (d : A) → k < n → n ≤ length l → set (replaced n f l) k (g k) ≡ replaced n g l
  replaced_set d h fits =
      ext_get_or d (set (replaced n f l) k (g k)) (replaced n g l)
      (length-set (replaced n f l) k (g k) ∙ length_replaced f l n ∙ sym (length_replaced g l n))
      (λ i inside.
      by_equal i k
      (λ e. rw e (get_or-set_same (replaced n f l) k (g k) d (omega (arith, length_replaced f l n)) ∙ sym (replaced_at g l d n k h (omega arith))))
      (λ ne.
      get_or-set_other (replaced n f l) k i (g k) d ne
      ∙ by_order n i
      (λ past. replaced_past f l d n i past ∙ sym (replaced_past g l d n i past))
      (λ below. replaced_at f l d n i below (omega arith) ∙ sym (replaced_at g l d n i below (omega arith) ∙ others i ne))))
