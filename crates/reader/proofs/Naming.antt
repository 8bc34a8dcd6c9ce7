-- Three fields among which each of the three names is found are these names, in any order. Others cite what follows for the bytes of the fields:
-- `Without`, with `none_in`.
use Prim.Native.Nat.{ℕ, zero, suc, ◌+◌, ◌<◌}
use native.Mathlib.Omega.{arith}
use mathlib.Core.Path.{◌≡◌, sym, ap, ◌∙◌}
use mathlib.Core.Bool.{true, false}
use mathlib.Core.List.{List}
use lib.ListN.{get_or}
use Rattle.laws.proofs.CaseSplits.{by_cond, by_equal}
use Rattle.text.specs.Lines.{has}
use Rattle.text.proofs.WordLaws.{same_is}
use Rattle.reader.specs.Names.{period_name, budget_name, deadline_name, column_in, columns_in, each_named}
use Rattle.reader.proofs.ValueLine.{columns_below}

-- no field has the byte b
pub record Without (b : ℕ) (f g h : List ℕ) : Type 0 where
  pub first : has b f ≡ false
  pub second : has b g ≡ false
  pub third : has b h ≡ false

-- three different columns are all there are
columns_sum : (x y z : ℕ) → x < 3 → y < 3 → z < 3 → (x ≡ y → ⊥) → (x ≡ z → ⊥) → (y ≡ z → ⊥) → x + y + z ≡ 3
columns_sum x y z i j k a b c = omega arith

module _ (f g h : List ℕ) where
  -- the field in a column
  field_at : ℕ → List ℕ
  field_at zero = f
  field_at (suc zero) = g
  field_at (suc (suc k)) = h

  -- in the column of a name stands the name
  in_column : (n : List ℕ) → column_in n f g h < 3 → field_at (column_in n f g h) ≡ n
  unfolding column_in field_at
  in_column n =
      let P : ℕ → Type 0 = λ k. k < 3 → field_at k ≡ n in
      by_cond P _ (λ t l. same_is f n t)
      (λ _. by_cond P _ (λ t l. same_is g n t) (λ _. by_cond P _ (λ t l. same_is h n t) (λ _ l. absurd (omega arith))))

  -- so different names have different columns
  apart : (n m : List ℕ) → column_in n f g h < 3 → column_in m f g h < 3 → (get_or n 0 0 ≡ get_or m 0 0 → ⊥) → column_in n f g h ≡ column_in m f g h → ⊥
  apart n m l k d e = d (ap (λ (w : List ℕ). get_or w 0 0) (sym (in_column n l) ∙ ap field_at e ∙ in_column m k))

  module _ (t : each_named (columns_in f g h) ≡ true) (b : ℕ) where
    -- each field stands in the column of one of the names
    none_at : has b period_name ≡ false → has b budget_name ≡ false → has b deadline_name ≡ false → (k : ℕ) → k < 3 → has b (field_at k) ≡ false
    unfolding columns_in
    none_at p q r k l =
        let c = columns_below (columns_in f g h) t in
        let pq = apart period_name budget_name c.period c.budget (λ e. omega (arith, e)) in
        let pr = apart period_name deadline_name c.period c.deadline (λ e. omega (arith, e)) in
        let qr = apart budget_name deadline_name c.budget c.deadline (λ e. omega (arith, e)) in
        by_equal k (column_in period_name f g h)
        (λ e. rw (e, in_column period_name c.period) p)
        (λ n.
        by_equal k (column_in budget_name f g h)
        (λ e. rw (e, in_column budget_name c.budget) q)
        (λ m.
        let all = columns_sum _ _ _ c.period c.budget c.deadline pq pr qr in
        let more = columns_sum _ _ k c.period c.budget l pq (λ e. n (sym e)) (λ e. m (sym e)) in
        let e : k ≡ column_in deadline_name f g h = omega (arith, all, more) in
        rw (e, in_column deadline_name c.deadline) r))

    pub none_in : has b period_name ≡ false → has b budget_name ≡ false → has b deadline_name ≡ false → Without b f g h
    unfolding field_at
    none_in p q r =
        record { first = none_at p q r 0 (omega arith); second = none_at p q r 1 (omega arith); third = none_at p q r 2 (omega arith) }
