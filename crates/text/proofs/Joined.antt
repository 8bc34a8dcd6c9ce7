-- A text put together of a part, a byte b that the part does not have, and the rest. Others cite: `has_joined`, `before_joined` and `after_joined`, that it
-- is split there again; and `lines_joined` and `unended_joined`, where the part is a line and b is byte 10.
use Prim.Native.Nat.{ℕ}
use mathlib.Core.Path.{◌≡◌, refl, sym, ◌∙◌}
use mathlib.Core.Bool.{true, false, or-true, false≢true}
use mathlib.Core.List.{List, [], ◌∷◌, ◌++◌}
use borrow.Author.Tests.{eq-eqb}
use lib.Dec.{eqb}
use Rattle.laws.proofs.CaseSplits.{by_test}
use Rattle.text.specs.Lines.{line_end, has, before, after, lines, unended}
use Rattle.text.proofs.Split.{has_append}
use Rattle.text.proofs.LineLaws.{lines_more, unended_more}

pub has_joined : (b : ℕ) (f r : List ℕ) → has b (f ++ b ∷ r) ≡ true
unfolding has
has_joined b f r = has_append b f (b ∷ r) ∙ rw (eq-eqb b b refl, or-true)

pub before_joined : (b : ℕ) (f r : List ℕ) → has b f ≡ false → before b (f ++ b ∷ r) ≡ f
unfolding has before
before_joined b [] r h = rw (eq-eqb b b refl)
before_joined b (x ∷ f) r h =
    by_test (eqb x b) (λ e. absurd (false≢true (sym (rw e at h)))) (λ e. rw (e, before_joined b f r (rw e at h)))

pub after_joined : (b : ℕ) (f r : List ℕ) → has b f ≡ false → after b (f ++ b ∷ r) ≡ r
unfolding has after
after_joined b [] r h = rw (eq-eqb b b refl)
after_joined b (x ∷ f) r h =
    by_test (eqb x b) (λ e. absurd (false≢true (sym (rw e at h)))) (λ e. rw (e, after_joined b f r (rw e at h)))

module _ (l s : List ℕ) (whole : has line_end l ≡ false) where
  pub lines_joined : lines (l ++ line_end ∷ s) ≡ l ∷ lines s
  lines_joined =
      lines_more (l ++ line_end ∷ s) (has_joined line_end l s)
      ∙ rw (before_joined line_end l s whole, after_joined line_end l s whole)

  pub unended_joined : unended (l ++ line_end ∷ s) ≡ unended s
  unended_joined = unended_more (l ++ line_end ∷ s) (has_joined line_end l s) ∙ rw (after_joined line_end l s whole)
