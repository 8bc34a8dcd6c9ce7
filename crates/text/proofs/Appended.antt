-- A text with another put after it. Others cite: `before_kept` and `after_kept`, where the first one has the byte b; `before_more`, where it has not; and
-- `lines_append`, the lines of both, with `unended_free`, that what stands unended has no byte 10, and `lines_length`, that the lines and it are all.
use Prim.Native.Nat.{ℕ, ◌+◌}
use native.Mathlib.Omega.{arith}
use mathlib.Core.Path.{◌≡◌, refl, sym, ap, ◌∙◌}
use mathlib.Core.Bool.{true, false, false≢true}
use mathlib.Core.List.{List, [], ◌∷◌, ◌++◌}
use lib.Dec.{eqb}
use lib.ListN.{length, length-append}
use Rattle.laws.proofs.CaseSplits.{by_test}
use Rattle.text.specs.Lines.{line_end, has, before, after, in_first, lines, unended}
use Rattle.text.proofs.LineLaws.{lines_more, lines_none, total, text_of, lines_whole}

module _ (b : ℕ) where
  pub before_kept : (s t : List ℕ) → has b s ≡ true → before b (s ++ t) ≡ before b s
  unfolding has before
  before_kept [] t h = absurd (false≢true h)
  before_kept (x ∷ s) t h = by_test (eqb x b) (λ e. rw e) (λ e. rw (e, before_kept s t (rw e at h)))

  pub after_kept : (s t : List ℕ) → has b s ≡ true → after b (s ++ t) ≡ after b s ++ t
  unfolding has after
  after_kept [] t h = absurd (false≢true h)
  after_kept (x ∷ s) t h = by_test (eqb x b) (λ e. rw e) (λ e. rw (e, after_kept s t (rw e at h)))

  pub before_more : (s t : List ℕ) → has b s ≡ false → before b (s ++ t) ≡ s ++ before b t
  unfolding has before
  before_more [] t h = refl
  before_more (x ∷ s) t h =
      by_test (eqb x b) (λ e. absurd (false≢true (sym (rw e at h)))) (λ e. rw (e, before_more s t (rw e at h)))

-- the lines of the first one, and those of what stands unended after them with the second one
pub lines_append : (s t : List ℕ) → lines (s ++ t) ≡ lines s ++ lines (unended s ++ t)
unfolding has lines in_first unended
lines_append [] t = refl
lines_append (x ∷ s) t =
    by_test (eqb x line_end)
    (λ e. rw (e, lines_append s t))
    (λ e.
    by_test (has line_end s)
    (λ h. rw (e, h, lines_append s t, lines_more s h))
    (λ h. rw (e, h, lines_none s h, e)))

pub unended_free : (s : List ℕ) → has line_end (unended s) ≡ false
unfolding has unended
unended_free [] = refl
unended_free (x ∷ s) = by_test (has line_end (x ∷ s)) (λ h. rw h (unended_free s)) (λ h. rw h h)

text_length : (ls : List (List ℕ)) (rest : List ℕ) → length (text_of ls rest) ≡ total ls + length rest
unfolding text_of total
text_length [] rest = omega arith
text_length (l ∷ ls) rest = omega (arith, length-append l (line_end ∷ text_of ls rest), text_length ls rest)

pub lines_length : (s : List ℕ) → total (lines s) + length (unended s) ≡ length s
lines_length s = sym (text_length (lines s) (unended s)) ∙ ap length (lines_whole s)
