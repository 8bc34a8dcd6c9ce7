-- Laws of `lines` and `unended`. Others cite `lines_more` and `unended_more`, of a text that has a byte 10; `lines_none` and `unended_all`, of one that has
-- none; `total_lines`, how many bytes the lines have, `total`; and `no_bytes` and `some_bytes`, whether a text is empty. `lines_whole` says that nothing of
-- a text is lost.
use Prim.Native.Nat.{ℕ, suc, ◌+◌, ◌≤◌, ◌<◌}
use native.Mathlib.Omega.{arith}
use mathlib.Core.Path.{◌≡◌, refl, sym, ap}
use mathlib.Core.Bool.{true, false, false≢true}
use mathlib.Core.List.{List, [], ◌∷◌, ◌++◌}
use borrow.Author.Tests.{eqb-true}
use lib.Dec.{eqb}
use lib.ListN.{length}
use Rattle.laws.proofs.CaseSplits.{by_test}
use Rattle.laws.proofs.Parts.{empty}
use Rattle.text.specs.Lines.{line_end, has, before, after, is_empty, in_first, lines, unended}

pub lines_more : (s : List ℕ) → has line_end s ≡ true → lines s ≡ before line_end s ∷ lines (after line_end s)
unfolding has before after lines in_first
lines_more [] h = absurd (false≢true h)
lines_more (x ∷ s) h = by_test (eqb x line_end) (λ e. rw e) (λ e. rw (e, lines_more s (rw e at h)))

pub lines_none : (s : List ℕ) → has line_end s ≡ false → lines s ≡ []
unfolding has lines in_first
lines_none [] h = refl
lines_none (x ∷ s) h = by_test (eqb x line_end) (λ e. absurd (false≢true (sym (rw e at h)))) (λ e. rw (e, lines_none s (rw e at h)))

pub unended_more : (s : List ℕ) → has line_end s ≡ true → unended s ≡ unended (after line_end s)
unfolding has after unended
unended_more [] h = absurd (false≢true h)
unended_more (x ∷ s) h =
    by_test (eqb x line_end) (λ e. rw e) (λ e. let h₁ : has line_end s ≡ true = rw e at h in rw (e, h₁) (unended_more s h₁))

pub unended_all : (s : List ℕ) → has line_end s ≡ false → unended s ≡ s
unfolding unended
unended_all [] h = refl
unended_all (x ∷ s) h = rw h

-- how many bytes some lines have, each with its byte 10
unfoldable pub total : List (List ℕ) → ℕ
total [] = 0
total (l ∷ ls) = length l + 1 + total ls

-- the lines of a text have no more bytes than the text
pub total_lines : (s : List ℕ) → total (lines s) ≤ length s
unfolding total lines in_first
total_lines [] = omega arith
total_lines (x ∷ s) = by_test (eqb x line_end) (λ e. rw e (omega (arith, total_lines s))) (λ e. rw e (total_first (lines s) (total_lines s)))
  where
    total_first : (ls : List (List ℕ)) → total ls ≤ length s → total (in_first x ls) ≤ suc (length s)
    total_first [] h = omega arith
    total_first (l ∷ ls) h = omega arith

-- the definitions lose nothing: the lines, each with its byte 10, and what stands unended after them are the text
unfoldable pub text_of : List (List ℕ) → List ℕ → List ℕ
text_of [] rest = rest
text_of (l ∷ ls) rest = l ++ line_end ∷ text_of ls rest

pub lines_whole : (s : List ℕ) → text_of (lines s) (unended s) ≡ s
unfolding has lines in_first unended text_of
lines_whole [] = refl
lines_whole (x ∷ s) =
    by_test (eqb x line_end)
    (λ e. rw (e, lines_whole s, eqb-true x line_end e))
    (λ e.
    by_test (has line_end s)
    (λ h. rw (e, h, lines_more s h) (ap (λ (r : List ℕ). x ∷ r) (rw (lines_more s h) at (lines_whole s))))
    (λ h. rw (e, h, lines_none s h)))

-- whether a text is empty, by its length
pub no_bytes : (s : List ℕ) → length s ≤ 0 → is_empty s ≡ true
unfolding is_empty
no_bytes s h = rw (empty s h)

pub some_bytes : (s : List ℕ) → 0 < length s → is_empty s ≡ false
unfolding is_empty
some_bytes [] h = absurd (omega arith)
some_bytes (x ∷ s) h = refl
