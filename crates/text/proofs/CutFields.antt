-- Fields of a text's first line, cut out of the text one by one. Others cite `FirstField`, that what stands before the text's first space is the first
-- field of the line: by the field's bytes (`cut_field`) or by how many fields the line has (`more_fields`); and of the last field `last_field`.
use Prim.Native.Nat.{ℕ, suc, ◌+◌}
use native.Mathlib.Omega.{arith}
use mathlib.Core.Path.{◌≡◌, refl, sym, ap}
use mathlib.Core.Bool.{true, false}
use mathlib.Core.List.{List, [], ◌∷◌}
use lib.Dec.{eqb}
use lib.ListN.{length, length-append}
use Rattle.laws.proofs.CaseSplits.{by_test, not_both}
use Rattle.text.specs.Lines.{line_end, space, has, before, after, field_count}
use Rattle.text.proofs.Split.{here, has_past, inner, outer}
use Rattle.text.proofs.FieldLaws.{count_one, count_more, count_positive}

-- the first of several fields of a line
pub record FirstField (s : List ℕ) : Type 0 where
  pub there : has space s ≡ true
  pub first : before space (before line_end s) ≡ before space s
  pub rest : after space (before line_end s) ≡ before line_end (after space s)
  pub is_ended : has line_end s ≡ has line_end (after space s)
  pub count : field_count (before line_end s) ≡ suc (field_count (before line_end (after space s)))
  pub size : length (before line_end s) ≡ length (before space s) + 1 + length (before line_end (after space s))

-- no byte e is before the first e, nor before a b that is
none_before : (b e : ℕ) (s : List ℕ) → has e (before b (before e s)) ≡ false
unfolding has before
none_before b e [] = refl
none_before b e (x ∷ s) =
    by_test (eqb x e) (λ p. rw p) (λ p. by_test (eqb x b) (λ q. rw (p, q)) (λ q. rw (p, q, p) (none_before b e s)))

on_line : (s : List ℕ) → has space (before line_end s) ≡ true → FirstField s
on_line s h =
    let l = before line_end s in
    let i = inner space line_end (λ e. omega (arith, e)) s h in
    record {
      there = i.there;
      first = sym i.first;
      rest = sym i.rest;
      is_ended = has_past space line_end s refl i.there (rw i.first (none_before space line_end s));
      count = rw i.rest (count_more l h);
      size = omega (arith, simp length-append at (ap length (here space l h).whole), ap length i.first, ap length i.rest);
    }

-- a field that a space ends and that has no byte 10
pub cut_field : (s : List ℕ) → has space s ≡ true → has line_end (before space s) ≡ false → FirstField s
cut_field s h n =
    by_test (has space (before line_end s))
    (on_line s)
    (λ f. not_both (has line_end (before space s)) (outer space line_end (λ e. omega (arith, e)) s h f) n)

-- a field of a line that has more than one, and that of a line that has one
pub more_fields : (s : List ℕ) (n : ℕ) → field_count (before line_end s) ≡ suc (suc n) → FirstField s
more_fields s n c = by_test (has space (before line_end s)) (on_line s) (λ f. absurd (omega (arith, c, count_one (before line_end s) f)))

pub last_field : (l : List ℕ) → field_count l ≡ 1 → has space l ≡ false
last_field l c = by_test (has space l) (λ h. absurd (omega (arith, c, count_more l h, count_positive (after space l)))) (λ h. h)
