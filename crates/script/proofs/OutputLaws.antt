-- The lines of the output but for a report: how long they are, and what they are put together from. Others cite `refused_few`, `refused_put`, `bad_put`
-- and `bad_put_at`, for one kind of line each, and the laws of `PutsWithin`: `within_all`, `within_more` and `within_then`.
use Prim.Native.Nat.{ℕ, ◌+◌, ◌^◌, ◌≤◌, ◌<◌}
use native.Mathlib.Omega.{arith}
use mathlib.Core.Path.{◌≡◌, ◌∙◌}
use mathlib.Core.List.{List, [], ◌∷◌, ◌++◌}
use lib.ListN.{length, length-append}
use Rattle.text.specs.declared.output.Output.{Output}
use Rattle.text.specs.Output.{PutAt, put, Holds, further_numbers, numbers_line, refused_line}
use Rattle.text.proofs.DigitLaws.{text_few}
use Rattle.text.proofs.Putting.{put_then, put_append, put_all}
use Rattle.script.specs.Words.{bad_line_word}
use Rattle.script.specs.Output.{PutsWithin, PutAtWithin, bad_line, refusal_room}

-- a text that was put in an unused output which has room for it
pub within_all : {N : ℕ} (most : ℕ) {o p : Output N} (s : List ℕ) → o.used ≡ 0 → PutsWithin most o s p → most ≤ length o.bytes → Holds s p
within_all most {o} s unused l h = put_all o s unused l.whole (omega (arith, l.few))

-- at most so many bytes are at most more
pub within_more : {N : ℕ} {most : ℕ} (more : ℕ) {o p : Output N} {s : List ℕ} → most ≤ more → PutsWithin most o s p → PutsWithin more o s p
within_more more h l = record { whole = l.whole; few = omega (arith, l.few) }

-- one text after another
pub within_then :
    {N : ℕ} (p q : ℕ) {a b c : Output N} (s t : List ℕ) → PutsWithin p a s b → PutsWithin q b t c → PutsWithin (p + q) a (s ++ t) c
within_then p q {a} {b} {c} s t x y =
    record { whole = y.whole ∙ rw x.whole (put_append a s t); few = simp length-append (omega (arith, x.few, y.few)) }

-- a refusal's number has at most ten digits
pub refused_few : (n : ℕ) → n < 2 ^ 32 → length (refused_line n) ≤ refusal_room
unfolding refused_line numbers_line further_numbers
refused_few n h = simp length-append (omega (arith, text_few 9 n (omega arith)))

pub refused_put :
    {N : ℕ} (most : ℕ) → refusal_room ≤ most → {a b : Output N} (n : ℕ) → n < 2 ^ 32 → b ≡ put a (refused_line n)
    → PutsWithin most a (refused_line n) b
refused_put most m n h p = record { whole = p; few = omega (arith, refused_few n h) }

-- the number of a bad line has at most twenty digits
bad_few : (n : ℕ) → n < 2 ^ 64 → length (bad_line n) ≤ refusal_room
unfolding bad_line numbers_line further_numbers
bad_few n h = simp length-append (omega (arith, text_few 19 n (omega arith)))

module _ (n : ℕ) (small : n < 2 ^ 64) where
  pub bad_put : {N : ℕ} {a b c : Output N} → b ≡ put a bad_line_word → c ≡ put b (numbers_line (n ∷ [])) → PutsWithin refusal_room a (bad_line n) c
  unfolding bad_line
  bad_put {N} {a} p q = record { whole = q ∙ rw p (put_append a bad_line_word _); few = bad_few n small }

  pub bad_put_at :
      {a b c : List ℕ} {u v w : ℕ} → PutAt a u bad_line_word b v → PutAt b v (numbers_line (n ∷ [])) c w → PutAtWithin refusal_room a u (bad_line n) c w
  unfolding bad_line
  bad_put_at p q = record { whole = put_then p q; few = bad_few n small }
