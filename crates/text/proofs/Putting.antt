-- Laws of `put` and `PutAt`. Others cite `put_nothing`, `put_append` (one text after another), `put_at` (an output's bytes, lent), and `put_all` (an unused
-- output with room for the text holds it), with `new_used` and `new_room`; and of lent arrays `put_none`, `put_then`, `put_size`, `put_byte`, `put_over` and
-- `put_full` (one byte more, and none).
use Prim.Native.Nat.{ℕ, suc, ◌+◌, ◌≤◌, ◌<◌}
use native.Mathlib.Omega.{arith}
use mathlib.Core.Path.{◌≡◌, refl, sym, ap, ◌∙◌}
use mathlib.Core.List.{List, [], ◌∷◌, ◌++◌}
use lib.ListN.{length, set, take, drop, replicate, length-append}
use lib.Seq.{sets, set_out, length-sets, sets-eq, take-append_seam}
use Rattle.std.proofs.lemmas.List.{length-replicate}
use Rattle.laws.proofs.CaseSplits.{by_order}
use Rattle.text.specs.declared.output.Output.{Output}
use Rattle.text.specs.Output.{overwritten, used_after, PutAt, fresh, put, Holds}

sets_full : (a : List ℕ) (u : ℕ) (s : List ℕ) → length a ≤ u → sets a u s ≡ a
sets_full a u [] h = refl
sets_full a u (x ∷ s) h = rw (set_out a u x h) (sets_full a (suc u) s (omega arith))

sets_then : (a : List ℕ) (u : ℕ) (s t : List ℕ) → sets (sets a u s) (u + length s) t ≡ sets a u (s ++ t)
sets_then a u [] t = let e : u + 0 ≡ u = omega arith in rw e
sets_then a u (x ∷ s) t = let e : u + suc (length s) ≡ suc u + length s = omega arith in rw e (sets_then (set a u x) (suc u) s t)

sets_held : (a s : List ℕ) → length s ≤ length a → take (length s) (sets a 0 s) ≡ s
sets_held a s h = rw (sets-eq s a 0 (omega arith)) (take-append_seam s (drop (0 + length s) a))

-- nothing was put
pub put_none : (a : List ℕ) (u : ℕ) → PutAt a u [] a u
unfolding overwritten used_after
put_none a u = record { array = refl; count = omega arith }

module _ {a : List ℕ} {u : ℕ} {s b : List ℕ} {v : ℕ} (p : PutAt a u s b v) where
  pub put_size : length b ≡ length a
  unfolding overwritten
  put_size = ap length p.array ∙ length-sets a u s

  -- one text after the other; where the array is full already, both stay as they are
  pub put_then : {t c : List ℕ} {w : ℕ} → PutAt b v t c w → PutAt a u (s ++ t) c w
  unfolding overwritten used_after
  put_then {t} {c} {w} q =
      record {
        array =
            q.array
            ∙ by_order v (length a)
            (λ h. let e : v ≡ u + length s = omega (arith, p.count) in rw (p.array, e) (sets_then a u s t))
            (λ h.
            sets_full b v t (omega (arith, put_size)) ∙ p.array
            ∙ sym (sets_full (sets a u s) (u + length s) t (omega (arith, p.count, length-sets a u s)))
            ∙ sets_then a u s t);
        count = omega (arith, p.count, q.count, put_size, length-append s t);
      }

  -- a byte more, where there is room for it
  pub put_byte : (x : ℕ) → v < length b → PutAt a u (s ++ x ∷ []) (set b v x) (v + 1)
  unfolding overwritten used_after
  put_byte x h = put_then (record { array = refl; count = omega arith })

  -- a text that has no room at all, at the array's end and past it
  pub put_over : (t : List ℕ) → 0 < length t → length b ≡ v → PutAt a u (s ++ t) b (v + 1)
  unfolding overwritten used_after
  put_over t some h = put_then (record { array = sym (sets_full b v t (omega arith)); count = omega arith })

  pub put_full : (t : List ℕ) → length b < v → PutAt a u (s ++ t) b v
  unfolding overwritten used_after
  put_full t h = put_then (record { array = sym (sets_full b v t (omega arith)); count = omega arith })

same_output : {N : ℕ} {a b : Output N} → a.bytes ≡ b.bytes → a.used ≡ b.used → a ≡ b
same_output p q i = record { bytes = p i; used = q i }

-- an output whose bytes were lent
pub put_at : {N : ℕ} {o p : Output N} {s : List ℕ} → PutAt o.bytes o.used s p.bytes p.used → p ≡ put o s
unfolding put
put_at l = same_output l.array l.count

lent : {N : ℕ} (o : Output N) (s : List ℕ) → let p = put o s in PutAt o.bytes o.used s p.bytes p.used
unfolding put
lent o s = record { array = refl; count = refl }

pub put_nothing : {N : ℕ} (o : Output N) → put o [] ≡ o
put_nothing o = sym (put_at (put_none o.bytes o.used))

pub put_append : {N : ℕ} (o : Output N) (s t : List ℕ) → put (put o s) t ≡ put o (s ++ t)
put_append o s t = put_at (put_then (lent o s) (lent (put o s) t))

-- an output with room for the text holds it
pub put_all : {N : ℕ} (o : Output N) {p : Output N} (s : List ℕ) → o.used ≡ 0 → p ≡ put o s → length s ≤ length o.bytes → Holds s p
unfolding put overwritten used_after
put_all o s e f h =
    let r : used_after (length o.bytes) 0 (length s) ≡ length s = omega arith in
    rw (f, e) (record { holds = rw r (sets_held o.bytes s h); count = r })

-- an output that is new
module _ {N : ℕ} {o : Output N} (e : o ≡ fresh N) where
  pub new_used : o.used ≡ 0
  unfolding fresh
  new_used = rw e

  pub new_room : {n : ℕ} → n ≤ N → n ≤ length o.bytes
  unfolding fresh
  new_room {n} h = let size : length (replicate {A = ℕ} N 0) ≡ N = length-replicate N 0 in rw e (omega (arith, size))
