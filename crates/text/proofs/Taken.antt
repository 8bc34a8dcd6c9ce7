-- The first line of a text of which only the first k bytes are taken: whole where it ends within them (`taken`,
-- with `Taken`), and else not ended (`untaken`).
use Prim.Native.Nat.{ℕ, zero, suc, ◌+◌, ◌-◌, ◌≤◌, ◌<◌}
use native.Mathlib.Omega.{arith}
use mathlib.Core.Path.{◌≡◌, refl, sym}
use mathlib.Core.Bool.{false}
use mathlib.Core.List.{List, [], ◌∷◌}
use lib.Dec.{eqb}
use lib.ListN.{length, take}
use lib.Seq.{take-nil}
use Rattle.laws.proofs.CaseSplits.{by_test}
use Rattle.text.specs.Lines.{line_end, has, before, after}

pub record Taken (k : ℕ) (s : List ℕ) : Type 0 where
  pub is : has line_end (take k s) ≡ has line_end s
  pub line : before line_end (take k s) ≡ before line_end s
  pub rest : after line_end (take k s) ≡ take (k - (length (before line_end s) + 1)) (after line_end s)

pub taken : (k : ℕ) (s : List ℕ) → length (before line_end s) < k → Taken k s
unfolding has before after
taken zero s h = absurd (omega arith)
taken (suc k) [] h = record { is = refl; line = refl; rest = sym (take-nil (suc k - 1)) }
taken (suc k) (x ∷ s) h =
    by_test (eqb x line_end)
    (λ e. let z : suc k - (0 + 1) ≡ k = omega arith in record { is = rw e; line = rw e; rest = rw (e, z) })
    (λ e.
    let t = taken k s (omega (arith, rw e at h)) in
    let z : suc k - (suc (length (before line_end s)) + 1) ≡ k - (length (before line_end s) + 1) = omega arith in
    record { is = rw (e, t.is); line = rw (e, t.line); rest = rw (e, z, t.rest) })

pub untaken : (k : ℕ) (s : List ℕ) → k ≤ length (before line_end s) → has line_end (take k s) ≡ false
unfolding has before
untaken zero s h = refl
untaken (suc k) [] h = absurd (omega arith)
untaken (suc k) (x ∷ s) h =
    by_test (eqb x line_end)
    (λ e. let n : suc k ≤ 0 = rw e at h in absurd (omega arith))
    (λ e. let n : suc k ≤ suc (length (before line_end s)) = rw e at h in rw (e, untaken k s (omega arith)))
