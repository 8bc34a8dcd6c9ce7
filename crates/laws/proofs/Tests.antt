-- Tests on numbers. Others cite `same_leb`, `same_ltb` and `same_eqb`: two tests that hold in the same cases are equal.
use Prim.Native.Nat.{ℕ, ◌≤◌, ◌<◌}
use mathlib.Core.Path.{◌≡◌}
use lib.Dec.{eqb, leb, ltb}
use borrow.Author.Tests.{eq-eqb, eqb-true, le-leb, leb-true, lt-ltb, ltb-true}
use Rattle.laws.proofs.Booleans.{both_ways}

module _ (a b c d : ℕ) where
  pub same_leb : (a ≤ b → c ≤ d) → (c ≤ d → a ≤ b) → leb a b ≡ leb c d
  same_leb f g = both_ways _ _ (λ e. le-leb c d (f (leb-true a b e))) (λ e. le-leb a b (g (leb-true c d e)))

  pub same_ltb : (a < b → c < d) → (c < d → a < b) → ltb a b ≡ ltb c d
  same_ltb f g = both_ways _ _ (λ e. lt-ltb c d (f (ltb-true a b e))) (λ e. lt-ltb a b (g (ltb-true c d e)))

  pub same_eqb : (a ≡ b → c ≡ d) → (c ≡ d → a ≡ b) → eqb a b ≡ eqb c d
  same_eqb f g = both_ways _ _ (λ e. eq-eqb c d (f (eqb-true a b e))) (λ e. eq-eqb a b (g (eqb-true c d e)))
