-- What an array's `map` made with a closure that keeps what it captures: `mapped_at`, that each entry is h of the entry it was made of.
use Rattle.std.proofs.Common.{ℕ, zero, suc, ◌+◌, ◌≤◌, ◌<◌, ◌≡◌, List, get_or, arith}
use Rattle.std.specs.Array.{MapsFrom}
use denote.Param.Members.{Mut, Called}
use Rattle.laws.proofs.CaseSplits.{by_equal}

module _ {F A B : Type 0} (g : Mut F (A × Unit {0}) B) (Keeps : F → Type 0) (h : A → B)
    (call : (p q : F) (x : A) (y : B) → Keeps p → Called g p (x, tt) y q → (y ≡ h x) × Keeps q) (xs : List A) (ys : List B) (d : A) (e : B) where
  pub mapped_at : (n i : ℕ) (f : F) → Keeps f → MapsFrom g f xs ys i n → (j : ℕ) → i ≤ j → j < i + n → get_or ys j e ≡ h (get_or xs j d)
  mapped_at zero i f keeps calls j from below = absurd (omega arith)
  mapped_at (suc n) i f keeps calls j from below =
      let (q, x, y, at_x, at_y, called, rest) = calls in
      let (is, kept) = call f q x y keeps called in
      by_equal j i
      (λ same. rw (same, at_x.1 d, at_y.1 e) is)
      (λ other. mapped_at n (i + 1) q kept rest j (omega arith) (omega arith))
