-- Laws of numbers in base ten. Others cite `up_to` and `not_up_to` (what `number_up_to` says of a text), `no_other` (a byte that is no digit), `no_limit`
-- (a largest value that is never reached), `number_short`, `digit`, `decimal_append` (one digit more), `Numbered` (a field that is a number), and the laws
-- of a field read up to a space: `broken_field`, `longer_field` and `whole_field`.
use Prim.Native.Nat.{ℕ, suc, ◌+◌, ◌-◌, ◌*◌, ◌^◌, ◌≤◌, ◌<◌}
use native.Mathlib.Nat.{pow-le-pow_right, pow-suc}
use native.Mathlib.Omega.{arith}
use mathlib.Core.Path.{◌≡◌, refl, sym, ap, ◌∙◌}
use mathlib.Core.Bool.{true, false, not, ◌&&◌, and-false, false≢true}
use mathlib.Core.List.{List, [], ◌∷◌, ◌++◌}
use borrow.Author.Tests.{le-leb, leb-true, eqb-true}
use lib.Dec.{eqb, leb, lit<}
use lib.ListN.{length}
use Rattle.laws.proofs.CaseSplits.{by_test, by_cond, clash}
use Rattle.laws.proofs.Booleans.{and_left, and_right}
use Rattle.text.specs.Lines.{space, has, before}
use Rattle.text.specs.Number.{is_digit, all_digits, leading_zero, well_formed, decimal_from, decimal, is_number, number_of, number_up_to}
use Rattle.std.specs.Prelude.{Some, None}
use Rattle.text.specs.declared.number.LeadingNumber.{LeadingNumber}
use Rattle.text.proofs.Split.{gone, has_of, hasnt_of}

-- a field that is the number n
pub record Numbered (k largest : ℕ) (f : List ℕ) (n : ℕ) : Type 0 where
  pub is : is_number k largest f ≡ true
  pub value : decimal f ≡ n

-- what `number_up_to` says of the field before the byte b
module _ (k largest b : ℕ) (s : List ℕ) where
  pub up_to : (l : LeadingNumber) → number_up_to k largest b s ≡ Some l → Numbered k largest (before b s) l.number × (l.length ≡ length (before b s))
  unfolding number_up_to
  up_to l =
      by_cond (λ r. r ≡ Some l → Numbered k largest (before b s) l.number × (l.length ≡ length (before b s))) (is_number k largest (before b s))
      (λ t e. (record { is = t; value = cc }, cc))
      (λ t e. clash cc)

  pub not_up_to : number_up_to k largest b s ≡ None → is_number k largest (before b s) ≡ false
  unfolding number_up_to
  not_up_to =
      by_cond (λ r. r ≡ None → is_number k largest (before b s) ≡ false) (is_number k largest (before b s)) (λ t e. clash cc) (λ t e. t)

-- a digit
pub record Digit (b : ℕ) : Type 0 where
  pub low : 48 ≤ b
  pub high : b ≤ 57

pub digit : (b : ℕ) → is_digit b ≡ true → Digit b
unfolding is_digit
digit b h = record { low = leb-true 48 b (and_left (leb 48 b) (leb b 57) h); high = leb-true b 57 (and_right (leb 48 b) (leb b 57) h) }

pub decimal_append : (n : ℕ) (f : List ℕ) (b : ℕ) → decimal_from n (f ++ b ∷ []) ≡ decimal_from n f * 10 + (b - 48)
unfolding decimal_from
decimal_append n [] b = refl
decimal_append n (x ∷ f) b = decimal_append (n * 10 + (x - 48)) f b

digits_only : (b : ℕ) → is_digit b ≡ false → (f : List ℕ) → all_digits f ≡ true → has b f ≡ false
unfolding has all_digits
digits_only b n [] d = refl
digits_only b n (x ∷ f) d =
    by_test (eqb x b)
    (λ e. absurd (false≢true (sym n ∙ ap is_digit (sym (eqb-true x b e)) ∙ and_left (is_digit x) (all_digits f) d)))
    (λ e. rw e (digits_only b n f (and_right (is_digit x) (all_digits f) d)))

-- so many digits make a number below that power of ten
below : (n i : ℕ) (f : List ℕ) → n < 10 ^ i → all_digits f ≡ true → decimal_from n f < 10 ^ (i + length f)
unfolding decimal_from all_digits
below n i [] h d = let e : i + 0 ≡ i = omega arith in rw e h
below n i (x ∷ f) h d =
    let g = digit x (and_left (is_digit x) (all_digits f) d) in
    let e : i + suc (length f) ≡ suc i + length f = omega arith in
    rw e (below (n * 10 + (x - 48)) (suc i) f (rw (pow-suc 10 i) (omega (arith, g.high))) (and_right (is_digit x) (all_digits f) d))

-- it has at most so many digits
short : (k : ℕ) (f : List ℕ) → well_formed k f ≡ true → length f ≤ k
unfolding well_formed
short k f e =
    let lengths = leb 1 (length f) && leb (length f) k in
    leb-true (length f) k
    (and_right (leb 1 (length f)) (leb (length f) k) (and_left lengths (not (leading_zero f)) (and_left (lengths && not (leading_zero f)) (all_digits f) e)))

few_digits : (k : ℕ) (f : List ℕ) → well_formed k f ≡ true → decimal f < 10 ^ k
unfolding well_formed decimal
few_digits k f e =
    let d = and_right (leb 1 (length f) && leb (length f) k && not (leading_zero f)) (all_digits f) e in
    let l = short k f e in
    let z : 0 + length f ≡ length f = omega arith in
    let b : decimal_from 0 f < 10 ^ length f = rw z at (below 0 0 f (omega arith) d) in
    omega (arith, b, pow-le-pow_right {n = 10} (lit< tt) l)

pub number_short : (k largest : ℕ) (f : List ℕ) → is_number k largest f ≡ true → length f ≤ k
unfolding is_number
number_short k largest f e = short k f (and_left (well_formed k f) (leb (decimal f) largest) e)

-- where the largest value is that of so many nines, a number is what is well formed
pub no_limit : (k largest : ℕ) → 10 ^ k ≤ suc largest → (f : List ℕ) → is_number k largest f ≡ well_formed k f
unfolding is_number
no_limit k largest h f =
    by_test (well_formed k f) (λ e. rw e (le-leb (decimal f) largest (omega (arith, few_digits k f e)))) (λ e. rw e)

-- a byte that is no digit is in no number
pub no_other : (k largest b : ℕ) → is_digit b ≡ false → (f : List ℕ) → has b f ≡ true → is_number k largest f ≡ false
unfolding is_number well_formed
no_other k largest b n f h =
    let e : all_digits f ≡ false = other_in f h in
    rw (e, and-false (leb 1 (length f) && leb (length f) k && not (leading_zero f)))
  where
    other_in : (f : List ℕ) → has b f ≡ true → all_digits f ≡ false
    other_in f h = by_test (all_digits f) (λ d. absurd (false≢true (sym (digits_only b n f d) ∙ h))) (λ d. d)

-- a field read up to a space that is not in it
module _ (k largest : ℕ) (f : List ℕ) where
  spaced : has space f ≡ true → None ≡ number_of k largest f
  unfolding number_of is_digit
  spaced h = rw (no_other k largest space refl f h)

  pub broken_field : number_up_to k largest space f ≡ None → None ≡ number_of k largest f
  unfolding number_of
  broken_field e = by_test (has space f) spaced (λ h. rw (rw (gone space f h) at (not_up_to k largest space f e)))

  pub longer_field : (l : LeadingNumber) → number_up_to k largest space f ≡ Some l → l.length < length f → None ≡ number_of k largest f
  longer_field n e h = let l = (up_to k largest space f n e).1 in spaced (has_of space f (omega (arith, l)))

  pub whole_field : (l : LeadingNumber) → number_up_to k largest space f ≡ Some l → length f ≤ l.length → Some l.number ≡ number_of k largest f
  unfolding number_of
  whole_field n e h =
      let (w, l) = up_to k largest space f n e in
      let g = gone space f (hasnt_of space f (omega (arith, l))) in
      rw (rw g at w.is, rw g at w.value)
