-- The text of a number is a number again: `text_number`. With `read_again` (DigitLaws.antt) it is read as what was written.
use Prim.Native.Nat.{ℕ, zero, suc, ◌+◌, ◌*◌, ◌/◌, ◌%◌, ◌^◌, ◌≤◌, ◌<◌}
use native.Mathlib.Nat.{pow-suc, div-add-mod', mod-lt, mod-eq_of_lt}
use native.Mathlib.Omega.{arith}
use mathlib.Core.Path.{◌≡◌, sym, ◌∙◌}
use mathlib.Core.Bool.{true, false}
use mathlib.Core.List.{List, [], ◌∷◌, ◌++◌}
use borrow.Author.Tests.{le-leb, le-ltb, ltb-true, ltb-false, eqb-true}
use lib.Dec.{eqb, ltb, lit<}
use lib.ListN.{length, get_or, length-append, get_or-append}
use Rattle.laws.proofs.CaseSplits.{by_test}
use Rattle.laws.proofs.Booleans.{and_left, and_right}
use Rattle.text.specs.Number.{is_digit, all_digits, leading_zero, well_formed, is_number, digits_of, decimal_text}
use Rattle.text.proofs.DigitLaws.{text_few, read_again}

-- what holds of the digits of n: there are some, and the first is 0 only where n is 0, which has no other
record Written (f : List ℕ) (n : ℕ) : Type 0 where
  some : 1 ≤ length f
  all : all_digits f ≡ true
  no_zero : get_or f 0 0 ≡ 48 → n ≡ 0
  zero_alone : n ≡ 0 → length f ≤ 1

is_digit_lem : (d : ℕ) → d < 10 → is_digit (48 + d) ≡ true
unfolding is_digit
is_digit_lem d h = rw (le-leb 48 (48 + d) (omega arith), le-leb (48 + d) 57 (omega arith))

one_more : (f : List ℕ) (d : ℕ) → all_digits f ≡ true → d < 10 → all_digits (f ++ (48 + d) ∷ []) ≡ true
unfolding all_digits
one_more [] d all h = rw (is_digit_lem d h)
one_more (b ∷ f) d all h = rw (and_left (is_digit b) (all_digits f) all, one_more f d (and_right (is_digit b) (all_digits f) all) h)

one_digit : (n : ℕ) → n < 10 → Written ((48 + n) ∷ []) n
unfolding all_digits
one_digit n h = record { some = omega arith; all = rw (is_digit_lem n h); no_zero = λ e. omega arith; zero_alone = λ e. omega arith }

-- a digit after those of the tenth part, which is not 0
digit_after : (f : List ℕ) (n d : ℕ) → Written f n → 1 ≤ n → d < 10 → Written (f ++ (48 + d) ∷ []) (n * 10 + d)
digit_after f n d w some h =
    record {
      some = simp length-append (omega arith);
      all = one_more f d w.all h;
      no_zero = λ e.
          let none = w.no_zero (sym (get_or-append f ((48 + d) ∷ []) 0 0 w.some) ∙ e) in
          absurd (omega arith);
      zero_alone = λ e. absurd (omega arith);
    }

digits_written : (k n : ℕ) → n < 10 ^ suc k → Written (digits_of k n) n
unfolding digits_of
digits_written zero n h = let e : n % 10 ≡ n = mod-eq_of_lt (omega arith) in rw e (one_digit n (omega arith))
digits_written (suc k) n h =
    by_test (ltb n 10)
    (λ e. rw e (one_digit n (ltb-true n 10 e)))
    (λ e.
    let d = div-add-mod' n 10 in
    let l = ltb-false n 10 e in
    let m = mod-lt n {m = 10} (lit< tt) in
    let w = digits_written k (n / 10) (omega (arith, pow-suc 10 (suc k))) in
    rw e (rw d at (digit_after (digits_of k (n / 10)) (n / 10) (n % 10) w (omega arith) m)))

written : (n : ℕ) → n < 2 ^ 64 → Written (decimal_text n) n
unfolding decimal_text
written n small = digits_written 19 n (omega arith)

no_lead : (f : List ℕ) (n : ℕ) → Written f n → leading_zero f ≡ false
unfolding leading_zero
no_lead f n w =
    by_test (eqb (get_or f 0 0) 48)
    (λ e. rw (e, le-ltb 1 (length f) (w.zero_alone (w.no_zero (eqb-true (get_or f 0 0) 48 e)))))
    (λ e. rw e)

pub text_number : (j largest n : ℕ) → n < 10 ^ suc j → n < 2 ^ 64 → n ≤ largest → is_number (suc j) largest (decimal_text n) ≡ true
unfolding is_number well_formed
text_number j largest n few small fits =
    let f = decimal_text n in
    let w = written n small in
    rw (
      le-leb 1 (length f) w.some,
      le-leb (length f) (suc j) (text_few j n few),
      no_lead f n w,
      w.all,
      read_again n small,
      le-leb n largest fits,
    )
