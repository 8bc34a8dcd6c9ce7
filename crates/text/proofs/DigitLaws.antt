-- The text of a number: the digits that the library's `decimal` gives are those of the definition (`same_text`), how many
-- they are (`text_few`), and that reading the text gives the number again (`read_again`).
use Prim.Native.Nat.{ℕ, zero, suc, ◌+◌, ◌-◌, ◌/◌, ◌%◌, ◌^◌, ◌≤◌, ◌<◌}
use native.Mathlib.Nat.{pow-suc, pow-le-pow_right, div-add-mod', mod-lt, mod-eq_of_lt}
use native.Mathlib.Omega.{arith}
use mathlib.Core.Path.{◌≡◌, refl}
use mathlib.Core.List.{[], ◌∷◌, ◌++◌}
use borrow.Author.Tests.{lt-ltb, ltb-true, ltb-false}
use lib.Dec.{ltb, lit<}
use lib.ListN.{length, length-append}
use Rattle.io.specs.Digits.{last_digits, IsDigitCount}
use Rattle.laws.proofs.CaseSplits.{by_test}
use Rattle.text.specs.Number.{decimal_from, decimal, digits_of, decimal_text}
use Rattle.text.proofs.NumberLaws.{decimal_append}

-- a number below ten has one digit
one_digit : (n r : ℕ) → n < 10 → IsDigitCount 10 1 n r → r ≡ 1
one_digit n zero h f = absurd (omega (arith, f.0))
one_digit n (suc zero) h f = refl
one_digit n (suc (suc r)) h f =
    let e : suc (suc r) - 1 ≡ suc r = omega arith in
    let t : 10 ^ suc r ≤ n = rw e at (f.2 (omega arith)) in
    let z : 0 ≤ r = omega arith in
    let p : 10 ^ 0 ≤ 10 ^ r = pow-le-pow_right {n = 10} (lit< tt) z in
    absurd (omega (arith, pow-suc 10 r))

last_digit : (n : ℕ) → n < 10 → last_digits 10 1 n ≡ (48 + n) ∷ []
last_digit n h = rw (mod-eq_of_lt h, lt-ltb n 10 h)

-- a number of ten or more has one digit more than its tenth part
tenth : (n r : ℕ) → 10 ≤ n → IsDigitCount 10 1 n (suc r) → IsDigitCount 10 1 (n / 10) r
tenth n zero l f = absurd (omega (arith, f.1))
tenth n (suc r) l f =
    let d = div-add-mod' n 10 in
    let m = mod-lt n {m = 10} (lit< tt) in
    let e : suc (suc r) - 1 ≡ suc r = omega arith in
    let t : 10 ^ suc r ≤ n = rw e at (f.2 (omega arith)) in
    let e₁ : suc r - 1 ≡ r = omega arith in
    (omega arith, omega (arith, f.1, pow-suc 10 (suc r)), λ h. rw e₁ (omega (arith, pow-suc 10 r)))

more_digits :
    (k n r : ℕ) → 10 ≤ n → IsDigitCount 10 1 n r → ((r : ℕ) → IsDigitCount 10 1 (n / 10) r → last_digits 10 r (n / 10) ≡ digits_of k (n / 10))
    → last_digits 10 r n ≡ digits_of k (n / 10) ++ (48 + n % 10) ∷ []
more_digits k n zero l f ih = absurd (omega (arith, f.0))
more_digits k n (suc r) l f ih = rw (lt-ltb (n % 10) 10 (mod-lt n (lit< tt)), ih r (tenth n r l f))

same_digits : (k n r : ℕ) → n < 10 ^ suc k → IsDigitCount 10 1 n r → last_digits 10 r n ≡ digits_of k n
unfolding digits_of
same_digits zero n r h f = rw (one_digit n r h f, lt-ltb (n % 10) 10 (mod-lt n (lit< tt)))
same_digits (suc k) n r h f =
    by_test (ltb n 10)
    (λ e. let l = ltb-true n 10 e in rw (e, one_digit n r l f) (last_digit n l))
    (λ e. rw e (more_digits k n r (ltb-false n 10 e) f (λ r. same_digits k (n / 10) r (omega (arith, pow-suc 10 (suc k), div-add-mod' n 10)))))

-- a number below 10 to the power j + 1 has at most j + 1 digits
digits_few : (j k n : ℕ) → n < 10 ^ suc j → length (digits_of k n) ≤ suc j
unfolding digits_of
digits_few j zero n h = omega arith
digits_few zero (suc k) n h = rw (lt-ltb n 10 h) (omega arith)
digits_few (suc j) (suc k) n h =
    let l = digits_few j k (n / 10) (omega (arith, pow-suc 10 (suc j), div-add-mod' n 10)) in
    by_test (ltb n 10) (λ e. rw e (omega arith)) (λ e. rw e (simp length-append (omega arith)))

pub same_text : (n r : ℕ) → n < 2 ^ 64 → IsDigitCount 10 1 n r → last_digits 10 r n ≡ decimal_text n
unfolding decimal_text
same_text n r h f = same_digits 19 n r (omega arith) f

-- the same of a number's text
pub text_few : (j n : ℕ) → n < 10 ^ suc j → length (decimal_text n) ≤ suc j
unfolding decimal_text
text_few j n h = digits_few j 19 n h

-- reading the text of a number gives the number again
digits_read : (k n : ℕ) → n < 10 ^ suc k → decimal_from 0 (digits_of k n) ≡ n
unfolding digits_of decimal_from
digits_read zero n h = omega (arith, mod-eq_of_lt {n = n} {m = 10} (omega arith))
digits_read (suc k) n h =
    by_test (ltb n 10)
    (λ e. rw e (omega arith))
    (λ e.
    rw (e, decimal_append 0 (digits_of k (n / 10)) (48 + n % 10), digits_read k (n / 10) (omega (arith, pow-suc 10 (suc k), div-add-mod' n 10)))
    (omega (arith, div-add-mod' n 10)))

pub read_again : (n : ℕ) → n < 2 ^ 64 → decimal (decimal_text n) ≡ n
unfolding decimal_text decimal
read_again n h = digits_read 19 n (omega arith)
