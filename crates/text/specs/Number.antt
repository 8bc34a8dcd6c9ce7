-- Numbers in base ten: the number that a text is (document 01, "The table as text"), and the text of a number.
use Rattle.std.specs.Prelude.{ℕ, zero, suc, ◌+◌, ◌-◌, ◌*◌, ◌/◌, ◌%◌, List, [], ◌∷◌, ◌++◌, Bool, true, cond, not, ◌&&◌, eqb, leb, ltb, length, get_or, drop, Option, Some, None}
use Rattle.text.specs.Words.{begins_with}
use Rattle.text.specs.Lines.{before}
use Rattle.text.specs.declared.number.LeadingNumber.{LeadingNumber}

-- whether a byte is one of the ten digits, 48 for 0 to 57 for 9
unfoldable pub is_digit : ℕ → Bool
is_digit b = leb 48 b && leb b 57

-- whether each byte of a field is a digit
unfoldable pub all_digits : List ℕ → Bool
all_digits [] = true
all_digits (b ∷ f) = is_digit b && all_digits f

-- whether a field begins with the digit 0 and has more behind it: "0 alone is well formed"
unfoldable pub leading_zero : List ℕ → Bool
leading_zero f = eqb (get_or f 0 0) 48 && ltb 1 (length f)

-- "1 to" so many "digits without a leading zero"
unfoldable pub well_formed : (digits : ℕ) → List ℕ → Bool
well_formed digits f = leb 1 (length f) && leb (length f) digits && not (leading_zero f) && all_digits f

-- the number of the digits f where those before them make n
unfoldable pub decimal_from : ℕ → List ℕ → ℕ
decimal_from n [] = n
decimal_from n (b ∷ f) = decimal_from (n * 10 + (b - 48)) f

-- the number of a field of digits: "All numbers here are in base ten."
unfoldable pub decimal : List ℕ → ℕ
decimal f = decimal_from 0 f

-- whether a field is a number of at most so many digits that is at most `largest`
unfoldable pub is_number : (digits largest : ℕ) → List ℕ → Bool
is_number digits largest f = well_formed digits f && leb (decimal f) largest

-- the number that a field is, if it is one
unfoldable pub number_of : (digits largest : ℕ) → List ℕ → Option ℕ
number_of digits largest f = cond (is_number digits largest f) (Some (decimal f)) None

-- the number that stands before the first byte b of a text, or is all of it where there is no b, and how many bytes it has, if that is a number
unfoldable pub number_up_to : (digits largest b : ℕ) → List ℕ → Option LeadingNumber
number_up_to digits largest b s =
    let field = before b s in
    cond (is_number digits largest field) (Some (record { number = decimal field; length = length field })) None

-- the number of a line that is a word, given first, and a number, as `CORES m` of a script, where the word has its space; None of any other line
unfoldable pub number_after : (digits largest : ℕ) → List ℕ → List ℕ → Option ℕ
number_after digits largest w l = cond (begins_with w l) (number_of digits largest (drop (length w) l)) None

-- n in base ten, where k + 1 digits are enough: its last digit, and before it those of the tenth part, if that is not 0
unfoldable pub digits_of : (k : ℕ) → ℕ → List ℕ
digits_of zero n = (48 + n % 10) ∷ []
digits_of (suc k) n = cond (ltb n 10) ((48 + n) ∷ []) (digits_of k (n / 10) ++ (48 + n % 10) ∷ [])

-- a number of 64 bits in base ten: it has at most 20 digits
unfoldable pub decimal_text : ℕ → List ℕ
decimal_text n = digits_of 19 n
