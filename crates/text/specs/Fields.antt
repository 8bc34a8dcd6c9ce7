-- Lines of fields: document 01, "The table as text"; for any number of them docs/HANDBOOK.md, "Probing one call".
use Rattle.std.specs.Prelude.{ℕ, zero, suc, ◌≡◌, List, [], ◌∷◌, Bool, true, cond, ◌&&◌, eqb, length, Option, Some, None}
use Rattle.text.specs.Lines.{line_end, space, before, after, field_count, field}
use Rattle.text.specs.Number.{is_number, decimal}
use Rattle.text.specs.declared.fields.ThreeNumbers.{ThreeNumbers}

-- whether each of the first n fields of a line is a number, of at most so many digits and at most `largest`
unfoldable pub each_number : (digits largest n : ℕ) → List ℕ → Bool
each_number digits largest zero l = true
each_number digits largest (suc n) l = is_number digits largest (field 0 l) && each_number digits largest n (after space l)

-- whether a line is n such numbers: "Between two fields stands one space"
unfoldable pub are_numbers : (digits largest n : ℕ) → List ℕ → Bool
are_numbers digits largest n l = eqb (field_count l) n && each_number digits largest n l

-- the numbers of a line of three, and how many bytes it has
unfoldable pub three_of : List ℕ → ThreeNumbers
three_of l = record { first = decimal (field 0 l); second = decimal (field 1 l); third = decimal (field 2 l); length = length l }

-- the three numbers that the first line of a text is, if it is three: without its byte 10, or all of the text where there is none
unfoldable pub three_numbers : (digits largest : ℕ) → List ℕ → Option ThreeNumbers
three_numbers digits largest s =
    let l = before line_end s in
    cond (are_numbers digits largest 3 l) (Some (three_of l)) None

-- an array whose first entries become the numbers that a line begins with, up to the first field that is none; the others stay
unfoldable pub numbers_into : (digits largest : ℕ) → (line array : List ℕ) → List ℕ
numbers_into digits largest l [] = []
numbers_into digits largest l (x ∷ a) =
    cond (is_number digits largest (field 0 l)) (decimal (field 0 l) ∷ numbers_into digits largest (after space l) a) (x ∷ a)

-- what filling an array from a line answers, whether the line is as many numbers as the array has entries, and the array after it
pub record FilledFromLine (digits largest : ℕ) (line array after : List ℕ) (r : Bool) : Type 0 where
  pub is : r ≡ are_numbers digits largest (length array) line
  pub filled : after ≡ numbers_into digits largest line array
