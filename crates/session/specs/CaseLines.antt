-- The eleven lines of the session program, as bytes: document 01, "The table as text", worked out afresh for document 02, change 2.
-- proofs/CaseLinesHold.antt has the theorem.
use Rattle.std.specs.Prelude.{ℕ, List, [], ◌∷◌}

-- "Case j prints `1 3 0 0`, `2 5 1 0`, `3 6 2 0`, `4 4 0 0`, `5 4 0 0`, `6 4 4 0`." Case k prints `1 1 0 0`, `2 2 0 0`, `3 1 0 0`, `4 2 0 0`,
-- `5 1 0 3`: its two urgent tasks tie in every slot; task 2 owes more in slots 2 and 4, in the others both owe the same, and at the end both are late.
unfoldable pub case_lines : List ℕ
case_lines =
    49 ∷ 32 ∷ 51 ∷ 32 ∷ 48 ∷ 32 ∷ 48 ∷ 10
    ∷ 50 ∷ 32 ∷ 53 ∷ 32 ∷ 49 ∷ 32 ∷ 48 ∷ 10
    ∷ 51 ∷ 32 ∷ 54 ∷ 32 ∷ 50 ∷ 32 ∷ 48 ∷ 10
    ∷ 52 ∷ 32 ∷ 52 ∷ 32 ∷ 48 ∷ 32 ∷ 48 ∷ 10
    ∷ 53 ∷ 32 ∷ 52 ∷ 32 ∷ 48 ∷ 32 ∷ 48 ∷ 10
    ∷ 54 ∷ 32 ∷ 52 ∷ 32 ∷ 52 ∷ 32 ∷ 48 ∷ 10
    ∷ 49 ∷ 32 ∷ 49 ∷ 32 ∷ 48 ∷ 32 ∷ 48 ∷ 10
    ∷ 50 ∷ 32 ∷ 50 ∷ 32 ∷ 48 ∷ 32 ∷ 48 ∷ 10
    ∷ 51 ∷ 32 ∷ 49 ∷ 32 ∷ 48 ∷ 32 ∷ 48 ∷ 10
    ∷ 52 ∷ 32 ∷ 50 ∷ 32 ∷ 48 ∷ 32 ∷ 48 ∷ 10
    ∷ 53 ∷ 32 ∷ 49 ∷ 32 ∷ 48 ∷ 32 ∷ 51 ∷ 10 ∷ []
