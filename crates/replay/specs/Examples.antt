-- A script and what is printed for it, computed: the theorem stands in proofs/ExamplesHold.antt.
use Rattle.std.specs.Prelude.{ℕ, List, [], ◌∷◌}

-- a release refused for its need, one with a need below its budget, slots on the machine's one core and on 16, an offer, its commit and another, two more
-- refused calls, a line that is no call (the fourteenth, RELEASE without a need), and a call after that, which is not played:
--     CORES 1
--     PERIOD BUDGET DEADLINE
--     4 3 4
--     CALLS
--     RELEASE 1 4
--     RELEASE 1 2
--     SLOT 1
--     FINISH 2
--     OFFER 9 1 9
--     SLOT 16
--     COMMIT
--     COMMIT
--     SLOT 0
--     RELEASE 1
--     SLOT 1
unfoldable pub example_script : List ℕ
example_script =
    67 ∷ 79 ∷ 82 ∷ 69 ∷ 83 ∷ 32 ∷ 49 ∷ 10
    ∷ 80 ∷ 69 ∷ 82 ∷ 73 ∷ 79 ∷ 68 ∷ 32 ∷ 66 ∷ 85 ∷ 68 ∷ 71 ∷ 69 ∷ 84 ∷ 32 ∷ 68 ∷ 69 ∷ 65 ∷ 68 ∷ 76 ∷ 73 ∷ 78 ∷ 69 ∷ 10
    ∷ 52 ∷ 32 ∷ 51 ∷ 32 ∷ 52 ∷ 10
    ∷ 67 ∷ 65 ∷ 76 ∷ 76 ∷ 83 ∷ 10
    ∷ 82 ∷ 69 ∷ 76 ∷ 69 ∷ 65 ∷ 83 ∷ 69 ∷ 32 ∷ 49 ∷ 32 ∷ 52 ∷ 10
    ∷ 82 ∷ 69 ∷ 76 ∷ 69 ∷ 65 ∷ 83 ∷ 69 ∷ 32 ∷ 49 ∷ 32 ∷ 50 ∷ 10
    ∷ 83 ∷ 76 ∷ 79 ∷ 84 ∷ 32 ∷ 49 ∷ 10
    ∷ 70 ∷ 73 ∷ 78 ∷ 73 ∷ 83 ∷ 72 ∷ 32 ∷ 50 ∷ 10
    ∷ 79 ∷ 70 ∷ 70 ∷ 69 ∷ 82 ∷ 32 ∷ 57 ∷ 32 ∷ 49 ∷ 32 ∷ 57 ∷ 10
    ∷ 83 ∷ 76 ∷ 79 ∷ 84 ∷ 32 ∷ 49 ∷ 54 ∷ 10
    ∷ 67 ∷ 79 ∷ 77 ∷ 77 ∷ 73 ∷ 84 ∷ 10
    ∷ 67 ∷ 79 ∷ 77 ∷ 77 ∷ 73 ∷ 84 ∷ 10
    ∷ 83 ∷ 76 ∷ 79 ∷ 84 ∷ 32 ∷ 48 ∷ 10
    ∷ 82 ∷ 69 ∷ 76 ∷ 69 ∷ 65 ∷ 83 ∷ 69 ∷ 32 ∷ 49 ∷ 10
    ∷ 83 ∷ 76 ∷ 79 ∷ 84 ∷ 32 ∷ 49 ∷ 10 ∷ []

-- what is printed for it:
--     REFUSED 15
--     DONE
--     1 0 0 1 1
--     REFUSED 8
--     DONE
--     1 1 0 1 1
--     DONE
--     REFUSED 17
--     REFUSED 14
--     BAD LINE 14
unfoldable pub example_output : List ℕ
example_output =
    82 ∷ 69 ∷ 70 ∷ 85 ∷ 83 ∷ 69 ∷ 68 ∷ 32 ∷ 49 ∷ 53 ∷ 10
    ∷ 68 ∷ 79 ∷ 78 ∷ 69 ∷ 10
    ∷ 49 ∷ 32 ∷ 48 ∷ 32 ∷ 48 ∷ 32 ∷ 49 ∷ 32 ∷ 49 ∷ 10
    ∷ 82 ∷ 69 ∷ 70 ∷ 85 ∷ 83 ∷ 69 ∷ 68 ∷ 32 ∷ 56 ∷ 10
    ∷ 68 ∷ 79 ∷ 78 ∷ 69 ∷ 10
    ∷ 49 ∷ 32 ∷ 49 ∷ 32 ∷ 48 ∷ 32 ∷ 49 ∷ 32 ∷ 49 ∷ 10
    ∷ 68 ∷ 79 ∷ 78 ∷ 69 ∷ 10
    ∷ 82 ∷ 69 ∷ 70 ∷ 85 ∷ 83 ∷ 69 ∷ 68 ∷ 32 ∷ 49 ∷ 55 ∷ 10
    ∷ 82 ∷ 69 ∷ 70 ∷ 85 ∷ 83 ∷ 69 ∷ 68 ∷ 32 ∷ 49 ∷ 52 ∷ 10
    ∷ 66 ∷ 65 ∷ 68 ∷ 32 ∷ 76 ∷ 73 ∷ 78 ∷ 69 ∷ 32 ∷ 49 ∷ 52 ∷ 10 ∷ []
