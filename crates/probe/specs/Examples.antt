-- Texts and what is printed for them, computed: the theorems stand in proofs/ExamplesHold.antt.
use Rattle.std.specs.Prelude.{ℕ, zero, suc, List, [], ◌∷◌, ◌++◌}

-- a good first line and entry, and a second entry that is none, as its OPEN is 2:
--     MACHINE 2 1
--     4 2 4 1 4 2 4 1
--     6 1 6 2 0 0 0 0
unfoldable pub example_text : List ℕ
example_text =
    77 ∷ 65 ∷ 67 ∷ 72 ∷ 73 ∷ 78 ∷ 69 ∷ 32 ∷ 50 ∷ 32 ∷ 49 ∷ 10
    ∷ 52 ∷ 32 ∷ 50 ∷ 32 ∷ 52 ∷ 32 ∷ 49 ∷ 32 ∷ 52 ∷ 32 ∷ 50 ∷ 32 ∷ 52 ∷ 32 ∷ 49 ∷ 10
    ∷ 54 ∷ 32 ∷ 49 ∷ 32 ∷ 54 ∷ 32 ∷ 50 ∷ 32 ∷ 48 ∷ 32 ∷ 48 ∷ 32 ∷ 48 ∷ 32 ∷ 48 ∷ 10 ∷ []

-- what is printed for it:
--     BAD LINE 3
unfoldable pub example_output : List ℕ
example_output = 66 ∷ 65 ∷ 68 ∷ 32 ∷ 76 ∷ 73 ∷ 78 ∷ 69 ∷ 32 ∷ 51 ∷ 10 ∷ []

-- so many lines of eight zeros
unfoldable pub zero_lines : (n : ℕ) → List ℕ
zero_lines zero = []
zero_lines (suc n) = 48 ∷ 32 ∷ 48 ∷ 32 ∷ 48 ∷ 32 ∷ 48 ∷ 32 ∷ 48 ∷ 32 ∷ 48 ∷ 32 ∷ 48 ∷ 32 ∷ 48 ∷ 10 ∷ zero_lines n

-- the machine of one task 6, 3, 5 that is closed, on 1 core, up to what it holds:
--     MACHINE 1 1
--     6 3 5 0 0 0 0 0
-- and 31 lines of zeros
unfoldable pub closed_task : List ℕ
closed_task =
    77 ∷ 65 ∷ 67 ∷ 72 ∷ 73 ∷ 78 ∷ 69 ∷ 32 ∷ 49 ∷ 32 ∷ 49 ∷ 10
    ∷ 54 ∷ 32 ∷ 51 ∷ 32 ∷ 53 ∷ 32 ∷ 48 ∷ 32 ∷ 48 ∷ 32 ∷ 48 ∷ 32 ∷ 48 ∷ 32 ∷ 48 ∷ 10 ∷ zero_lines 31

-- that it holds none:
--     NONE
unfoldable pub none_held : List ℕ
none_held = 78 ∷ 79 ∷ 78 ∷ 69 ∷ 10 ∷ []

-- that it holds a task:
--     HELD 9 1 9
unfoldable pub one_held : List ℕ
one_held = 72 ∷ 69 ∷ 76 ∷ 68 ∷ 32 ∷ 57 ∷ 32 ∷ 49 ∷ 32 ∷ 57 ∷ 10 ∷ []

-- a release of its task with a need below its budget:
--     RELEASE 1 2
unfoldable pub release_text : List ℕ
release_text = closed_task ++ none_held ++ 82 ∷ 69 ∷ 76 ∷ 69 ∷ 65 ∷ 83 ∷ 69 ∷ 32 ∷ 49 ∷ 32 ∷ 50 ∷ 10 ∷ []

-- what is printed for it: the job's budget is its need; 31 lines of zeros and what is held follow
--     DONE
--     MACHINE 1 1
--     6 3 5 1 5 2 6 0
unfoldable pub release_output : List ℕ
release_output =
    68 ∷ 79 ∷ 78 ∷ 69 ∷ 10
    ∷ 77 ∷ 65 ∷ 67 ∷ 72 ∷ 73 ∷ 78 ∷ 69 ∷ 32 ∷ 49 ∷ 32 ∷ 49 ∷ 10
    ∷ 54 ∷ 32 ∷ 51 ∷ 32 ∷ 53 ∷ 32 ∷ 49 ∷ 32 ∷ 53 ∷ 32 ∷ 50 ∷ 32 ∷ 54 ∷ 32 ∷ 48 ∷ 10 ∷ zero_lines 31 ++ none_held

-- a release with a need above the budget:
--     RELEASE 1 4
unfoldable pub refused_text : List ℕ
refused_text = closed_task ++ one_held ++ 82 ∷ 69 ∷ 76 ∷ 69 ∷ 65 ∷ 83 ∷ 69 ∷ 32 ∷ 49 ∷ 32 ∷ 52 ∷ 10 ∷ []

-- what is printed for it, and then the machine as it was:
--     REFUSED 15
unfoldable pub refused_output : List ℕ
refused_output = 82 ∷ 69 ∷ 70 ∷ 85 ∷ 83 ∷ 69 ∷ 68 ∷ 32 ∷ 49 ∷ 53 ∷ 10 ∷ closed_task ++ one_held

-- an offer of another task:
--     OFFER 9 1 9
unfoldable pub offer_text : List ℕ
offer_text = closed_task ++ none_held ++ 79 ∷ 70 ∷ 70 ∷ 69 ∷ 82 ∷ 32 ∷ 57 ∷ 32 ∷ 49 ∷ 32 ∷ 57 ∷ 10 ∷ []

-- what is printed for it, and then the machine, which holds it:
--     DONE
unfoldable pub offer_output : List ℕ
offer_output = 68 ∷ 79 ∷ 78 ∷ 69 ∷ 10 ∷ closed_task ++ one_held

-- a commit of that task:
--     COMMIT
unfoldable pub commit_text : List ℕ
commit_text = closed_task ++ one_held ++ 67 ∷ 79 ∷ 77 ∷ 77 ∷ 73 ∷ 84 ∷ 10 ∷ []

-- what is printed for it: 30 lines of zeros and that it holds none follow
--     DONE
--     MACHINE 2 1
--     6 3 5 0 0 0 0 0
--     9 1 9 0 0 0 0 0
unfoldable pub commit_output : List ℕ
commit_output =
    68 ∷ 79 ∷ 78 ∷ 69 ∷ 10
    ∷ 77 ∷ 65 ∷ 67 ∷ 72 ∷ 73 ∷ 78 ∷ 69 ∷ 32 ∷ 50 ∷ 32 ∷ 49 ∷ 10
    ∷ 54 ∷ 32 ∷ 51 ∷ 32 ∷ 53 ∷ 32 ∷ 48 ∷ 32 ∷ 48 ∷ 32 ∷ 48 ∷ 32 ∷ 48 ∷ 32 ∷ 48 ∷ 10
    ∷ 57 ∷ 32 ∷ 49 ∷ 32 ∷ 57 ∷ 32 ∷ 48 ∷ 32 ∷ 48 ∷ 32 ∷ 48 ∷ 32 ∷ 48 ∷ 32 ∷ 48 ∷ 10 ∷ zero_lines 30 ++ none_held

-- neither `NONE` nor a held task stands in line 34:
--     HELD 9 1
unfoldable pub short_text : List ℕ
short_text = closed_task ++ 72 ∷ 69 ∷ 76 ∷ 68 ∷ 32 ∷ 57 ∷ 32 ∷ 49 ∷ 10 ∷ 67 ∷ 79 ∷ 77 ∷ 77 ∷ 73 ∷ 84 ∷ 10 ∷ []

-- what is printed for it:
--     BAD LINE 34
unfoldable pub short_output : List ℕ
short_output = 66 ∷ 65 ∷ 68 ∷ 32 ∷ 76 ∷ 73 ∷ 78 ∷ 69 ∷ 32 ∷ 51 ∷ 52 ∷ 10 ∷ []
