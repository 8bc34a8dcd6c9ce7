-- Examples of document 02's change 4, as entries of a list of computed tests: `all_true` of crate laws is the test, and the theorem stands in proofs/ExamplesHold.antt.
use Rattle.std.specs.Prelude.{ℕ, List, [], ◌∷◌, ◌++◌, Bool, not, length, take, replicate}
use Rattle.laws.specs.Examples.{same_numbers}
use Rattle.cores.specs.Assign.{assignment}
use Rattle.cores.specs.Record.{cores_sound}

-- with these recorded cores and k cores, these runners, by their indexes in precedence, give the first tasks these cores
unfoldable pub assignment_is : (recorded : List ℕ) → (k : ℕ) → (runners : List ℕ) → (assigned : List ℕ) → Bool
assignment_is recorded k runners assigned = same_numbers (take (length assigned) (assignment recorded k runners)) assigned

-- assignments, and which records are sound
unfoldable pub examples : List Bool
examples =
    -- none has a core: they take 1, 2 and 3 in precedence, not in the order of their numbers
    assignment_is [] 3 (2 ∷ 0 ∷ 1 ∷ []) (2 ∷ 3 ∷ 1 ∷ []) ∷
    -- a keeper that comes second in precedence: the first takes the other core
    assignment_is (0 ∷ 1 ∷ []) 2 (0 ∷ 1 ∷ []) (2 ∷ 1 ∷ []) ∷
    -- two keepers of three runners: the third takes the core between theirs
    assignment_is (1 ∷ 0 ∷ 3 ∷ []) 3 (1 ∷ 2 ∷ 0 ∷ []) (1 ∷ 2 ∷ 3 ∷ []) ∷
    -- a core above k is not kept, core k is
    assignment_is (1 ∷ 0 ∷ 3 ∷ []) 2 (0 ∷ 2 ∷ []) (1 ∷ 0 ∷ 2 ∷ []) ∷
    assignment_is (5 ∷ []) 5 (0 ∷ []) (5 ∷ []) ∷
    assignment_is (5 ∷ []) 4 (0 ∷ []) (1 ∷ []) ∷
    assignment_is (16 ∷ []) 16 (0 ∷ []) (16 ∷ []) ∷
    -- the core of a task that does not run is free, and its record is cleared
    assignment_is (1 ∷ 2 ∷ 0 ∷ []) 2 (1 ∷ 2 ∷ []) (0 ∷ 2 ∷ 1 ∷ []) ∷
    assignment_is (1 ∷ 2 ∷ 3 ∷ []) 3 [] (0 ∷ 0 ∷ 0 ∷ []) ∷
    -- more cores than runners: the lowest are taken
    assignment_is (0 ∷ 7 ∷ 0 ∷ []) 16 (0 ∷ 2 ∷ 1 ∷ []) (1 ∷ 7 ∷ 2 ∷ 0 ∷ []) ∷
    -- the last of 32 tasks
    assignment_is [] 1 (31 ∷ []) (replicate 31 0 ++ 1 ∷ []) ∷
    -- core 16 may be recorded and 17 not; one core not twice, wherever it stands, and 0 as often as one likes
    cores_sound (16 ∷ []) ∷
    not (cores_sound (17 ∷ [])) ∷
    not (cores_sound (0 ∷ 4_294_967_295 ∷ [])) ∷
    not (cores_sound (3 ∷ 3 ∷ [])) ∷
    not (cores_sound (16 ∷ 0 ∷ 1 ∷ 16 ∷ [])) ∷
    cores_sound (0 ∷ 0 ∷ []) ∷
    cores_sound (0 ∷ 2 ∷ 0 ∷ 1 ∷ 0 ∷ []) ∷
    cores_sound [] ∷
    []
