-- A session of 32 tasks on 16 cores, computed; the theorem stands in proofs/ManyTasksHold.antt.
use Rattle.std.specs.Prelude.{ℕ, Bool, ◌&&◌, List, [], ◌∷◌}
use Rattle.laws.specs.Examples.{same_numbers}
use Rattle.conformance.specs.Runs.{Line, line, answers, session_calls, slot_lines, same_lines, runner_counts}
use Rattle.conformance.specs.CallExamples.{many}

-- 32 tasks released on 16 cores, six slots report these lines and these numbers of runners
unfoldable pub many_is : List Line → (counts : List ℕ) → Bool
many_is lines counts = let log = answers many 16 (session_calls many 16 6) in same_lines (slot_lines log) lines && same_numbers (runner_counts log) counts

-- tasks 21 to 32 run first, beside them in turn 1 to 4, 5 to 8 and 9 to 12; then 13 to 20, which owe most, with 1 to 8; then 9 to 20, which owe 1 each; so
-- 16 run while 16 or more are open, then 12, then none
unfoldable pub many_tasks : Bool
many_tasks =
    many_is
    (line 4_293_918_735 0 0 ∷
    line 4_293_918_960 0 0 ∷
    line 4_293_922_560 4_293_918_720 0 ∷
    line 1_044_735 255 0 ∷
    line 1_048_320 1_048_320 0 ∷
    line 0 0 0 ∷
    [])
    (16 ∷ 16 ∷ 16 ∷ 16 ∷ 12 ∷ 0 ∷ [])
