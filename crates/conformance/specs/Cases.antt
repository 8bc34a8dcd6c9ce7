-- "Cases at the edges" of document 01, as entries of a single checked list, j and k "worked out afresh" for document 02, change 2. `all_hold` is the
-- test; the theorem stands in proofs/CasesHold.antt.
use Rattle.std.specs.Prelude.{ℕ, Bool, true, false, ◌&&◌, List, [], ◌∷◌, eqb, length}
use Rattle.std.specs.Bool.{beq}
use Rattle.edzl.specs.Window.{interference}
use Rattle.tasks.specs.declared.task.Task.{Task}
use Rattle.tasks.specs.Outcome.{is_done}
use Rattle.tasks.specs.Written.{task, table_of}
use Rattle.judge.specs.Judge.{judged}
use Rattle.conformance.specs.Runs.{Line, line, answers, session_calls, slot_lines, same_lines}

-- an interference, a verdict, and a session in which all tasks are released and then slots follow
pub data Case : Type 0 where
  interference_is : (period budget window value : ℕ) → Case
  verdict_is : List Task → (cores count : ℕ) → (admits : Bool) → Case
  session_is : List Task → (cores : ℕ) → List Line → Case

-- whether a case holds
unfoldable pub holds : Case → Bool
holds (interference_is period budget window value) = eqb (interference period budget window) value
holds (verdict_is tasks cores count admits) =
    let verdict = judged (table_of tasks) cores in
    is_done verdict.outcome && eqb verdict.count count && beq verdict.admits admits
holds (session_is tasks cores lines) = same_lines (slot_lines (answers tasks cores (session_calls tasks cores (length lines)))) lines

-- "The table above"
unfoldable pub example : List Task
example = task 4 1 4 ∷ task 6 2 5 ∷ task 10 6 8 ∷ []

-- the cases a to k, in their order; in k task 2 owes more in slots 2 and 4, in the others both owe the same, and at the end both are late
unfoldable pub cases : List Case
cases =
    interference_is 4 1 8 2 ∷
    interference_is 6 2 8 4 ∷
    interference_is 10 6 5 5 ∷
    interference_is 10 6 0 0 ∷
    verdict_is example 1 3 false ∷
    verdict_is example 2 1 true ∷
    verdict_is (task 10 9 10 ∷ task 10 6 10 ∷ task 5 2 5 ∷ []) 2 3 false ∷
    verdict_is (task 5 5 5 ∷ []) 1 1 true ∷
    verdict_is (task 5 5 5 ∷ task 5 5 5 ∷ []) 1 2 false ∷
    session_is (task 6 2 3 ∷ task 6 2 3 ∷ task 6 5 6 ∷ []) 2
    (line 3 0 0 ∷ line 5 1 0 ∷ line 6 2 0 ∷ line 4 0 0 ∷ line 4 0 0 ∷ line 4 4 0 ∷ []) ∷
    session_is (task 5 5 5 ∷ task 5 5 5 ∷ []) 1
    (line 1 0 0 ∷ line 2 0 0 ∷ line 1 0 0 ∷ line 2 0 0 ∷ line 1 0 3 ∷ []) ∷
    []

-- every case of a list holds: "Proved together as entries of a single checked list"
unfoldable pub all_hold : List Case → Bool
all_hold [] = true
all_hold (c ∷ cs) = holds c && all_hold cs
