-- The slack test (document 02, change 6): rounds of sums and slacks, each from the slacks of the round before.
use Rattle.std.specs.Prelude.{ℕ, zero, suc, ◌*◌, ◌-◌, ◌/◌, Bool, true, false, cond, not, List, [], leb, eqb, get_or, replicate}
use Rattle.laws.specs.Lists.{replaced}
use Rattle.edzl.specs.TaskSet.{TaskSet}
use Rattle.laws.specs.Sums.{sum_to, bit}
use Rattle.edzl.specs.Window.{spare, window_sum}

-- A list with a number for each task, f 0 to f (count − 1).
unfoldable pub per_task : TaskSet → (ℕ → ℕ) → List ℕ
per_task tasks f = replaced tasks.count f (replicate tasks.count 0)

-- The number of task i in such a list.
unfoldable pub of_task : List ℕ → ℕ → ℕ
of_task numbers i = get_or numbers i 0

-- "In a round each sum uses I_i of max(0, D_k − S_i), with the slacks of the round before."
unfoldable pub round_sums : TaskSet → (slacks : List ℕ) → List ℕ
round_sums tasks slacks = per_task tasks (window_sum tasks (of_task slacks))

-- A sum reaches m·A_k: "the sum is at least m·A_k".
unfoldable pub reaches : (m A sum : ℕ) → Bool
reaches m A sum = leb (m * A) sum

-- "S_k becomes 0 if the sum is at least m·A_k, else A_k − (sum divided by m, rounded down)."
unfoldable pub new_slack : (m A sum : ℕ) → ℕ
new_slack m A sum = cond (reaches m A sum) 0 (A - sum / m)

-- How many rounds were made, the sums computed in the last of them, and the slacks that these gave.
pub record Rounds : Type 0 where
  pub made : ℕ
  pub sums : List ℕ
  pub slacks : List ℕ

-- "Slacks S start at 0.": no round is made, and no sum computed.
unfoldable pub no_round : TaskSet → Rounds
no_round tasks = record { made = 0; sums = []; slacks = per_task tasks (λ k. 0) }

-- One round more.
unfoldable pub next_round : TaskSet → (m : ℕ) → Rounds → Rounds
next_round tasks m rounds =
    let sums = round_sums tasks rounds.slacks in
    record {
      made = suc rounds.made;
      sums = sums;
      slacks = per_task tasks (λ k. new_slack m (spare tasks k) (of_task sums k));
    }

-- "no slack changes": the number of slacks that are not as before is 0.
unfoldable pub none_changes : TaskSet → (before after : List ℕ) → Bool
none_changes tasks before after = eqb (sum_to tasks.count (λ k. bit (not (eqb (of_task before k) (of_task after k))))) 0

-- "Rounds end when no slack changes", or after this many more. That none changed is told by `ended`, so that a test which has ended computes no more.
unfoldable pub rounds_from : TaskSet → (m more : ℕ) → (ended : Bool) → Rounds → Rounds
rounds_from tasks m zero ended rounds = rounds
rounds_from tasks m (suc more) true rounds = rounds
rounds_from tasks m (suc more) false rounds =
    let next = next_round tasks m rounds in
    rounds_from tasks m more (none_changes tasks rounds.slacks next.slacks) next

-- "Rounds end when no slack changes, or after 64."
unfoldable pub all_rounds : TaskSet → (m : ℕ) → Rounds
all_rounds tasks m = rounds_from tasks m 64 false (no_round tasks)

-- The slack of each task after r rounds, or after fewer where no slack changes in the last of them. With r = 64 these are the test's (`all_rounds`).
unfoldable pub slack_of_round : TaskSet → (m r : ℕ) → ℕ → ℕ
slack_of_round tasks m r = of_task (rounds_from tasks m r false (no_round tasks)).slacks

-- "at most m sums of the last round reach m·A_k": how many do.
unfoldable pub count_reaching : TaskSet → (m : ℕ) → (sums : List ℕ) → ℕ
count_reaching tasks m sums = sum_to tasks.count (λ k. bit (reaches m (spare tasks k) (of_task sums k)))

-- "The table is admitted if at most m sums of the last round reach m·A_k"; document 01's test is `admitted`.
unfoldable pub slack_admits : TaskSet → (m : ℕ) → Bool
slack_admits tasks m = leb (count_reaching tasks m (all_rounds tasks m).sums) m
