-- What a task counts for in a sum, and sums that count the task itself too, as the code holds them: for contracts of private functions only.
use Rattle.std.specs.Prelude.{ℕ, ◌+◌, ◌-◌, ◌*◌, ◌<◌, min, ◌≡◌, List, leb, get_or}
use Rattle.laws.specs.Sums.{sum_to, bit}
use Rattle.edzl.specs.TaskSet.{TaskSet}
use Rattle.edzl.specs.Window.{interference, window_sum}
use Rattle.edzl.specs.Slack.{of_task, new_slack, all_rounds}

-- What a task of this period and budget counts for in the sum of a task with this spare: its interference in the window, and at most the spare.
abbrev pub part : (period budget window spare : ℕ) → ℕ
part period budget window spare = min (interference period budget window) spare

-- The spare of task k.
abbrev pub spare_at : TaskSet → (k : ℕ) → ℕ
spare_at tasks k = tasks.deadline k - tasks.budget k

-- What task i counts for in the sum of task k, where this slack shortens the window.
abbrev pub part_with : TaskSet → (i slack k : ℕ) → ℕ
part_with tasks i slack k = part (tasks.period i) (tasks.budget i) (tasks.deadline k - slack) (spare_at tasks k)

-- The same where each task has its slack.
abbrev pub part_of : TaskSet → (slack : ℕ → ℕ) → (k i : ℕ) → ℕ
part_of tasks slack k i = part_with tasks i (slack i) k

-- What a task counts for in its own sum: its budget, and at most its spare.
abbrev pub own_part : (budget deadline : ℕ) → ℕ
own_part budget deadline = min budget (deadline - budget)

-- The same of task k.
abbrev pub own_at : TaskSet → (k : ℕ) → ℕ
own_at tasks k = own_part (tasks.budget k) (tasks.deadline k)

-- What the sum of task k, which counts the task itself, must reach on m cores: m times the spare, and the own part.
abbrev pub needed : TaskSet → (m k : ℕ) → ℕ
needed tasks m k = m * spare_at tasks k + own_at tasks k

-- How many of these sums reach that.
abbrev pub count_by_sums : TaskSet → (m : ℕ) → (sums : List ℕ) → ℕ
count_by_sums tasks m sums = sum_to tasks.count (λ k. bit (leb (needed tasks m k) (get_or sums k 0)))

-- The slack that such a sum gives task k on m cores.
abbrev pub slack_at : TaskSet → (m : ℕ) → (sums : List ℕ) → (k : ℕ) → ℕ
slack_at tasks m sums k = new_slack m (spare_at tasks k) (get_or sums k 0 - own_at tasks k)

-- Each of these sums is that over the others, and the own part.
abbrev pub WithOwn : TaskSet → (others : ℕ → ℕ) → (sums : List ℕ) → Type 0
WithOwn tasks others sums = (k : ℕ) → k < tasks.count → get_or sums k 0 ≡ others k + own_at tasks k

-- The sums with these slacks, each with the own part.
abbrev pub SumsWithOwn : TaskSet → (slack : ℕ → ℕ) → (sums : List ℕ) → Type 0
SumsWithOwn tasks slack sums = WithOwn tasks (window_sum tasks slack) sums

-- The sums of the last round of the slack test on m cores, each with the own part.
abbrev pub LastSumsWithOwn : TaskSet → (m : ℕ) → (sums : List ℕ) → Type 0
LastSumsWithOwn tasks m sums = WithOwn tasks (of_task (all_rounds tasks m).sums) sums
