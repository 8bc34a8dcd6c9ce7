-- The window test, with a slack for each task (document 01, "The window test", where all slacks are zero).
use Rattle.std.specs.Prelude.{ℕ, ◌+◌, ◌*◌, ◌-◌, ◌/◌, min, Bool, leb}
use Rattle.edzl.specs.TaskSet.{TaskSet}
use Rattle.laws.specs.Sums.{sum_to, others, bit}

-- "The interference of task i in a window of L slots is I_i(L) = q·C_i + min(C_i, L − q·T_i), where q is L divided by T_i,
-- rounded down"
unfoldable pub interference : (period budget window : ℕ) → ℕ
interference period budget window =
    let q = window / period in
    q * budget + min budget (window - q * period)

-- "The spare of task k is A_k = D_k − C_k."
unfoldable pub spare : TaskSet → ℕ → ℕ
spare tasks k = tasks.deadline k - tasks.budget k

-- The slack of each task in document 01's test: "with all slacks zero".
unfoldable pub no_slack : ℕ → ℕ
no_slack i = 0

-- "The sum of task k is the total, over every i other than k, of min(I_i(D_k), A_k)."; document 02, change 6: "each sum uses
-- I_i of max(0, D_k − S_i)" (`-` is 0 where S_i is the larger). Document 01's test has no slack (`no_slack`).
unfoldable pub window_sum : TaskSet → (slack : ℕ → ℕ) → ℕ → ℕ
window_sum tasks slack k =
    sum_to tasks.count
    (others k
    (λ i. min (interference (tasks.period i) (tasks.budget i) (tasks.deadline k - slack i)) (spare tasks k)))

-- "Task k may turn urgent on m cores when its sum is at least m·A_k."
unfoldable pub may_turn_urgent : TaskSet → (slack : ℕ → ℕ) → (m : ℕ) → ℕ → Bool
may_turn_urgent tasks slack m k = leb (m * spare tasks k) (window_sum tasks slack k)

-- "COUNT is the number of tasks that may turn urgent."
unfoldable pub count_urgent : TaskSet → (slack : ℕ → ℕ) → (m : ℕ) → ℕ
count_urgent tasks slack m = sum_to tasks.count (λ k. bit (may_turn_urgent tasks slack m k))

-- "The table is admitted on m cores exactly when COUNT ≤ m."
unfoldable pub admitted : TaskSet → (m : ℕ) → Bool
admitted tasks m = leb (count_urgent tasks no_slack m) m
