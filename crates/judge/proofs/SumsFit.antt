-- Why 32 bits hold the numbers of both tests: how large they can be on a table that is judged. With any slacks, `part_fits` is what a task counts for before it
-- is cut to the spare, `sum_fits` a sum, and `whole_sum_fits` a sum where the code counts the task itself too; `reach_fits` is m times a spare, and `slack_fits`
-- a new slack. All are below 2^32, which is 4,294,967,296; that no step of the code leaves 32 bits is in the proofs of its functions.
use Prim.Native.Nat.{ℕ, ◌+◌, ◌-◌, ◌*◌, ◌≤◌, ◌<◌, min}
use native.Mathlib.Nat.{le_trans, mul-le-mul}
use native.Mathlib.Omega.{arith}
use mathlib.Core.Path.{◌≡◌}
use lib.ListN.{get_or}
use Rattle.tasks.specs.declared.table.Table.{Table}
use Rattle.std.proofs.Common.{Ok}
use Rattle.tasks.specs.Limits.{max_tasks, max_cores, max_period}
use Rattle.tasks.specs.Table.{zero_task}
use Rattle.tasks.specs.Check.{checked}
use Rattle.tasks.specs.TaskSet.{first_tasks, tasks_of}
use Rattle.tasks.proofs.Checked.{passes}
use Rattle.tasks.proofs.Range.{Range, range_of}
use Rattle.laws.specs.Sums.{sum_to}
use Rattle.edzl.specs.Window.{interference, spare, window_sum}
use Rattle.edzl.specs.Slack.{new_slack}
use Rattle.edzl.proofs.InterferenceLaws.{at_most}
use Rattle.laws.proofs.SumLaws.{sum_bound, others_bound}
use Rattle.edzl.proofs.SlackLaws.{new_fits}

module _ (t : Table) (m : ℕ) (judges : checked t m ≡ Ok tt) where
  -- The numbers of a task.
  range : (i : ℕ) → i < t.count → Range (get_or t.tasks i zero_task)
  range i h = range_of (get_or t.tasks i zero_task) ((passes t m judges).tasks_fit i h)

  module _ (k : ℕ) (h : k < t.count) where
    spare_fits : spare (tasks_of t) k ≤ max_period
    unfolding spare tasks_of first_tasks
    spare_fits = let r = range k h in omega (arith, r.deadline_fits, r.period_fits)

    pub part_fits : (slack : ℕ → ℕ) (i : ℕ) → i < t.count →
        let tasks = tasks_of t in interference (tasks.period i) (tasks.budget i) (tasks.deadline k - slack i) ≤ max_period
    unfolding tasks_of first_tasks
    part_fits slack i l =
        let r = range k h in
        let s = range i l in
        let some : 1 ≤ (get_or t.tasks i zero_task).period = omega (arith, s.budget_some, s.budget_fits, s.deadline_fits) in
        let within : (get_or t.tasks i zero_task).budget ≤ (get_or t.tasks i zero_task).period = omega (arith, s.budget_fits, s.deadline_fits) in
        le_trans (at_most _ _ some within ((get_or t.tasks k zero_task).deadline - slack i)) (omega (arith, r.deadline_fits, r.period_fits))

    pub sum_fits : (slack : ℕ → ℕ) → window_sum (tasks_of t) slack k ≤ (max_tasks - 1) * max_period
    unfolding window_sum tasks_of first_tasks
    sum_fits slack =
        let bound : window_sum (tasks_of t) slack k + max_period ≤ t.count * max_period =
        others_bound _ max_period k t.count h (λ i l. omega (arith, spare_fits))
        in
        omega (arith, bound, (passes t m judges).count_fits)

    pub whole_sum_fits : (slack : ℕ → ℕ) →
        let tasks = tasks_of t in
        sum_to t.count (λ i. min (interference (tasks.period i) (tasks.budget i) (tasks.deadline k - slack i)) (spare tasks k)) ≤ max_tasks * max_period
    whole_sum_fits slack =
        le_trans (sum_bound _ max_period t.count (λ i l. omega (arith, spare_fits))) (omega (arith, (passes t m judges).count_fits))

    pub reach_fits : m * spare (tasks_of t) k ≤ max_cores * max_period
    reach_fits = mul-le-mul (passes t m judges).cores_fit spare_fits

    pub slack_fits : (sum : ℕ) → new_slack m (spare (tasks_of t) k) sum ≤ max_period
    slack_fits sum = le_trans (new_fits m (spare (tasks_of t) k) sum) spare_fits
