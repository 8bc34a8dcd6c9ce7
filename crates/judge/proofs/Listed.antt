-- A table's numbers in flat lists. Others cite `well_listed`; of lists with the numbers of a table's tasks `ranges`, that they are in range, and that the
-- tests say the same: `urgent_same`, `rounds_same_as`, `admits_same_as`; `numbers_listed` is of the table of three lists.
use Prim.Native.Nat.{ℕ, ◌≤◌, ◌<◌}
use native.Mathlib.Omega.{arith}
use mathlib.Core.Path.{◌≡◌, refl, sym}
use mathlib.Core.Bool.{true}
use mathlib.Core.List.{List}
use lib.ListN.{get_or}
use Rattle.tasks.specs.declared.task.Task.{Task}
use Rattle.tasks.specs.Task.{in_range}
use Rattle.tasks.specs.Limits.{max_tasks}
use Rattle.tasks.specs.Table.{zero_task}
use Rattle.tasks.specs.Numbers.{tasks_from}
use Rattle.tasks.proofs.Numbers.{entry_at, entry_from}
use Rattle.tasks.proofs.Range.{range_of}
use Rattle.edzl.specs.Window.{no_slack, count_urgent}
use Rattle.edzl.specs.Slack.{all_rounds, slack_admits}
use Rattle.edzl.proofs.WellFormed.{WellFormed}
use Rattle.edzl.proofs.WindowLaws.{SameTask, count_same}
use Rattle.edzl.proofs.SlackSame.{rounds_same, admits_same}
use Rattle.tasks.specs.TaskSet.{first_tasks}
use Rattle.judge.specs.declared.numbers.Numbers.{Numbers}
use Rattle.judge.specs.Listed.{SameNumbers, listed, Ranges}
use Rattle.judge.specs.Numbers.{set_of}

pub well_listed : (numbers : Numbers) → WellFormed (set_of numbers)
unfolding WellFormed
well_listed numbers i h = let own = numbers.in_range i h in record { budget_some = own.0; budget_fits = own.1; deadline_fits = own.2 }

module _ (tasks : List Task) (n : ℕ) (periods budgets deadlines : List ℕ) (lists : SameNumbers tasks n periods budgets deadlines) where
  pub ranges : ((i : ℕ) → i < n → in_range (get_or tasks i zero_task) ≡ true) → Ranges n periods budgets deadlines
  ranges in_range_lem i h =
      let r = range_of (get_or tasks i zero_task) (in_range_lem i h) in
      rw (lists.same_period i h, lists.same_budget i h, lists.same_deadline i h)
      (r.budget_some, r.budget_fits, r.deadline_fits, r.period_fits)

  same_listed : (i : ℕ) → i < n → SameTask (listed periods budgets deadlines n) (first_tasks tasks n) i
  unfolding first_tasks
  same_listed i h =
      record {
        same_period = sym (lists.same_period i h);
        same_budget = sym (lists.same_budget i h);
        same_deadline = sym (lists.same_deadline i h);
      }

  module _ (m : ℕ) where
    pub urgent_same : count_urgent (listed periods budgets deadlines n) no_slack m ≡ count_urgent (first_tasks tasks n) no_slack m
    unfolding first_tasks
    urgent_same = sym (count_same (listed periods budgets deadlines n) (first_tasks tasks n) refl same_listed no_slack no_slack (λ i h. refl) m)

    pub rounds_same_as : all_rounds (listed periods budgets deadlines n) m ≡ all_rounds (first_tasks tasks n) m
    unfolding first_tasks
    rounds_same_as = sym (rounds_same (listed periods budgets deadlines n) (first_tasks tasks n) refl same_listed m)

    pub admits_same_as : slack_admits (listed periods budgets deadlines n) m ≡ slack_admits (first_tasks tasks n) m
    unfolding first_tasks
    admits_same_as = sym (admits_same (listed periods budgets deadlines n) (first_tasks tasks n) refl same_listed m)

pub numbers_listed :
    (periods budgets deadlines : List ℕ) (n : ℕ) → n ≤ max_tasks
    → SameNumbers (tasks_from periods budgets deadlines) n periods budgets deadlines
numbers_listed periods budgets deadlines n few =
    let entry : (i : ℕ) → i < n → get_or (tasks_from periods budgets deadlines) i zero_task ≡ entry_at periods budgets deadlines i =
    λ i h. entry_from periods budgets deadlines i (omega arith)
    in
    record {
      same_period = λ i h. rw (entry i h);
      same_budget = λ i h. rw (entry i h);
      same_deadline = λ i h. rw (entry i h);
    }
