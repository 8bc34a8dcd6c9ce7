-- What document 02's change 8 does to a table that can be judged makes it cheaper: the theorem `trims_cheaper`. By `after_trims` whatever holds of all cheaper tables
-- holds after each sentence of it.
use Prim.Native.Nat.{ℕ, suc, ◌+◌, ◌-◌, ◌≤◌, ◌<◌}
use native.Mathlib.Nat.{le_refl}
use native.Mathlib.Omega.{arith}
use mathlib.Core.Path.{◌≡◌, refl, ◌∙◌}
use mathlib.Core.Bool.{Bool}
use mathlib.Core.List.{List, ◌++◌}
use lib.ListN.{get_or, set, length, take, drop, length-append, length-take, length-drop, get_or-eq_default}
use lib.Seq.{get_or-set_same, get_or-set_other, get_or-take}
use Rattle.laws.proofs.CaseSplits.{by_order, by_equal}
use Rattle.tasks.specs.Limits.{max_period, max_cores}
use Rattle.tasks.specs.Table.{zero_task}
use Rattle.tasks.specs.TaskSet.{first_tasks, tasks_of}
use Rattle.tasks.specs.Check.{checked}
use Rattle.tasks.specs.Written.{task}
use Rattle.tasks.specs.Cheaper.{Cheaper}
use Rattle.tasks.specs.Trimmed.{with_budget, with_period, list_of, without_task, chosen, chosen_table, AfterTrims, TrimsCheaper}
use Rattle.tasks.specs.declared.task.Task.{Task}
use Rattle.tasks.specs.declared.table.Table.{Table}
use Rattle.std.proofs.Common.{Ok}
use Rattle.tasks.proofs.Checked.{Passes, passes}
use Rattle.tasks.proofs.Range.{Range, range_of}
use Rattle.tasks.proofs.WrittenLaws.{count_of, entry_of}
use Rattle.tasks.proofs.ChosenLaws.{picked, picked_there, picked_rises, picked_task, chosen_few, all_but, but_one}

-- a task of a table, by its index
abbrev task_in : Table → (i : ℕ) → Task
task_in t i = get_or t.tasks i zero_task

-- a task that costs no more than another, and is in range where that is
record NoDearer (old new : Task) : Type 0 where
  same_deadline : new.deadline ≡ old.deadline
  budget_some : 1 ≤ new.budget
  budget_no_larger : new.budget ≤ old.budget
  period_no_smaller : old.period ≤ new.period
  period_fits : new.period ≤ max_period

module _ (t : Table) (m : ℕ) (can-be-judged : checked t m ≡ Ok tt) where
  fits : Passes t m
  fits = passes t m can-be-judged

  range : (i : ℕ) → i < t.count → Range (task_in t i)
  range i h = range_of (task_in t i) (fits.tasks_fit i h)

  unchanged : (i : ℕ) → i < t.count → NoDearer (task_in t i) (task_in t i)
  unchanged i h =
      record {
        same_deadline = refl;
        budget_some = (range i h).budget_some;
        budget_no_larger = le_refl _;
        period_no_smaller = le_refl _;
        period_fits = (range i h).period_fits;
      }

  -- a table each of whose tasks costs no more than the one that it was
  module _ (t' : Table) (was : ℕ → ℕ) (there : (i : ℕ) → i < t'.count → was i < t.count) where
    cheaper_by : (m' : ℕ) →
        ((i j : ℕ) → i < j → j < t'.count → was i < was j) →
        ((i : ℕ) → i < t'.count → NoDearer (task_in t (was i)) (task_in t' i)) →
        1 ≤ t'.count →
        m ≤ m' →
        m' ≤ max_cores →
        Cheaper t m t' m'
    unfolding tasks_of first_tasks
    cheaper_by m' rises each some more few =
        record {
          tasks =
              record {
                was = was;
                was_there = there;
                in_order = rises;
                each = λ i h.
                    record {
                      same_deadline = (each i h).same_deadline;
                      budget_no_larger = (each i h).budget_no_larger;
                      period_no_smaller = (each i h).period_no_smaller;
                    };
              };
          budget_some = λ i h. omega (arith, (each i h).budget_some);
          period_fits = λ i h. omega (arith, (each i h).period_fits);
          one_remains = omega arith;
          cores_no_fewer = more;
          cores_fit = omega arith;
        }

  core_more : m + 1 ≤ max_cores → Cheaper t m t (m + 1)
  core_more few = cheaper_by t (λ i. i) (λ i h. h) (m + 1) (λ i j l h. l) unchanged fits.count_some (omega arith) few

  -- an entry of the table is in its list, since no task of zeros is in range
  entry_listed : (i : ℕ) → i < t.count → i < length t.tasks
  unfolding zero_task
  entry_listed i h =
      by_order (length t.tasks) i
      (λ past.
      let zeros : task_in t i ≡ zero_task = get_or-eq_default t.tasks zero_task past in
      absurd (omega (arith, rw zeros at (range i h).budget_some)))
      (λ inside. inside)

  -- one task changed
  module _ (i : ℕ) (i-in : i < t.count) (new : Task) (no_dearer : NoDearer (task_in t i) new) where
    abbrev changed : Table
    changed = record { count = t.count; tasks = set t.tasks i new }

    changed_task : (j : ℕ) → j < t.count → NoDearer (task_in t j) (task_in changed j)
    changed_task j h =
        by_equal j i
        (λ e. rw (e, get_or-set_same t.tasks i new zero_task (entry_listed i i-in)) no_dearer)
        (λ ne. rw (get_or-set_other t.tasks i j new zero_task ne) (unchanged j h))

    one_changed : Cheaper t m changed m
    one_changed = cheaper_by changed (λ j. j) (λ j h. h) m (λ j k l h. l) changed_task (omega arith) (le_refl m) fits.cores_fit

  budget_lowered : (i budget : ℕ) → i < t.count → 1 ≤ budget → budget ≤ (tasks_of t).budget i → Cheaper t m (with_budget t i budget) m
  unfolding tasks_of first_tasks with_budget task
  budget_lowered i budget h some lower =
      one_changed i h _
      (record {
        same_deadline = refl;
        budget_some = some;
        budget_no_larger = lower;
        period_no_smaller = le_refl _;
        period_fits = (range i h).period_fits;
      })

  period_raised : (i period : ℕ) → i < t.count → (tasks_of t).period i ≤ period → period ≤ max_period → Cheaper t m (with_period t i period) m
  unfolding tasks_of first_tasks with_period task
  period_raised i period h higher few =
      one_changed i h _
      (record {
        same_deadline = refl;
        budget_some = (range i h).budget_some;
        budget_no_larger = le_refl _;
        period_no_smaller = higher;
        period_fits = few;
      })

  -- the table's tasks as a list
  listed_few : length (list_of t) ≤ t.count
  unfolding list_of
  listed_few = rw length-take (omega arith)

  module _ (flags : List Bool) (some : 1 ≤ (chosen_table t flags).count) where
    abbrev choice : List Task
    choice = chosen flags (list_of t)

    choice_count : (chosen_table t flags).count ≡ length choice
    unfolding chosen_table
    choice_count = count_of choice

    choice_task : (i : ℕ) → i < length choice → task_in (chosen_table t flags) i ≡ task_in t (picked flags i)
    unfolding chosen_table list_of
    choice_task i h =
        entry_of choice (omega (arith, chosen_few flags (list_of t), listed_few, fits.count_fits)) i h
        ∙ picked_task flags (list_of t) i h
        ∙ get_or-take t.count t.tasks (picked flags i) zero_task (omega (arith, picked_there flags (list_of t) i h, listed_few))

    some_chosen : Cheaper t m (chosen_table t flags) m
    some_chosen =
        cheaper_by (chosen_table t flags) (picked flags)
        there
        m
        (λ i j l h. picked_rises flags (list_of t) i j l (omega (arith, choice_count)))
        (λ i h. rw (choice_task i (omega (arith, choice_count))) (unchanged (picked flags i) (there i h)))
        some
        (le_refl m)
        fits.cores_fit
      where
        there : (i : ℕ) → i < (chosen_table t flags).count → picked flags i < t.count
        there i h = omega (arith, picked_there flags (list_of t) i (omega (arith, choice_count)), listed_few)

  -- a task removed is a choice of all the others
  removed_chosen : (i : ℕ) → without_task t i ≡ chosen_table t (all_but i t.count)
  unfolding without_task chosen_table
  removed_chosen i = rw (but_one i t.count (list_of t) listed_few)

  listed_all : length (list_of t) ≡ t.count
  unfolding list_of
  listed_all =
      let last = t.count - 1 in
      rw length-take (omega (arith, entry_listed last (omega (arith, fits.count_some))))

  others_remain : (i : ℕ) → i < t.count → 2 ≤ t.count → 1 ≤ (without_task t i).count
  unfolding without_task
  others_remain i h two =
      rw (count_of (take i (list_of t) ++ drop (suc i) (list_of t)), length-append, length-take, length-drop) (omega (arith, listed_all))

  task_removed : (i : ℕ) → i < t.count → 2 ≤ t.count → Cheaper t m (without_task t i) m
  task_removed i h two =
      rw (removed_chosen i) (some_chosen (all_but i t.count) (rw (← removed_chosen i) (others_remain i h two)))

pub trims_cheaper : TrimsCheaper
unfolding TrimsCheaper
trims_cheaper t m can-be-judged =
    record {
      core_more = core_more t m can-be-judged;
      budget_lowered = budget_lowered t m can-be-judged;
      period_raised = period_raised t m can-be-judged;
      task_removed = task_removed t m can-be-judged;
      some_chosen = some_chosen t m can-be-judged;
    }

pub after_trims : (holds : Table → ℕ → Type 0) (t : Table) (m : ℕ) →
    checked t m ≡ Ok tt →
    ((t' : Table) (m' : ℕ) → Cheaper t m t' m' → holds t' m') →
    AfterTrims holds t m
unfolding TrimsCheaper
after_trims holds t m can-be-judged of-cheaper =
    let trims = trims_cheaper t m can-be-judged in
    record {
      core_more = λ few. of-cheaper _ _ (trims.core_more few);
      budget_lowered = λ i budget h some lower. of-cheaper _ _ (trims.budget_lowered i budget h some lower);
      period_raised = λ i period h higher few. of-cheaper _ _ (trims.period_raised i period h higher few);
      task_removed = λ i h two. of-cheaper _ _ (trims.task_removed i h two);
      some_chosen = λ flags some. of-cheaper _ _ (trims.some_chosen flags some);
    }
