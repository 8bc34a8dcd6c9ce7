-- Tables within ranges that pass. Others cite `corner_within`; `no_dearer`, which of two such tables is cheaper; `within_judged`; and of a corner against every
-- table within `dearest_first` and `cheapest_last`.
use Prim.Native.Nat.{ℕ, ◌≤◌, ◌<◌}
use native.Mathlib.Nat.{le_refl}
use native.Mathlib.Omega.{arith}
use mathlib.Core.Path.{◌≡◌, refl, ap, ◌∙◌}
use lib.ListN.{get_or, length-replicate}
use Rattle.laws.proofs.Replaced.{replaced_at}
use Rattle.tasks.specs.Limits.{max_tasks}
use Rattle.tasks.specs.Task.{in_range}
use Rattle.tasks.specs.Table.{zero_task, empty_table}
use Rattle.tasks.specs.TaskSet.{first_tasks, tasks_of}
use Rattle.tasks.specs.Check.{checked}
use Rattle.tasks.specs.Cheaper.{Cheaper}
use Rattle.tasks.specs.declared.task.Task.{Task}
use Rattle.tasks.specs.declared.table.Table.{Table}
use Rattle.std.proofs.Common.{Ok}
use Rattle.tasks.proofs.Checked.{passed}
use Rattle.tasks.proofs.Range.{Range, range_of}
use Rattle.tasks.proofs.CheaperChecked.{cheaper_checked}
use Rattle.ranges.specs.declared.corner.Corner.{Corner}
use Rattle.ranges.specs.declared.corner.Corner.TheVariants.{Dearest, Cheapest}
use Rattle.ranges.specs.declared.task.RangedTask.{RangedTask}
use Rattle.ranges.specs.declared.table.RangedTable.{RangedTable}
use Rattle.ranges.specs.Ranges.{zero_ranged_task, corner_task, corner_table, TaskWithin, Within}
use Rattle.ranges.specs.Check.{ranges_checked}
use Rattle.ranges.proofs.RangesPass.{TaskPasses, Passes, passes}

-- a task's budget is no larger than another's, and its period no smaller
pub record NoDearer (k : Task) (k' : Task) : Type 0 where
  pub budget_no_larger : k'.budget ≤ k.budget
  pub period_no_smaller : k.period ≤ k'.period

task_corner_within : (corner : Corner) (r : RangedTask) → TaskPasses r → TaskWithin r (corner_task corner r)
unfolding corner_task
task_corner_within Dearest r p =
    record {
      period_in = record { from_least = omega arith; to_most = omega arith };
      budget_in = record { from_least = omega arith; to_most = omega arith };
      same_deadline = omega arith;
    }
task_corner_within Cheapest r p =
    record {
      period_in = record { from_least = omega arith; to_most = omega arith };
      budget_in = record { from_least = omega arith; to_most = omega arith };
      same_deadline = omega arith;
    }

module _ (r : RangedTable) (m : ℕ) (checks : ranges_checked r m ≡ Ok tt) where
  pass : Passes r m
  pass = passes r m checks

  corner_entry : (corner : Corner) (i : ℕ) → i < r.count →
      get_or (corner_table corner r).tasks i zero_task ≡ corner_task corner (get_or r.tasks i zero_ranged_task)
  unfolding corner_table empty_table
  corner_entry corner i h =
      replaced_at (λ j. corner_task corner (get_or r.tasks j zero_ranged_task)) empty_table.tasks zero_task max_tasks i (omega (arith, pass.count_fits))
      (omega (arith, pass.count_fits, length-replicate max_tasks zero_task))

  pub corner_within : (corner : Corner) → Within r (corner_table corner r)
  unfolding corner_table
  corner_within corner =
      record { same_count = refl; each = λ i h. rw (corner_entry corner i h) (task_corner_within corner _ (pass.each_passes i h)) }

  pub no_dearer : (t t' : Table) → Within r t → Within r t' →
      ((i : ℕ) → i < r.count → NoDearer (get_or t.tasks i zero_task) (get_or t'.tasks i zero_task)) →
      Cheaper t m t' m
  unfolding tasks_of first_tasks corner_task
  no_dearer t t' w w' each =
      let in-ranges : (i : ℕ) → i < t'.count → i < r.count = λ i h. omega (arith, w'.same_count) in
      let cheapest : (i : ℕ) → i < t'.count → Range (corner_task Cheapest (get_or r.tasks i zero_ranged_task))
      = λ i h. range_of _ ((pass.each_passes i (in-ranges i h)).corner_fits Cheapest) in
      record {
        tasks =
            record {
              was = λ i. i;
              was_there = λ i h. omega (arith, w.same_count, w'.same_count);
              in_order = λ i j l h. l;
              each = λ i h.
                  record {
                    same_deadline = omega (arith, (w.each i (in-ranges i h)).same_deadline, (w'.each i (in-ranges i h)).same_deadline);
                    budget_no_larger = (each i (in-ranges i h)).budget_no_larger;
                    period_no_smaller = (each i (in-ranges i h)).period_no_smaller;
                  };
            };
        budget_some = λ i h. omega (arith, (cheapest i h).budget_some, (w'.each i (in-ranges i h)).budget_in.from_least);
        period_fits = λ i h. omega (arith, (cheapest i h).period_fits, (w'.each i (in-ranges i h)).period_in.to_most);
        one_remains = omega (arith, w'.same_count, pass.count_some);
        cores_no_fewer = le_refl m;
        cores_fit = pass.cores_fit;
      }

  pub dearest_first : (t : Table) → Within r t → Cheaper (corner_table Dearest r) m t m
  unfolding corner_task
  dearest_first t w =
      no_dearer (corner_table Dearest r) t (corner_within Dearest) w
      (λ i h.
      rw (corner_entry Dearest i h)
      (let k = w.each i h in record { budget_no_larger = omega arith; period_no_smaller = omega arith }))

  pub cheapest_last : (t : Table) → Within r t → Cheaper t m (corner_table Cheapest r) m
  unfolding corner_task
  cheapest_last t w =
      no_dearer t (corner_table Cheapest r) w (corner_within Cheapest)
      (λ i h.
      rw (corner_entry Cheapest i h)
      (let k = w.each i h in record { budget_no_larger = omega arith; period_no_smaller = omega arith }))

  dearest_judged : checked (corner_table Dearest r) m ≡ Ok tt
  unfolding corner_table
  dearest_judged =
      passed (corner_table Dearest r) m
      (record {
        count_some = pass.count_some;
        count_fits = pass.count_fits;
        tasks_fit = λ i h. ap in_range (corner_entry Dearest i h) ∙ (pass.each_passes i h).corner_fits Dearest;
        cores_some = pass.cores_some;
        cores_fit = pass.cores_fit;
      })

  pub within_judged : (t : Table) → Within r t → checked t m ≡ Ok tt
  within_judged t w = cheaper_checked (corner_table Dearest r) m t m (dearest_first t w) dearest_judged
