-- What a verdict says of the judging. Others cite `judged_outcome`, that its refusals are those of `checked`, and `judged_is`, what it says where there is none;
-- `count_small`; and `admits_means`, of a table that is admitted.
use Prim.Native.Nat.{ℕ, ◌≤◌}
use native.Mathlib.Omega.{arith}
use mathlib.Core.Path.{◌≡◌, refl}
use mathlib.Core.Bool.{true, false}
use Rattle.std.proofs.Common.{Ok}
use Rattle.laws.proofs.CaseSplits.{not_both}
use Rattle.tasks.specs.declared.table.Table.{Table}
use Rattle.tasks.specs.Limits.{max_tasks}
use Rattle.tasks.specs.Check.{checked}
use Rattle.tasks.proofs.Checked.{passes}
use Rattle.tasks.proofs.OutcomeLaws.{by_outcome}
use Rattle.edzl.specs.Window.{no_slack, may_turn_urgent, count_urgent, admitted}
use Rattle.laws.proofs.SumLaws.{count_bound}
use Rattle.tasks.specs.TaskSet.{first_tasks, tasks_of}
use Rattle.judge.specs.Judge.{refused_values, judged_after, judged}

-- an admitted table can be judged and passes the window test
pub record Admits (t : Table) (m : ℕ) : Type 0 where
  pub checks : checked t m ≡ Ok tt
  pub admits : admitted (tasks_of t) m ≡ true

module _ (t : Table) (m : ℕ) where
  pub judged_outcome : (judged t m).outcome ≡ checked t m
  unfolding judged judged_after refused_values
  judged_outcome = by_outcome (checked t m) (λ e. rw e) (λ why e. rw e)

  pub judged_is : checked t m ≡ Ok tt → judged t m ≡ judged_after (Ok tt) t m
  unfolding judged
  judged_is e = rw e

  -- COUNT is at most the 32 tasks of a table
  pub count_small : (judged t m).count ≤ max_tasks
  unfolding judged judged_after refused_values count_urgent tasks_of first_tasks
  count_small =
      by_outcome (checked t m)
      (λ e. rw e (omega (arith, (passes t m e).count_fits, count_bound (λ k. may_turn_urgent (tasks_of t) no_slack m k) t.count)))
      (λ why e. rw e (omega arith))

  pub admits_means : (judged t m).admits ≡ true → Admits t m
  unfolding judged judged_after refused_values
  admits_means h =
      by_outcome (checked t m)
      (λ e. record { checks = e; admits = rw e at h })
      (λ why e. not_both false (rw e at h) refl)
