-- The needs that a release takes: `need_range`. The whole budget of a task is one of them: `whole_in_range`.
use Prim.Native.Nat.{ℕ, ◌≤◌}
use native.Mathlib.Omega.{arith}
use mathlib.Core.Path.{◌≡◌}
use mathlib.Core.Bool.{true}
use lib.Dec.{leb}
use borrow.Author.Tests.{leb-true, le-leb}
use Rattle.laws.proofs.Booleans.{and_left, and_right}
use Rattle.tasks.specs.declared.task.Task.{Task}
use Rattle.tasks.specs.Task.{in_range}
use Rattle.tasks.proofs.Range.{range_of}
use Rattle.job.specs.Job.{need_in_range}

pub record NeedRange (t : Task) (need : ℕ) : Type 0 where
  pub need_some : 1 ≤ need
  pub need_fits : need ≤ t.budget

pub need_range : (t : Task) (need : ℕ) → need_in_range t need ≡ true → NeedRange t need
unfolding need_in_range
need_range t need ok =
    record { need_some = leb-true _ _ (and_left (leb 1 need) _ ok); need_fits = leb-true _ _ (and_right (leb 1 need) _ ok) }

pub whole_in_range : (t : Task) → in_range t ≡ true → need_in_range t t.budget ≡ true
unfolding need_in_range
whole_in_range t in_range_lem = rw (le-leb _ _ (range_of t in_range_lem).budget_some, le-leb t.budget t.budget (omega arith))
