-- What it says of a task's numbers that it is in range: `range_of`, and the fields of `Range`; and `in_range_lem`, that these are all.
use Prim.Native.Nat.{◌≤◌}
use mathlib.Core.Path.{◌≡◌}
use mathlib.Core.Bool.{true, ◌&&◌}
use lib.Dec.{leb}
use borrow.Author.Tests.{leb-true, le-leb}
use Rattle.laws.proofs.Booleans.{and_left, and_right}
use Rattle.tasks.specs.Limits.{max_period}
use Rattle.tasks.specs.Task.{in_range}
use Rattle.tasks.specs.declared.task.Task.{Task}

-- "1 ≤ C ≤ D ≤ T ≤ 1,000,000"
pub record Range (t : Task) : Type 0 where
  pub budget_some : 1 ≤ t.budget
  pub budget_fits : t.budget ≤ t.deadline
  pub deadline_fits : t.deadline ≤ t.period
  pub period_fits : t.period ≤ max_period

pub range_of : (t : Task) → in_range t ≡ true → Range t
unfolding in_range
range_of t h =
    let one = leb 1 t.budget in
    let two = one && leb t.budget t.deadline in
    let three = two && leb t.deadline t.period in
    let h3 = and_left three _ h in
    let h2 = and_left two _ h3 in
    record {
      budget_some = leb-true _ _ (and_left one _ h2);
      budget_fits = leb-true _ _ (and_right one _ h2);
      deadline_fits = leb-true _ _ (and_right two _ h3);
      period_fits = leb-true _ _ (and_right three _ h);
    }

pub in_range_lem : (t : Task) → Range t → in_range t ≡ true
unfolding in_range
in_range_lem t r =
    rw (
      le-leb 1 t.budget r.budget_some,
      le-leb t.budget t.deadline r.budget_fits,
      le-leb t.deadline t.period r.deadline_fits,
      le-leb t.period max_period r.period_fits,
    )
