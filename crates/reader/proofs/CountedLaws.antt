-- What the answer of `read_arrays` or `read_numbers` says of the reading. Others cite `counted_refused`, of a refusal, and `counted_read`, of a table
-- that was read (`CountedRead`): its numbers make it again.
use Prim.Native.Nat.{ℕ}
use mathlib.Core.Path.{◌≡◌, sym, ap}
use mathlib.Core.List.{List}
use Rattle.std.proofs.Common.{Result, Ok, Err}
use Rattle.tasks.specs.declared.refusals.Refusal.{Refusal}
use Rattle.tasks.specs.Numbers.{periods_of, budgets_of, deadlines_of, table_from}
use Rattle.tasks.proofs.Numbers.{from_lists}
use Rattle.reader.specs.Counted.{CountedValues, counted_values_of, counted_in}
use Rattle.reader.specs.Reading.{reading}
use Rattle.reader.proofs.Long.{reading_long}

-- a table that was read, of n tasks
pub record CountedRead (s : List ℕ) (n : ℕ) : Type 0 where
  pub outcome : (reading s).outcome ≡ Ok tt
  pub again : let tasks = (reading s).table.tasks in table_from (periods_of tasks) (budgets_of tasks) (deadlines_of tasks) n ≡ (reading s).table

module _ (s : List ℕ) (r : Result ℕ Refusal) (is : counted_values_of r ≡ counted_in (reading s)) where
  pub counted_refused : (why : Refusal) → r ≡ Err why → (reading s).outcome ≡ Err why
  unfolding counted_values_of counted_in
  counted_refused why e = sym (ap (λ (v : CountedValues). v.outcome) (rw e at is))

  pub counted_read : (n : ℕ) → r ≡ Ok n → CountedRead s n
  unfolding counted_values_of counted_in table_from
  counted_read n e =
      let values = rw e at is in
      let count : n ≡ (reading s).table.count = ap (λ (v : CountedValues). v.count) values in
      record {
        outcome = sym (ap (λ (v : CountedValues). v.outcome) values);
        again = rw (from_lists (reading s).table.tasks (reading_long s), count);
      }
