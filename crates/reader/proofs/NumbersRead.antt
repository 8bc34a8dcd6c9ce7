-- What reading a text into three lists gives. Others cite: what the answer r and the entries ts say at each refusal before the value lines
-- (`too_long`, `bad_names`) and after them (`by_lines`, with `named`); and what they say of the reading w: `answer_is`, `kept`, `cleared`, `table_is` and
-- `refusal_is`.
use Prim.Native.Nat.{ℕ, ◌≤◌, ◌<◌}
use mathlib.Core.Path.{◌≡◌, sym, ap, ◌∙◌}
use mathlib.Core.Bool.{true}
use mathlib.Core.List.{List}
use borrow.Author.Tests.{lt-ltb, le-ltb}
use lib.Dec.{eqb}
use lib.ListN.{length}
use Rattle.laws.proofs.Booleans.{and_right}
use Rattle.laws.proofs.Parts.{from}
use Rattle.text.specs.Lines.{line_end, has, before, first_is, field_count}
use Rattle.tasks.specs.declared.task.Task.{Task}
use Rattle.std.proofs.Common.{Result, Ok, Err, is_err, Some, None}
use mathlib.Core.Bool.{false, false≢true}
use Rattle.tasks.specs.declared.refusals.Refusal.{Refusal}
use Rattle.tasks.specs.declared.refusals.Reason.TheVariants.{TextTooLong, BadNamesLine}
use Rattle.tasks.specs.Limits.{max_tasks, max_text_length}
use Rattle.tasks.specs.Refusals.{refusal}
use Rattle.tasks.specs.Table.{empty_table}
use Rattle.tasks.specs.Numbers.{periods_of, budgets_of, deadlines_of, tasks_from, table_from}
use Rattle.tasks.proofs.Numbers.{Long, periods_from, budgets_from, deadlines_from}
use Rattle.reader.specs.declared.names.NamesLine.{NamesLine}
use Rattle.reader.specs.declared.Reading.{Reading}
use Rattle.reader.specs.Names.{each_named, columns_of, three_names, begins_with_names}
use Rattle.reader.specs.Parts.{names_line, reading_from}
use Rattle.reader.specs.Reading.{refused, value_lines, reading}
use Rattle.reader.specs.Counted.{counted_values_of, counted_in}
use Rattle.reader.proofs.NamesLine.{names_read, names_broken}

module _ (s : List ℕ) (ts : List Task) where
  pub too_long : max_text_length < length s → reading_from (Err (refusal TextTooLong 0)) ts ≡ reading s
  unfolding reading reading_from
  too_long h = rw (lt-ltb max_text_length (length s) h)

  module _ (h : length s ≤ max_text_length) where
    pub bad_names : names_line s ≡ None → reading_from (Err (refusal BadNamesLine 0)) ts ≡ reading s
    unfolding reading reading_from
    bad_names b = rw (le-ltb max_text_length (length s) h, names_broken s b)

    pub by_lines :
        (line : NamesLine) → names_line s ≡ Some line
        → (r : Result ℕ Refusal) → reading_from r ts ≡ value_lines line.columns max_tasks empty_table (from s line.length)
        → reading_from r ts ≡ reading s
    unfolding reading
    by_lines line e r lines =
        let m = names_read s line e in
        rw (le-ltb max_text_length (length s) h, m.is, ← m.columns, ← m.rest) lines

-- the columns of a names line that was read
pub named : (s : List ℕ) (line : NamesLine) → names_line s ≡ Some line → each_named line.columns ≡ true
unfolding begins_with_names first_is three_names
named s line e =
    let m = names_read s line e in
    let l = before line_end s in
    rw m.columns (and_right (eqb (field_count l) 3) (each_named (columns_of l)) (and_right (has line_end s) (three_names l) m.is))

pub answer_is : (w : Reading) (r : Result ℕ Refusal) (ts : List Task) → reading_from r ts ≡ w → counted_values_of r ≡ counted_in w
unfolding counted_values_of counted_in reading_from refused empty_table
answer_is w (Ok n) ts e = rw (← e)
answer_is w (Err why) ts e = rw (← e)

-- three lists that have the numbers of a reading's table
pub record Numbers (w : Reading) (ps bs ds : List ℕ) : Type 0 where
  pub periods : ps ≡ periods_of w.table.tasks
  pub budgets : bs ≡ budgets_of w.table.tasks
  pub deadlines : ds ≡ deadlines_of w.table.tasks

numbers_from : (w : Reading) (ps bs ds : List ℕ) → Long ps bs ds → tasks_from ps bs ds ≡ w.table.tasks → Numbers w ps bs ds
numbers_from w ps bs ds long e =
    record {
      periods = rw (← e) (sym (periods_from ps bs ds long));
      budgets = rw (← e) (sym (budgets_from ps bs ds long));
      deadlines = rw (← e) (sym (deadlines_from ps bs ds long));
    }

module _ (w : Reading) (r : Result ℕ Refusal) (ps bs ds : List ℕ) (is : reading_from r (tasks_from ps bs ds) ≡ w) where
  -- a table that was read
  pub table_is : (n : ℕ) → r ≡ Ok n → record { table = table_from ps bs ds n; outcome = Ok tt } ≡ w
  unfolding reading_from table_from
  table_is n e = rw e at is

  -- the lists have its numbers
  pub kept : is_err r ≡ false → Long ps bs ds → Numbers w ps bs ds
  unfolding reading_from
  kept e long = of_result r is e
    where
      of_result : (r : Result ℕ Refusal) → reading_from r (tasks_from ps bs ds) ≡ w → is_err r ≡ false → Numbers w ps bs ds
      of_result (Ok n) is e = numbers_from w ps bs ds long (ap (λ (v : Reading). v.table.tasks) is)
      of_result (Err why) is e = absurd (false≢true (sym e))

-- a refusal, with whatever entries
pub refusal_is : (w : Reading) (r : Result ℕ Refusal) (ts : List Task) → reading_from r ts ≡ w → (why : Refusal) → r ≡ Err why → refused why ≡ w
unfolding reading_from
refusal_is w r ts is why e = rw e at is

-- the lists that are cleared after it have the numbers of its table
pub cleared :
    (w : Reading) (r : Result ℕ Refusal) (ts : List Task) → reading_from r ts ≡ w → is_err r ≡ true → (ps bs ds : List ℕ)
    → ps ≡ periods_of empty_table.tasks → bs ≡ budgets_of empty_table.tasks → ds ≡ deadlines_of empty_table.tasks → Numbers w ps bs ds
unfolding reading_from refused
cleared w (Ok n) ts is e ps bs ds p b d = absurd (false≢true e)
cleared w (Err why) ts is e ps bs ds p b d =
    let none : empty_table.tasks ≡ w.table.tasks = ap (λ (v : Reading). v.table.tasks) is in
    record { periods = p ∙ ap periods_of none; budgets = b ∙ ap budgets_of none; deadlines = d ∙ ap deadlines_of none }
