-- One turn over the value lines, whose numbers go to three lists. Others cite `ReadingOn`, the state of the reading between two lines, with `begin`,
-- `next`, `none_long`, and what the whole reading is where it stops: `no_task`, `finish`, `too_many`, `bad_line` and `bad_task`.
use Prim.Native.Nat.{ℕ, zero, suc, ◌+◌, ◌-◌, ◌≤◌, ◌<◌}
use native.Mathlib.Omega.{arith}
use mathlib.Core.Path.{◌≡◌, sym, ap, ◌∙◌}
use mathlib.Core.Bool.{true, false}
use mathlib.Core.List.{List}
use borrow.Author.Tests.{eq-eqb, ne_eqb}
use lib.ListN.{length, set, replicate, length-set, length-replicate}
use Rattle.laws.proofs.Parts.{past}
use Rattle.tasks.specs.Limits.{max_tasks}
use Rattle.tasks.specs.declared.refusals.Refusal.{Refusal}
use Rattle.tasks.specs.declared.refusals.Reason.TheVariants.{TooManyTasks, BadValueLine, TaskOutOfRange, NoTask}
use Rattle.tasks.specs.Refusals.{refusal}
use Rattle.tasks.specs.Task.{in_range}
use Rattle.tasks.specs.Table.{zero_task, empty_table, with_task}
use Rattle.tasks.specs.Numbers.{periods_of, budgets_of, deadlines_of, tasks_from, table_from}
use Rattle.tasks.proofs.Numbers.{Long, set_from, from_lists}
use Rattle.reader.specs.declared.names.Columns.{Columns}
use Rattle.reader.specs.declared.Reading.{Reading}
use Rattle.std.proofs.Common.{Result, Ok, Err}
use Rattle.text.specs.declared.fields.ThreeNumbers.{ThreeNumbers}
use Rattle.reader.specs.Reading.{refused, begins_with_values, ended, value_lines}
use Rattle.reader.specs.Parts.{reading_from, task_in}
use Rattle.text.proofs.LineLaws.{no_bytes, some_bytes}
use Rattle.reader.proofs.ValueLine.{LineRead}

-- those of the empty table
pub none_long :
    (ps bs ds : List ℕ) → ps ≡ periods_of empty_table.tasks → bs ≡ budgets_of empty_table.tasks → ds ≡ deadlines_of empty_table.tasks → Long ps bs ds
unfolding empty_table periods_of budgets_of deadlines_of
none_long ps bs ds p b d = record { periods_long = ap length p; budgets_long = ap length b; deadlines_long = ap length d }

none_from : table_from (periods_of empty_table.tasks) (budgets_of empty_table.tasks) (deadlines_of empty_table.tasks) 0 ≡ empty_table
unfolding table_from empty_table
none_from = rw (from_lists (replicate max_tasks zero_task) (length-replicate max_tasks zero_task))

-- between two lines: the lists have the numbers of n tasks, and the rest s of the text settles the whole reading w
pub record ReadingOn (c : Columns) (w : Reading) (ps bs ds : List ℕ) (n : ℕ) (s : List ℕ) : Type 0 where
  pub long : Long ps bs ds
  pub within : n ≤ max_tasks
  pub left : w ≡ value_lines c (max_tasks - n) (table_from ps bs ds n) s

pub begin :
    (c : Columns) (s ps bs ds : List ℕ)
    → ps ≡ periods_of empty_table.tasks → bs ≡ budgets_of empty_table.tasks → ds ≡ deadlines_of empty_table.tasks
    → ReadingOn c (value_lines c max_tasks empty_table s) ps bs ds 0 s
begin c s ps bs ds p b d = record { long = none_long ps bs ds p b d; within = omega arith; left = rw (p, b, d, none_from) }

module _ (c : Columns) (w : Reading) (ps bs ds : List ℕ) (n : ℕ) (s : List ℕ) (on : ReadingOn c w ps bs ds n s) where
  -- the reading that an answer says
  abbrev Answered : Result ℕ Refusal → Type 0
  Answered r = reading_from r (tasks_from ps bs ds) ≡ w

  stopped : (why : Refusal) → refused why ≡ w → Answered (Err why)
  unfolding reading_from
  stopped why stop = stop

  module _ (h : length s ≤ 0) where
    at_end : (m : ℕ) → value_lines c m (table_from ps bs ds n) s ≡ ended (table_from ps bs ds n)
    unfolding value_lines
    at_end zero = rw (no_bytes s h)
    at_end (suc m) = rw (no_bytes s h)

    pub no_task : n ≡ 0 → Answered (Err (refusal NoTask 0))
    unfolding ended table_from
    no_task z = stopped (refusal NoTask 0) (sym (on.left ∙ at_end (max_tasks - n) ∙ rw (eq-eqb n 0 z)))

    pub finish : (n ≡ 0 → ⊥) → Answered (Ok n)
    unfolding ended table_from reading_from
    finish z = sym (on.left ∙ at_end (max_tasks - n) ∙ rw (ne_eqb n 0 z))

  module _ (h : 0 < length s) where
    pub too_many : max_tasks ≤ n → Answered (Err (refusal TooManyTasks (n + 1)))
    unfolding value_lines table_from
    too_many l = let z : max_tasks - n ≡ 0 = omega arith in stopped (refusal TooManyTasks (n + 1)) (sym (on.left ∙ rw (z, some_bytes s h)))

    module _ (l : n < max_tasks) where
      more : max_tasks - n ≡ suc (max_tasks - (n + 1))
      more = omega arith

      pub bad_line : begins_with_values s ≡ false → Answered (Err (refusal BadValueLine (n + 1)))
      unfolding value_lines table_from
      bad_line b = stopped (refusal BadValueLine (n + 1)) (sym (on.left ∙ rw (more, some_bytes s h, b)))

      module _ (line : ThreeNumbers) (d : LineRead c s line) where
        pub bad_task : in_range (task_in c line) ≡ false → Answered (Err (refusal TaskOutOfRange (n + 1)))
        unfolding value_lines table_from
        bad_task f = stopped (refusal TaskOutOfRange (n + 1)) (sym (on.left ∙ rw (more, some_bytes s h, d.is, d.task_is, f)))

        pub next :
            in_range (task_in c line) ≡ true
            → let k = task_in c line in
            ReadingOn c w (set ps n k.period) (set bs n k.budget) (set ds n k.deadline) (n + 1) (past s line.length)
        unfolding value_lines with_task table_from
        next r =
            let k = task_in c line in
            record {
              long =
                  record {
                    periods_long = length-set ps n k.period ∙ on.long.periods_long;
                    budgets_long = length-set bs n k.budget ∙ on.long.budgets_long;
                    deadlines_long = length-set ds n k.deadline ∙ on.long.deadlines_long;
                  };
              within = omega arith;
              left = on.left ∙ rw (more, some_bytes s h, d.is, d.task_is, r, d.rest, set_from ps bs ds on.long n k l);
            }
