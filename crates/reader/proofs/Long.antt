-- A reading's table has all its entries, whatever the text: `reading_long`.
use Prim.Native.Nat.{ℕ, zero, suc}
use mathlib.Core.Path.{◌≡◌, ◌∙◌}
use mathlib.Core.Bool.{Bool, cond, not}
use mathlib.Core.List.{List}
use lib.Dec.{eqb, ltb}
use lib.ListN.{length, length-set, length-replicate}
use Rattle.laws.proofs.CaseSplits.{by_cond}
use Rattle.text.specs.Lines.{line_end, before, after, is_empty}
use Rattle.tasks.specs.declared.refusals.Refusal.{Refusal}
use Rattle.tasks.specs.declared.table.Table.{Table}
use Rattle.tasks.specs.Limits.{max_tasks, max_text_length}
use Rattle.tasks.specs.Task.{in_range}
use Rattle.tasks.specs.Table.{zero_task, empty_table, with_task}
use Rattle.reader.specs.declared.names.Columns.{Columns}
use Rattle.reader.specs.declared.Reading.{Reading}
use Rattle.reader.specs.Names.{columns_of, begins_with_names}
use Rattle.reader.specs.Reading.{refused, begins_with_values, task_of, ended, value_lines, reading}

abbrev Long : Reading → Type 0
Long r = length r.table.tasks ≡ max_tasks

either : (t : Bool) (x y : Reading) → Long x → Long y → Long (cond t x y)
either t x y f g = by_cond (λ (r : Reading). Long r) t (λ e. f) (λ e. g)

refused_long : (why : Refusal) → Long (refused why)
unfolding refused empty_table
refused_long why = length-replicate max_tasks zero_task

module _ (t : Table) (long : length t.tasks ≡ max_tasks) where
  ended_long : Long (ended t)
  unfolding ended
  ended_long = either (eqb t.count 0) _ _ (refused_long _) long

lines_long : (c : Columns) (n : ℕ) (t : Table) (s : List ℕ) → length t.tasks ≡ max_tasks → Long (value_lines c n t s)
unfolding value_lines with_task
lines_long c zero t s long = either (is_empty s) _ _ (ended_long t long) (refused_long _)
lines_long c (suc n) t s long =
    let task = task_of c (before line_end s) in
    either (is_empty s) _ _ (ended_long t long)
    (either (not (begins_with_values s)) _ _ (refused_long _)
    (either (not (in_range task)) _ _ (refused_long _)
    (lines_long c n (with_task t task) (after line_end s) (length-set t.tasks t.count task ∙ long))))

pub reading_long : (s : List ℕ) → length (reading s).table.tasks ≡ max_tasks
unfolding reading empty_table
reading_long s =
    either (ltb max_text_length (length s)) _ _ (refused_long _)
    (either (not (begins_with_names s)) _ _ (refused_long _)
    (lines_long (columns_of (before line_end s)) max_tasks empty_table (after line_end s) (length-replicate max_tasks zero_task)))
