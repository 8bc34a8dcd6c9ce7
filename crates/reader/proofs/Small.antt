-- A reading is refused by a number of at most 6: `reading_below`.
use Prim.Native.Nat.{ℕ, zero, suc, ◌+◌, ◌≤◌}
use native.Mathlib.Omega.{arith}
use mathlib.Core.Bool.{Bool, cond, not}
use mathlib.Core.List.{List}
use lib.Dec.{eqb, ltb}
use lib.ListN.{length}
use Rattle.laws.proofs.CaseSplits.{by_cond}
use Rattle.text.specs.Lines.{line_end, before, after, is_empty}
use Rattle.tasks.specs.declared.table.Table.{Table}
use Rattle.tasks.specs.declared.refusals.Refusal.{Refusal}
use Rattle.tasks.specs.declared.refusals.Reason.TheVariants.{TextTooLong, BadNamesLine, TooManyTasks, BadValueLine, TaskOutOfRange, NoTask}
use Rattle.tasks.specs.Limits.{max_tasks, max_text_length}
use Rattle.tasks.specs.Refusals.{number_of, refusal}
use Rattle.tasks.specs.Task.{in_range}
use Rattle.tasks.specs.Table.{empty_table, with_task}
use Rattle.tasks.proofs.Small.{Below, below_done, below_refused}
use Rattle.reader.specs.declared.names.Columns.{Columns}
use Rattle.reader.specs.declared.Reading.{Reading}
use Rattle.reader.specs.Names.{columns_of, begins_with_names}
use Rattle.reader.specs.Reading.{refused, begins_with_values, task_of, ended, value_lines, reading}

either : (t : Bool) (x y : Reading) → Below 6 x.outcome → Below 6 y.outcome → Below 6 (cond t x y).outcome
either t x y f g = by_cond (λ (r : Reading). Below 6 r.outcome) t (λ e. f) (λ e. g)

refused_below : (why : Refusal) → number_of why.reason ≤ 6 → Below 6 (refused why).outcome
unfolding refused
refused_below why small = below_refused 6 why small

ended_below : (t : Table) → Below 6 (ended t).outcome
unfolding ended
ended_below t = either (eqb t.count 0) _ _ (refused_below (refusal NoTask 0) (omega arith)) (below_done 6 tt)

lines_below : (c : Columns) (n : ℕ) (t : Table) (s : List ℕ) → Below 6 (value_lines c n t s).outcome
unfolding value_lines
lines_below c zero t s = either (is_empty s) _ _ (ended_below t) (refused_below (refusal TooManyTasks (t.count + 1)) (omega arith))
lines_below c (suc n) t s =
    let task = task_of c (before line_end s) in
    either (is_empty s) _ _ (ended_below t)
    (either (not (begins_with_values s)) _ _ (refused_below (refusal BadValueLine (t.count + 1)) (omega arith))
    (either (not (in_range task)) _ _ (refused_below (refusal TaskOutOfRange (t.count + 1)) (omega arith))
    (lines_below c n (with_task t task) (after line_end s))))

pub reading_below : (s : List ℕ) → Below 6 (reading s).outcome
unfolding reading
reading_below s =
    either (ltb max_text_length (length s)) _ _ (refused_below (refusal TextTooLong 0) (omega arith))
    (either (not (begins_with_names s)) _ _ (refused_below (refusal BadNamesLine 0) (omega arith))
    (lines_below (columns_of (before line_end s)) max_tasks empty_table (after line_end s)))
