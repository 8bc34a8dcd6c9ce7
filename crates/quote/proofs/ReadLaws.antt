-- What a reading of ranges is. Others cite `reading_below`, that its refusal numbers are small; and `read_passes`, that no refusal stands against ranges that
-- were read, on 1 to 16 cores.
use Prim.Native.Nat.{ℕ, zero, suc, ◌+◌, ◌≤◌, ◌<◌}
use native.Mathlib.Omega.{arith}
use mathlib.Core.Path.{◌≡◌, refl, ◌∙◌}
use mathlib.Core.Bool.{Bool, cond, not}
use mathlib.Core.List.{List}
use borrow.Author.Tests.{eqb-false}
use lib.Dec.{eqb, ltb}
use lib.ListN.{length, get_or, length-set, length-replicate}
use lib.Seq.{get_or-set_same, get_or-set_other}
use Rattle.laws.proofs.CaseSplits.{by_cond, by_equal, clash}
use Rattle.text.specs.Lines.{line_end, before, after, first_is, is_empty}
use Rattle.tasks.specs.Limits.{max_tasks, max_cores, max_text_length}
use Rattle.std.proofs.Common.{Result, Ok, Err}
use Rattle.tasks.specs.Refusals.{number_of, refusal}
use Rattle.tasks.specs.declared.refusals.Refusal.{Refusal}
use Rattle.tasks.specs.declared.refusals.Reason.TheVariants.{TextTooLong, BadNamesLine, TooManyTasks, BadValueLine, NoTask}
use Rattle.tasks.proofs.OutcomeLaws.{by_outcome}
use Rattle.tasks.proofs.Small.{Below, below_done, below_refused}
use Rattle.ranges.specs.declared.task.RangedTask.{RangedTask}
use Rattle.ranges.specs.declared.table.RangedTable.{RangedTable}
use Rattle.ranges.specs.Ranges.{zero_ranged_task, empty_ranges, with_ranged_task}
use Rattle.ranges.specs.Check.{task_checked, ranges_checked}
use Rattle.ranges.proofs.RangesPass.{TasksPass, passed}
use Rattle.ranges.proofs.Small.{task_below}
use Rattle.quote.specs.Reading.{is_names, five_values, ranged_task_of, ended, or_refused, range_lines, reading}

-- ranges so far: n more tasks have room, and none of those read is refused
record SoFar (n : ℕ) (r : RangedTable) : Type 0 where
  room : r.count + n ≡ max_tasks
  long : length r.tasks ≡ max_tasks
  each_checked : (i : ℕ) → i < r.count → task_checked (get_or r.tasks i zero_ranged_task) (i + 1) ≡ Ok tt

-- its number is small where it is refused, and else no task of its ranges is refused
record WellRead (w : Result RangedTable Refusal) : Type 0 where
  below : Below 16 w
  tasks_pass : (r : RangedTable) → w ≡ Ok r → TasksPass r

refused_well : (why : Refusal) → number_of why.reason ≤ 16 → WellRead (Err why)
refused_well why h = record { below = below_refused 16 why h; tasks_pass = λ r e. clash cc }

either : (t : Bool) (v w : Result RangedTable Refusal) → WellRead v → WellRead w → WellRead (cond t v w)
either t v w f g = by_cond WellRead t (λ e. f) (λ e. g)

ended_well : (n : ℕ) (r : RangedTable) → SoFar n r → WellRead (ended r)
unfolding ended
ended_well n r far =
    by_cond WellRead (eqb r.count 0)
    (λ e. refused_well (refusal NoTask 0) (omega arith))
    (λ e.
    let pass : TasksPass r =
    record {
      count_some = let not-0 = eqb-false r.count 0 e in omega arith;
      count_fits = omega (arith, far.room);
      each_checked = far.each_checked;
    } in
    record { below = below_done 16 r; tasks_pass = λ q read. let same : r ≡ q = cc in rw (← same) pass })

one_more : (n : ℕ) (r : RangedTable) (k : RangedTask) → SoFar (suc n) r → task_checked k (r.count + 1) ≡ Ok tt → SoFar n (with_ranged_task r k)
unfolding with_ranged_task
one_more n r k far e =
    record {
      room = omega (arith, far.room);
      long = length-set r.tasks r.count k ∙ far.long;
      each_checked = λ i h.
          by_equal i r.count
          (λ same. rw (same, get_or-set_same r.tasks r.count k zero_ranged_task (omega (arith, far.room, far.long))) e)
          (λ other. rw (get_or-set_other r.tasks r.count i k zero_ranged_task other) (far.each_checked i (omega arith)));
    }

lines_well : (n : ℕ) (r : RangedTable) (s : List ℕ) → SoFar n r → WellRead (range_lines n r s)
unfolding range_lines or_refused
lines_well zero r s far = either (is_empty s) _ _ (ended_well zero r far) (refused_well (refusal TooManyTasks (r.count + 1)) (omega arith))
lines_well (suc n) r s far =
    let task = ranged_task_of (before line_end s) in
    either (is_empty s) _ _ (ended_well (suc n) r far)
    (either (not (first_is five_values s)) _ _ (refused_well (refusal BadValueLine (r.count + 1)) (omega arith))
    (by_outcome (task_checked task (r.count + 1))
    (λ e. rw e (lines_well n (with_ranged_task r task) (after line_end s) (one_more n r task far e)))
    (λ why e. rw e (refused_well why (task_below task (r.count + 1) why e)))))

read_well : (s : List ℕ) → WellRead (reading s)
unfolding reading empty_ranges
read_well s =
    either (ltb max_text_length (length s)) _ _ (refused_well (refusal TextTooLong 0) (omega arith))
    (either (not (first_is is_names s)) _ _ (refused_well (refusal BadNamesLine 0) (omega arith))
    (lines_well max_tasks empty_ranges (after line_end s)
    (record { room = refl; long = length-replicate max_tasks zero_ranged_task; each_checked = λ i h. absurd (omega arith) })))

pub reading_below : (s : List ℕ) → Below 16 (reading s)
reading_below s = (read_well s).below

pub read_passes : (s : List ℕ) (r : RangedTable) (m : ℕ) → reading s ≡ Ok r → 1 ≤ m → m ≤ max_cores → ranges_checked r m ≡ Ok tt
read_passes s r m e some fits = passed r m ((read_well s).tasks_pass r e) some fits
