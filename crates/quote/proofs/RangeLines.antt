-- One turn over the value lines. Others cite `ReadingOn`, the state of the reading between two lines, with `begin`, `next` and `shorter`, and what the whole
-- reading is where it stops: `no_task`, `finish`, `too_many`, `bad_line` and `bad_task`.
use Prim.Native.Nat.{ℕ, zero, suc, ◌+◌, ◌-◌, ◌≤◌, ◌<◌}
use native.Mathlib.Omega.{arith}
use mathlib.Core.Path.{◌≡◌, refl, sym, ◌∙◌}
use mathlib.Core.Bool.{false}
use mathlib.Core.List.{List}
use borrow.Author.Tests.{eq-eqb, ne_eqb}
use lib.ListN.{length}
use Rattle.laws.proofs.Parts.{from, from_length}
use Rattle.text.specs.Lines.{first_is}
use Rattle.text.proofs.LineLaws.{no_bytes, some_bytes}
use Rattle.tasks.specs.Limits.{max_tasks}
use Rattle.std.proofs.Common.{Result, Ok, Err}
use Rattle.tasks.specs.Refusals.{refusal}
use Rattle.tasks.specs.declared.refusals.Refusal.{Refusal}
use Rattle.tasks.specs.declared.refusals.Reason.TheVariants.{TooManyTasks, BadValueLine, NoTask}
use Rattle.ranges.specs.declared.table.RangedTable.{RangedTable}
use Rattle.ranges.specs.Ranges.{empty_ranges, with_ranged_task}
use Rattle.ranges.specs.Check.{task_checked}
use Rattle.quote.specs.declared.reading.RangeLine.{RangeLine}
use Rattle.quote.specs.Reading.{five_values, ended, or_refused, range_lines}
use Rattle.quote.proofs.RangeLine.{LineRead}

-- between two lines: r has the tasks so far, and the rest s of the text settles the whole reading w
pub record ReadingOn (w : Result RangedTable Refusal) (r : RangedTable) (s : List ℕ) : Type 0 where
  pub within : r.count ≤ max_tasks
  pub left : w ≡ range_lines (max_tasks - r.count) r s

pub begin : (s : List ℕ) (r : RangedTable) → r ≡ empty_ranges → ReadingOn (range_lines max_tasks empty_ranges s) r s
unfolding empty_ranges
begin s r e = rw e (record { within = omega arith; left = refl })

module _ (w : Result RangedTable Refusal) (r : RangedTable) (s : List ℕ) (on : ReadingOn w r s) where
  module _ (h : length s ≤ 0) where
    at_end : (n : ℕ) → range_lines n r s ≡ ended r
    unfolding range_lines
    at_end zero = rw (no_bytes s h)
    at_end (suc n) = rw (no_bytes s h)

    pub no_task : r.count ≡ 0 → Err (refusal NoTask 0) ≡ w
    unfolding ended
    no_task z = sym (on.left ∙ at_end (max_tasks - r.count) ∙ rw (eq-eqb r.count 0 z))

    pub finish : (r.count ≡ 0 → ⊥) → Ok r ≡ w
    unfolding ended
    finish z = sym (on.left ∙ at_end (max_tasks - r.count) ∙ rw (ne_eqb r.count 0 z))

  module _ (h : 0 < length s) where
    pub too_many : max_tasks ≤ r.count → Err (refusal TooManyTasks (r.count + 1)) ≡ w
    unfolding range_lines
    too_many l = let z : max_tasks - r.count ≡ 0 = omega arith in sym (on.left ∙ rw (z, some_bytes s h))

    module _ (l : r.count < max_tasks) where
      more : max_tasks - r.count ≡ suc (max_tasks - (r.count + 1))
      more = omega arith

      pub bad_line : first_is five_values s ≡ false → Err (refusal BadValueLine (r.count + 1)) ≡ w
      unfolding range_lines
      bad_line b = sym (on.left ∙ rw (more, some_bytes s h, b))

      module _ (line : RangeLine) (d : LineRead s line) where
        pub shorter : length (from s line.length) < length s
        shorter = omega (arith, d.some_bytes, d.within, from_length s line.length)

        pub bad_task : (why : Refusal) → task_checked line.task (r.count + 1) ≡ Err why → Err why ≡ w
        unfolding range_lines or_refused
        bad_task why e = sym (on.left ∙ rw (more, some_bytes s h, d.is, d.task_is, e))

        pub next : task_checked line.task (r.count + 1) ≡ Ok tt → ReadingOn w (with_ranged_task r line.task) (from s line.length)
        unfolding range_lines or_refused with_ranged_task
        next e = record { within = omega arith; left = on.left ∙ rw (more, some_bytes s h, d.is, d.task_is, e, d.rest) }
