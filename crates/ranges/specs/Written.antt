-- Ranged tasks and tables written out, for worked examples.
use Rattle.std.specs.Prelude.{ℕ, List, [], ◌∷◌}
use Rattle.ranges.specs.declared.task.RangedTask.{RangedTask}
use Rattle.ranges.specs.declared.table.RangedTable.{RangedTable}
use Rattle.ranges.specs.Ranges.{empty_ranges, with_ranged_task}

-- a ranged task by its five numbers
unfoldable pub ranged : (least-period most-period least-budget most-budget deadline : ℕ) → RangedTask
ranged least-period most-period least-budget most-budget deadline =
    record {
      period = record { least = least-period; most = most-period };
      budget = record { least = least-budget; most = most-budget };
      deadline = deadline;
    }

-- ranges of one value each
unfoldable pub fixed : (period budget deadline : ℕ) → RangedTask
fixed period budget deadline = ranged period period budget budget deadline

-- a ranged table with these tasks added at its end, in order
unfoldable pub ranges_with : RangedTable → List RangedTask → RangedTable
ranges_with r [] = r
ranges_with r (k ∷ tasks) = ranges_with (with_ranged_task r k) tasks

-- the ranged table of these tasks
unfoldable pub ranges_of : List RangedTask → RangedTable
ranges_of tasks = ranges_with empty_ranges tasks
