-- The invariant: what is left of the text settles the reading, with the tasks so far.
use Rattle.std.proofs.Common.{length}
use Rattle.tasks.specs.Limits.{max_tasks}
use Rattle.ranges.specs.Ranges.{empty_ranges}
use Rattle.quote.specs.Reading.{range_lines}
use Rattle.quote.proofs.RangeLines.{ReadingOn}
use Rattle.quote.proofs.reading.range_lines.Given as goal

abbrev pub invariant-loop-rest : goal.invariant-loop-rest
invariant-loop-rest l = ReadingOn (range_lines max_tasks empty_ranges l.text) l.table l.rest

abbrev pub decreases-loop-rest : goal.decreases-loop-rest
decreases-loop-rest l = length l.rest
