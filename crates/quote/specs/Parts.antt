-- The contract of a private function of the reading. `reading` does not rest on it.
use Rattle.std.specs.Prelude.{ℕ, ◌+◌, List, cond, length, Option, Some, None}
use Rattle.text.specs.Lines.{line_end, before, first_is}
use Rattle.quote.specs.declared.reading.RangeLine.{RangeLine}
use Rattle.quote.specs.Reading.{five_values, ranged_task_of}

-- the ranged task of the value line that a text begins with, and how many bytes the line has with its byte 10
unfoldable pub range_line : List ℕ → Option RangeLine
range_line s =
    let l = before line_end s in
    cond (first_is five_values s) (Some (record { task = ranged_task_of l; length = length l + 1 })) None
