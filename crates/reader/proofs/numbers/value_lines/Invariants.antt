-- The invariant: what is left of the text settles the reading, with the numbers so far.
use Rattle.std.proofs.Common.{◌≤◌, length}
use Rattle.tasks.specs.Limits.{max_tasks}
use Rattle.tasks.specs.Table.{empty_table}
use Rattle.reader.specs.Reading.{value_lines}
use Rattle.reader.proofs.ValueLines.{ReadingOn}
use Rattle.reader.proofs.numbers.value_lines.Given as goal

abbrev pub invariant-loop-rest : goal.invariant-loop-rest
invariant-loop-rest l = record {
  few : length l.rest ≤ length l.text;
  on : ReadingOn l.columns (value_lines l.columns max_tasks empty_table l.text) l.periods l.budgets l.deadlines l.count l.rest;
}

abbrev pub decreases-loop-rest : goal.decreases-loop-rest
decreases-loop-rest l = length l.rest
