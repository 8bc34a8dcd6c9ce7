-- The invariant: the lines of fewer cores were put, and this number has a line or is the first that has none.
use Rattle.std.proofs.Common.{◌≡◌, ◌+◌, ◌-◌, ◌≤◌}
use Rattle.text.specs.Output.{put}
use Rattle.lines.specs.Printed.{lines_up_to}
use Rattle.lines.proofs.put_lines.Given as goal

abbrev pub invariant-loop-cores : goal.invariant-loop-cores
invariant-loop-cores g l = (l.cores ≤ l.cores-end + 1) × (l.output ≡ put l.initial.output (lines_up_to (g.L.Lines.line l.lines) (l.cores - 1)))
