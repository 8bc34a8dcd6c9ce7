-- The invariant: the entries from i on are still to be read from the rest of the text.
use Rattle.std.proofs.Common.{◌-◌, ◌≡◌}
use Rattle.tasks.specs.Limits.{max_tasks}
use Rattle.probe.specs.Printed.{printed_from}
use Rattle.probe.proofs.input.read_entries.Given as goal

abbrev pub invariant-loop-i : goal.invariant-loop-i
invariant-loop-i l = printed_from l.fn.machine 0 max_tasks l.text ≡ printed_from l.machine l.i (max_tasks - l.i) l.rest
