-- The word, the line of two numbers, the entries, and what is held.
use Rattle.std.proofs.Common.{rules}
use Rattle.probe.proofs.Showing.{machine_put}
use Rattle.probe.proofs.output.put_machine.Goals as goal

pub returns : goal.returns
returns c =
    machine_put c.args.machine (search rules) (search rules) c.put.ensures c.put_numbers.ensures c.put_entries.ensures c.put_held.ensures
