-- Its eight numbers are those of the line.
use Rattle.std.proofs.Common.{rules}
use Rattle.laws.proofs.Booleans.{bool_byte_lem}
use Rattle.probe.specs.Output.{entry_line}
use Rattle.probe.proofs.Showing.{entry_few}
use Rattle.probe.proofs.output.put_entry.Goals as goal

pub returns : goal.returns
unfolding entry_line
returns c =
    let a = c.args in
    record {
      whole = rw (← bool_byte_lem a.job.«open») c.put_numbers.ensures;
      few = entry_few a.task a.job a.core (search rules) (search rules) (search rules) (search rules) (search rules) (search rules) (search rules);
    }
