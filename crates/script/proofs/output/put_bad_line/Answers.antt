use Rattle.std.proofs.Common.{rules}
use Rattle.script.proofs.OutputLaws.{bad_put}
use Rattle.script.proofs.output.put_bad_line.Goals as goal

pub returns : goal.returns
returns g c = bad_put _ (search rules) c.put.ensures c.put_numbers.ensures
