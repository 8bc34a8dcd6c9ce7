use Rattle.std.proofs.Common.{rules}
use Rattle.script.proofs.OutputLaws.{bad_put_at}
use Rattle.script.proofs.output.put_bad_line_at.Goals as goal

pub returns : goal.returns
returns c = bad_put_at _ (search rules) c.put-at.ensures c.put_numbers.ensures
