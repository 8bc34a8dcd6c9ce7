-- The word, and a line of one number.
use Rattle.text.specs.Output.{refused_line}
use Rattle.text.proofs.Putting.{put_then}
use Rattle.text.proofs.output.put_refused.Goals as goal

pub returns : goal.returns
unfolding refused_line
returns c = put_then c.put-at.ensures c.put_numbers.ensures
