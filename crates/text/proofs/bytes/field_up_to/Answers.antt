-- As many first bytes as `find` says.
use Rattle.std.proofs.Common.{sym}
use lib.Seq.{length-take-le}
use Rattle.text.proofs.Split.{before_fits, before_front}
use Rattle.text.proofs.bytes.field_up_to.Goals as goal

pub slice_bounds-result-end : goal.slice_bounds-result-end
slice_bounds-result-end c = sym (length-take-le _ _ (rw c.find-length.ensures (before_fits _ _)))

pub returns : goal.returns
returns c = rw c.find-length.ensures (before_front _ _)
