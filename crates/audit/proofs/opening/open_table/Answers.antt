use Rattle.audit.specs.Opening.{opened_after_reading, opened_for}
use Rattle.audit.proofs.opening.open_table.Goals as goal

pub returns-in-Err : goal.returns-in-Err
unfolding opened_for opened_after_reading
returns-in-Err c = rw (← c.read-reading.ensures, c.in-Err.is) c.refused.ensures

pub returns : goal.returns
unfolding opened_for opened_after_reading
returns c = rw (← c.read-reading.ensures, c.in_default.is, ← c.start-auditor.ensures) c.feed.ensures
