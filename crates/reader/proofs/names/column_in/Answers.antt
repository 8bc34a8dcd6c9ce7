-- The fields are compared in turn.
use Rattle.reader.specs.Names.{column_in}
use Rattle.reader.proofs.names.column_in.Goals as goal

pub returns-then-same : goal.returns-then-same
unfolding column_in
returns-then-same c = rw (← c.if-same.ensures)

pub returns-then-same-2 : goal.returns-then-same-2
unfolding column_in
returns-then-same-2 c = rw (← c.if-same.ensures, ← c.if-same-2.ensures)

pub returns-then-same-3 : goal.returns-then-same-3
unfolding column_in
returns-then-same-3 c = rw (← c.if-same.ensures, ← c.if-same-2.ensures, ← c.if-same-3.ensures)

pub returns : goal.returns
unfolding column_in
returns c = rw (← c.if-same.ensures, ← c.if-same-2.ensures, ← c.if-same-3.ensures)
