-- The arrays are as they were filled in, or zeros again after a refusal.
use Rattle.std.proofs.Common.{sym}
use Rattle.tasks.proofs.Numbers.{Long}
use Rattle.reader.proofs.NumbersRead.{answer_is, kept, cleared}
use Rattle.reader.proofs.numbers.read_arrays.Goals as goal

pub returns-then-refused : goal.returns-then-refused
returns-then-refused c =
    let z = c.clear-then-refused.ensures in
    let n = cleared _ _ _ c.fill-counted.ensures.text_read (sym c.if-refused.ensures.value) _ _ _ z.0 z.1 z.2 in
    record { counted = answer_is _ _ _ c.fill-counted.ensures.text_read; periods = n.periods; budgets = n.budgets; deadlines = n.deadlines }

pub returns-else-refused : goal.returns-else-refused
returns-else-refused c =
    let l = c.fill-counted.ensures.long in
    let long : Long c.fill-counted.new.periods c.fill-counted.new.budgets c.fill-counted.new.deadlines =
    record { periods_long = l.0; budgets_long = l.1; deadlines_long = l.2 } in
    let n = kept _ _ _ _ _ c.fill-counted.ensures.text_read (sym c.if-refused.ensures.value) long in
    record { counted = answer_is _ _ _ c.fill-counted.ensures.text_read; periods = n.periods; budgets = n.budgets; deadlines = n.deadlines }
