-- By the line of an entry, and then by the lines after them.
use Rattle.std.proofs.Common.{sym, ◌∙◌, ◌≡◌, ◌-◌, arith}
use Rattle.tasks.specs.Limits.{max_tasks}
use Rattle.probe.specs.Printed.{printed_from, printed_input}
use Rattle.probe.proofs.Missing.{failed}
use Rattle.probe.proofs.PrintedLaws.{no_entry, entry_is}
use Rattle.probe.proofs.input.read_entries.Goals as goal

pub returns-in_err-entry : goal.returns-in_err-entry
unfolding printed_input
returns-in_err-entry c =
    let missing = c.in_err-entry.ensures in
    rw (failed _ _ _ _ missing.value c.from_residual.ensures.1)
    (c.loop-i.invariant ∙ no_entry _ _ _ c.loop-i-test.true (sym c.entry_line.ensures ∙ missing.ok_part))

pub slice_bounds-rest-count : goal.slice_bounds-rest-count
slice_bounds-rest-count c =
    (entry_is _ c.args.machine _ c.loop-i-test.true _ (sym c.entry_line.ensures ∙ c.in_ok-entry.ensures.ok_part)).within

pub slice_bounds-rest-start : goal.slice_bounds-rest-start
slice_bounds-rest-start c =
    (entry_is _ c.args.machine _ c.loop-i-test.true _ (sym c.entry_line.ensures ∙ c.in_ok-entry.ensures.ok_part)).within

pub loop-i-preserved : goal.loop-i-preserved
loop-i-preserved c =
    c.loop-i.invariant
    ∙ rw c.with_entry-machine.ensures (entry_is _ _ _ c.loop-i-test.true _ (sym c.entry_line.ensures ∙ c.in_ok-entry.ensures.ok_part)).is

pub returns : goal.returns
unfolding printed_from
returns c =
    let none : max_tasks - c.loop-i.i ≡ 0 = omega arith in
    c.loop-i.invariant ∙ rw none c.read_held.ensures
