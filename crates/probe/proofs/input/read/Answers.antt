-- By the first line, and then by those after it.
use Rattle.std.proofs.Common.{sym, ◌∙◌}
use Rattle.probe.specs.Printed.{printed_input}
use Rattle.probe.proofs.Missing.{failed}
use Rattle.probe.proofs.PrintedLaws.{no_machine, machine_is}
use Rattle.probe.proofs.input.read.Goals as goal

pub returns-in_err-first : goal.returns-in_err-first
unfolding printed_input
returns-in_err-first c =
    let missing = c.in_err-first.ensures in
    rw (failed _ _ _ _ missing.value c.from_residual.ensures.1) (no_machine _ (sym c.first_line.ensures ∙ missing.ok_part))

pub slice_bounds-read_entries-count : goal.slice_bounds-read_entries-count
slice_bounds-read_entries-count c = (machine_is _ _ (sym c.first_line.ensures ∙ c.in_ok-first.ensures.ok_part)).within

pub slice_bounds-read_entries-start : goal.slice_bounds-read_entries-start
slice_bounds-read_entries-start c = (machine_is _ _ (sym c.first_line.ensures ∙ c.in_ok-first.ensures.ok_part)).within

pub returns : goal.returns
returns c =
    (machine_is _ _ (sym c.first_line.ensures ∙ c.in_ok-first.ensures.ok_part)).is ∙ rw c.zero_entries.ensures at c.read_entries.ensures
