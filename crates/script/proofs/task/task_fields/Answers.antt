use Rattle.std.proofs.Common.{◌≡◌, ℕ, ◌∙◌, List, get_or, replicate, true, false, Some, None, sym, arith}
use Rattle.text.specs.Fields.{are_numbers, FilledFromLine}
use Rattle.text.proofs.FilledFromLine.{entry_is}
use Rattle.script.specs.Numbers.{max_digits, max_number}
use Rattle.script.specs.Calls.{fields_task, task_fields}
use Rattle.script.proofs.task.task_fields.Goals as goal

-- fields that are three numbers, and others
no_task : (f : List ℕ) → are_numbers max_digits max_number 3 f ≡ false → None ≡ task_fields f
unfolding task_fields
no_task f e = rw e

task_read : (f a : List ℕ) → FilledFromLine max_digits max_number f (replicate 3 0) a true → Some (record { period = get_or a 0 0; budget = get_or a 1 0; deadline = get_or a 2 0 }) ≡ task_fields f
unfolding task_fields fields_task
task_read f a n =
    let is = entry_is max_digits max_number f (replicate 3 0) a n in
    rw (← n.is, ← is 0 (omega arith), ← is 1 (omega arith), ← is 2 (omega arith))

pub returns-then-not-fill_from_line : goal.returns-then-not-fill_from_line
returns-then-not-fill_from_line c = no_task _ (sym c.fill_from_line.ensures.is ∙ c.if-not-fill_from_line.true)

pub returns : goal.returns
returns c = task_read _ _ (rw c.if-not-fill_from_line.false at c.fill_from_line.ensures)
