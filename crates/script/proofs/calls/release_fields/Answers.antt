use Rattle.std.proofs.Common.{◌≡◌, ℕ, ◌∙◌, List, get_or, replicate, true, false, Some, None, sym, arith}
use Rattle.text.specs.Fields.{are_numbers, FilledFromLine}
use Rattle.text.proofs.FilledFromLine.{entry_is}
use Rattle.machine.specs.declared.call.Call.TheVariants.{Release}
use Rattle.script.specs.Numbers.{max_digits, max_number}
use Rattle.script.specs.Calls.{release_of}
use Rattle.script.proofs.calls.release_fields.Goals as goal

-- fields that are two numbers, and others
no_release : (f : List ℕ) → are_numbers max_digits max_number 2 f ≡ false → None ≡ release_of f
unfolding release_of
no_release f e = rw e

release_read : (f a : List ℕ) → FilledFromLine max_digits max_number f (replicate 2 0) a true → Some (Release (get_or a 0 0) (get_or a 1 0)) ≡ release_of f
unfolding release_of
release_read f a n =
    let is = entry_is max_digits max_number f (replicate 2 0) a n in
    rw (← n.is, ← is 0 (omega arith), ← is 1 (omega arith))

pub returns-then-not-fill_from_line : goal.returns-then-not-fill_from_line
returns-then-not-fill_from_line c = no_release _ (sym c.fill_from_line.ensures.is ∙ c.if-not-fill_from_line.true)

pub returns : goal.returns
returns c = release_read _ _ (rw c.if-not-fill_from_line.false at c.fill_from_line.ensures)
