-- What is printed after all parts of an input is what the definition gives for the whole of it: `printed_in_parts`. The first part is full, and then it tells
-- the first line and where the table ends, or that one of the two is too long; or it is the whole input.
use Prim.Native.Nat.{ℕ, ◌+◌, ◌^◌, ◌≤◌, ◌<◌}
use native.Mathlib.Omega.{arith}
use mathlib.Core.Path.{◌≡◌, refl, sym, ap, ◌∙◌}
use mathlib.Core.Logic.{◌⊎◌, inl, inr, ⊎_elim}
use mathlib.Core.Bool.{true, false}
use mathlib.Core.List.{List, [], ◌∷◌, ◌++◌, append-nil}
use lib.ListN.{length, length-append}
use Rattle.laws.proofs.CaseSplits.{by_test}
use Rattle.text.specs.Lines.{line_end, has, before, after}
use Rattle.text.specs.Number.{number_after}
use Rattle.std.proofs.Common.{Option, Some, None}
use Rattle.text.proofs.Split.{here, has_append}
use Rattle.text.proofs.Lengths.{after_short}
use Rattle.text.proofs.Appended.{before_kept, after_kept, before_more}
use Rattle.script.specs.Numbers.{max_digits, max_number}
use Rattle.script.specs.Words.{cores_word}
use Rattle.script.specs.Output.{bad_line}
use Rattle.auditing.specs.Auditor.{whole}
use Rattle.audit.specs.Printed.{printed_after_first, printed}
use Rattle.audit.specs.Opening.{opened_after_first, opened, part_room, PrintedInParts}
use Rattle.audit.proofs.LineAfter.{line_after, parts_after, bad_after}
use Rattle.audit.proofs.AfterCores.{enough_text, cores_after}

-- the number of a first line
abbrev cores_on : List ℕ → Option ℕ
cores_on line = number_after max_digits max_number cores_word line

module _ (first rest : List ℕ) (full : (part_room ≤ length first) ⊎ (rest ≡ [])) where
  -- the first line ends in the first part
  module _ (ended : has line_end first ≡ true) (small : length (first ++ rest) < 2 ^ 64) where
    bytes : length first ≡ length (before line_end first) + 1 + length (after line_end first)
    bytes =
        omega (arith, ap length (here line_end first ended).whole, length-append (before line_end first) (line_end ∷ after line_end first))

    by_number :
        (number : Option ℕ) → cores_on (before line_end first) ≡ number
        → line_after (opened_after_first number (after line_end first)) rest ≡ printed_after_first number (after line_end first ++ rest)
    unfolding opened_after_first printed_after_first
    by_number (Some cores) e =
        let text = after line_end first in
        let short = after_short max_digits max_number cores_word (before line_end first) cores e in
        let enough : (enough_text ≤ length text) ⊎ (rest ≡ []) = ⊎_elim (λ h. inl (omega (arith, bytes))) inr full in
        cores_after text rest cores (omega (arith, bytes, length-append first rest, length-append text rest)) enough
    by_number None e = bad_after rest 1

    first_ended : line_after (opened first) rest ≡ printed (first ++ rest)
    unfolding opened printed
    first_ended =
        rw (ended, has_append line_end first rest, ended, before_kept line_end first rest ended, after_kept line_end first rest ended)
        (by_number (cores_on (before line_end first)) refl)

  -- it does not: then it is not ended at all, or it is too long to be `CORES m`
  module _ (open-end : has line_end first ≡ false) where
    long_number :
        part_room ≤ length first → (number : Option ℕ) → cores_on (before line_end (first ++ rest)) ≡ number
        → printed_after_first number (after line_end (first ++ rest)) ≡ bad_line 1
    unfolding printed_after_first
    long_number h (Some cores) e =
        let short = after_short max_digits max_number cores_word (before line_end (first ++ rest)) cores e in
        let line : length (before line_end (first ++ rest)) ≡ length (first ++ before line_end rest) = ap length (before_more line_end first rest open-end) in
        absurd (omega (arith, length-append first (before line_end rest)))
    long_number h None e = refl

    long_line : part_room ≤ length first → printed (first ++ rest) ≡ bad_line 1
    unfolding printed
    long_line h =
        by_test (has line_end (first ++ rest))
        (λ t. rw t (long_number h (cores_on (before line_end (first ++ rest))) refl))
        (λ f. rw f)

    only_line : rest ≡ [] → printed (first ++ rest) ≡ bad_line 1
    unfolding printed
    only_line none = rw (none, append-nil first, open-end)

    first_open : line_after (opened first) rest ≡ printed (first ++ rest)
    unfolding opened
    first_open = rw open-end (bad_after rest 1 ∙ sym (⊎_elim long_line only_line full))

  opened_after : length (first ++ rest) < 2 ^ 64 → line_after (opened first) rest ≡ printed (first ++ rest)
  opened_after small = by_test (has line_end first) (λ t. first_ended t small) first_open

pub printed_in_parts : PrintedInParts
unfolding PrintedInParts
printed_in_parts first parts full small = parts_after parts (opened first) ∙ opened_after first (whole parts) full small
