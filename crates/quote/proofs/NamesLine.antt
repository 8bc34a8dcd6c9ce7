-- The reading of a text by its length and its names line: `too_long`, `names_unended`, `not_names` and `names_read`.
use Prim.Native.Nat.{ℕ, ◌≤◌, ◌<◌}
use mathlib.Core.Path.{◌≡◌}
use mathlib.Core.Bool.{true, false}
use mathlib.Core.List.{List}
use borrow.Author.Tests.{lt-ltb, le-ltb}
use lib.ListN.{length, take}
use Rattle.laws.proofs.Parts.{past}
use Rattle.text.specs.Lines.{line_end, before}
use Rattle.text.specs.Words.{same_bytes}
use Rattle.text.proofs.Split.{cut}
use Rattle.text.proofs.FirstLine.{not_ended_lem, first_is_lem}
use Rattle.tasks.specs.Limits.{max_tasks, max_text_length}
use Rattle.std.proofs.Common.{Err}
use Rattle.tasks.specs.Refusals.{refusal}
use Rattle.tasks.specs.declared.refusals.Reason.TheVariants.{TextTooLong, BadNamesLine}
use Rattle.ranges.specs.Ranges.{empty_ranges}
use Rattle.quote.specs.Names.{range_names}
use Rattle.quote.specs.Reading.{is_names, range_lines, reading}

module _ (s : List ℕ) where
  pub too_long : max_text_length < length s → Err (refusal TextTooLong 0) ≡ reading s
  unfolding reading
  too_long h = rw (lt-ltb max_text_length (length s) h)

  module _ (fits : length s ≤ max_text_length) (k : ℕ) (e : k ≡ length (before line_end s)) where
    pub names_unended : length s ≤ k → Err (refusal BadNamesLine 0) ≡ reading s
    unfolding reading
    names_unended h = rw (le-ltb max_text_length (length s) fits, not_ended_lem is_names s k e h)

    module _ (h : k < length s) where
      pub not_names : same_bytes (take k s) range_names ≡ false → Err (refusal BadNamesLine 0) ≡ reading s
      unfolding reading is_names
      not_names n = rw (le-ltb max_text_length (length s) fits, first_is_lem is_names s k e h, n)

      pub names_read : same_bytes (take k s) range_names ≡ true → range_lines max_tasks empty_ranges (past s k) ≡ reading s
      unfolding reading is_names
      names_read n = rw (le-ltb max_text_length (length s) fits, first_is_lem is_names s k e h, n, ← (cut line_end s k e h).rest)
