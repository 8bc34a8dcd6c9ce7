-- The opening of an input, by what was found: `no_first_line`, `first_broken`, `log_missing_long`, `log_missing` and `log_found`.
use Prim.Native.Nat.{ℕ, ◌<◌, ◌≤◌}
use mathlib.Core.Path.{◌≡◌, ap, ◌∙◌}
use mathlib.Core.List.{List}
use borrow.Author.Tests.{lt-ltb, le-ltb}
use lib.ListN.{length, take, drop}
use Rattle.laws.proofs.Parts.{past}
use Rattle.text.specs.Lines.{line_end, before}
use Rattle.text.specs.Number.{number_after}
use Rattle.text.proofs.Split.{cut, hasnt_of}
use Rattle.std.proofs.Common.{Some, None, Result, Ok, Err}
use Rattle.tasks.specs.Refusals.{refusal}
use Rattle.tasks.specs.Limits.{max_text_length}
use Rattle.tasks.specs.declared.refusals.Reason.TheVariants.{TextTooLong}
use Rattle.script.specs.Numbers.{max_digits, max_number}
use Rattle.script.specs.Words.{cores_word}
use Rattle.script.specs.WordLine.{word_line}
use Rattle.script.specs.declared.word_line.WordLine.{WordLine}
use Rattle.auditing.specs.Auditor.{refused_auditor}
use Rattle.audit.specs.Words.{log_word}
use Rattle.audit.specs.Opening.{opened_for, opened_after_cores, opened_after_first, opened}

-- a text whose first line has k bytes, or that has none
module _ (s : List ℕ) (k : ℕ) (e : k ≡ length (before line_end s)) where
  pub no_first_line : length s ≤ k → opened s ≡ Err 1
  unfolding opened
  no_first_line h = rw (hasnt_of line_end s (rw e at h))

  module _ (h : k < length s) where
    opened_is : opened s ≡ opened_after_first (number_after max_digits max_number cores_word (take k s)) (past s k)
    unfolding opened
    opened_is = let c = cut line_end s k e h in rw (c.is, ← c.front, ← c.rest)

    pub first_broken : number_after max_digits max_number cores_word (take k s) ≡ None → opened s ≡ Err 1
    unfolding opened_after_first
    first_broken n = opened_is ∙ rw n

    module _ (cores : ℕ) (n : number_after max_digits max_number cores_word (take k s) ≡ Some cores) where
      after_cores : (w : Result WordLine ℕ) → word_line log_word (past s k) ≡ w → opened s ≡ opened_after_cores w cores (past s k)
      unfolding opened_after_first
      after_cores w found = opened_is ∙ rw n (ap (λ (x : Result WordLine ℕ). opened_after_cores x cores (past s k)) found)

      pub log_missing_long :
          (line : ℕ) → word_line log_word (past s k) ≡ Err line → max_text_length < length (past s k)
          → opened s ≡ Ok (refused_auditor (refusal TextTooLong 0))
      unfolding opened_after_cores
      log_missing_long line found long = after_cores _ found ∙ rw (lt-ltb max_text_length (length (past s k)) long)

      pub log_missing : (line : ℕ) → word_line log_word (past s k) ≡ Err line → length (past s k) ≤ max_text_length → opened s ≡ Err line
      unfolding opened_after_cores
      log_missing line found short = after_cores _ found ∙ rw (le-ltb max_text_length (length (past s k)) short)

      pub log_found :
          (w : WordLine) → word_line log_word (past s k) ≡ Ok w → opened s ≡ Ok (opened_for (take w.start (past s k)) cores (drop w.next (past s k)))
      unfolding opened_after_cores
      log_found w found = after_cores _ found
