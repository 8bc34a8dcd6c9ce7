-- What is printed after a line `CORES m`, where the first part of the text after it is known and the rest follows: `cores_after`. Others cite `enough_text`
-- too, how many bytes of that text tell where the table ends.
use Prim.Native.Nat.{ℕ, ◌^◌, ◌≤◌, ◌<◌}
use native.Mathlib.Omega.{arith}
use mathlib.Core.Path.{◌≡◌, refl, sym, ◌∙◌}
use mathlib.Core.Logic.{◌⊎◌, ⊎_elim}
use mathlib.Core.Bool.{cond}
use mathlib.Core.List.{List, [], ◌++◌, append-nil}
use borrow.Author.Tests.{lt-ltb}
use lib.Dec.{ltb}
use lib.ListN.{length, take, drop, length-append, length-drop}
use lib.Seq.{length-take-le, take-append-le, drop-append-le}
use Rattle.laws.proofs.CaseSplits.{of_either}
use Rattle.std.proofs.Common.{Result, Ok, Err}
use Rattle.tasks.specs.Refusals.{number_of, refusal}
use Rattle.tasks.specs.Limits.{max_text_length}
use Rattle.tasks.specs.declared.refusals.Reason.TheVariants.{TextTooLong}
use Rattle.script.specs.WordLine.{word_line}
use Rattle.script.specs.declared.word_line.WordLine.{WordLine}
use Rattle.script.proofs.WordLineLaws.{found_within}
use Rattle.script.proofs.WordLineMore.{found_more, missing_late}
use Rattle.auditing.specs.Auditor.{refused_auditor}
use Rattle.audit.specs.Words.{log_word}
use Rattle.audit.specs.Printed.{refusal_line, printed_after_cores}
use Rattle.audit.specs.Opening.{Opening, opened_for, opened_after_cores}
use Rattle.audit.proofs.LineAfter.{line_after, bad_after, refused_after, table_after_lem, too_long}

-- a text of 4,096 bytes and one more, and the bytes of the word `LOG`
abbrev pub enough_text : ℕ
enough_text = 4_100

module _ (text rest : List ℕ) (cores : ℕ) where
  -- the line `LOG` is in the first part
  found :
      length (text ++ rest) < 2 ^ 64 → (w : WordLine) → word_line log_word text ≡ Ok w
      → line_after (Ok (opened_for (take w.start text) cores (drop w.next text))) rest
      ≡ printed_after_cores (word_line log_word (text ++ rest)) cores (text ++ rest)
  unfolding printed_after_cores
  found small w e =
      let within = found_within log_word text w e in
      let fits : length (drop w.next text ++ rest) < 2 ^ 64 =
      omega (arith, length-append text rest, length-append (drop w.next text) rest, length-drop w.next text)
      in
      rw (
        found_more log_word text rest w e,
        take-append-le w.start text rest within.ends,
        drop-append-le w.next text rest within.starts,
      )
      (table_after_lem rest cores (drop w.next text) fits (take w.start text))

  module _ (n : ℕ) (e : word_line log_word text ≡ Err n) where
    unfoldable missing : Opening
    missing = cond (ltb max_text_length (length text)) (Ok (refused_auditor (refusal TextTooLong 0))) (Err n)

    -- it is missing, and nothing follows
    missing_all : rest ≡ [] → line_after missing rest ≡ printed_after_cores (word_line log_word (text ++ rest)) cores (text ++ rest)
    unfolding missing printed_after_cores
    missing_all none =
        rw (none, append-nil text, e)
        (of_either (λ (o : Opening). line_after o []) (ltb max_text_length (length text))
        (refused_after [] (refusal TextTooLong 0))
        (bad_after [] n))

    -- it is missing in a long text: wherever it stands, the table is too long
    module _ (long : enough_text ≤ length text) where
      long_whole :
          (w : Result WordLine ℕ) → word_line log_word (text ++ rest) ≡ w → printed_after_cores w cores (text ++ rest) ≡ refusal_line (number_of TextTooLong) 0
      unfolding printed_after_cores
      long_whole (Ok w) f =
          let within = (found_within log_word (text ++ rest) w f).ends in
          let late = missing_late log_word text rest n w e f in
          too_long (take w.start (text ++ rest)) cores (drop w.next (text ++ rest)) (omega (arith, length-take-le w.start (text ++ rest) within))
      long_whole (Err line) f = rw (lt-ltb max_text_length (length (text ++ rest)) (omega (arith, length-append text rest)))

      missing_long : line_after missing rest ≡ printed_after_cores (word_line log_word (text ++ rest)) cores (text ++ rest)
      unfolding missing
      missing_long =
          rw (lt-ltb max_text_length (length text) (omega arith))
          (refused_after rest (refusal TextTooLong 0) ∙ sym (long_whole (word_line log_word (text ++ rest)) refl))

  module _ (small : length (text ++ rest) < 2 ^ 64) (enough : (enough_text ≤ length text) ⊎ (rest ≡ [])) where
    by_word :
        (w : Result WordLine ℕ) → word_line log_word text ≡ w
        → line_after (opened_after_cores w cores text) rest ≡ printed_after_cores (word_line log_word (text ++ rest)) cores (text ++ rest)
    unfolding opened_after_cores missing
    by_word (Ok w) e = found small w e
    by_word (Err n) e = ⊎_elim (missing_long n e) (missing_all n e) enough

    pub cores_after :
        line_after (opened_after_cores (word_line log_word text) cores text) rest
        ≡ printed_after_cores (word_line log_word (text ++ rest)) cores (text ++ rest)
    cores_after = by_word (word_line log_word text) refl
