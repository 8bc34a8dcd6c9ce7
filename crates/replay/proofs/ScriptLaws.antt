-- What is printed for a script, by what was found of its first line: `first_unended`, `first_broken` and `first_read`.
use Prim.Native.Nat.{ℕ, ◌≤◌, ◌<◌}
use mathlib.Core.Path.{◌≡◌}
use mathlib.Core.Bool.{false}
use mathlib.Core.List.{List}
use borrow.Author.Tests.{le-ltb}
use lib.ListN.{length, take}
use Rattle.laws.proofs.Parts.{past}
use Rattle.text.specs.Lines.{line_end, has, before}
use Rattle.text.specs.Number.{number_after}
use Rattle.std.specs.Prelude.{Some, None}
use Rattle.text.proofs.Split.{cut, hasnt_of}
use Rattle.script.specs.Words.{cores_word}
use Rattle.replay.specs.Words.{calls_word}
use Rattle.script.specs.Numbers.{max_digits, max_number}
use Rattle.script.specs.WordLine.{word_line}
use Rattle.script.specs.Output.{bad_line}
use Rattle.replay.specs.Script.{max_script_length, printed_after_cores, printed_after_first, printed}

module _ (s : List ℕ) (h : length s ≤ max_script_length) (k : ℕ) (e : k ≡ length (before line_end s)) where
  pub first_unended : length s ≤ k → printed s ≡ bad_line 1
  unfolding printed
  first_unended l = let z : has line_end s ≡ false = hasnt_of line_end s (rw e at l) in rw (le-ltb max_script_length (length s) h, z)

  module _ (l : k < length s) where
    pub first_broken : number_after max_digits max_number cores_word (take k s) ≡ None → printed s ≡ bad_line 1
    unfolding printed printed_after_first
    first_broken b =
        let d = cut line_end s k e l in
        rw (le-ltb max_script_length (length s) h, d.is, ← d.front, b)

    pub first_read :
        (cores : ℕ) → number_after max_digits max_number cores_word (take k s) ≡ Some cores → printed s ≡ printed_after_cores (word_line calls_word (past s k)) cores (past s k)
    unfolding printed printed_after_first
    first_read cores b =
        let d = cut line_end s k e l in
        rw (le-ltb max_script_length (length s) h, d.is, ← d.front, b, d.rest)
