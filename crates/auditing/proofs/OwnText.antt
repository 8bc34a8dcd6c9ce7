-- The log that is written of some lines is read as these lines. Others cite: `Small`, `Accepts`, that each of some lines has values of 32 bits and is taken by
-- the machine that the lines before gave; and `own_text`, that then their log is accepted.
use Prim.Native.Nat.{ℕ, suc, ◌≤◌}
use native.Mathlib.Omega.{arith}
use mathlib.Core.Path.{◌≡◌, refl}
use mathlib.Core.Bool.{true, false}
use mathlib.Core.List.{List, [], ◌∷◌, ◌++◌, append_assoc}
use Rattle.text.specs.Lines.{line_end, has, first_is, is_empty, lines, unended}
use Rattle.text.specs.Words.{same_bytes}
use Rattle.text.proofs.Joined.{has_joined, before_joined, after_joined, lines_joined, unended_joined}
use Rattle.text.proofs.NumbersRead.{three_text, three_line, ThreeRead, three_read}
use Rattle.machine.specs.declared.machine.Machine.{Machine}
use Rattle.auditing.specs.Log.{names_line, is_names_line, value_digits, max_value, is_value_line, values_of}
use Rattle.auditing.specs.Line.{line_taken, after_line}
use Rattle.auditing.specs.Audit.{accepted_log, audited_lines, audited_log}
use Rattle.auditing.specs.OwnLog.{line_text, lines_text}
use Rattle.auditing.specs.declared.line.LogLine.{LogLine}

-- a line of values of 32 bits
pub record Small (line : LogLine) : Type 0 where
  pub released_small : line.released ≤ max_value
  pub finished_small : line.finished ≤ max_value
  pub ran_small : line.ran ≤ max_value

-- each of some lines is small, and is taken by the machine that the lines before gave, the first by the machine m
pub data Accepts : Machine → List LogLine → Type 0 where
  no_line : {m : Machine} → Accepts m []
  one_line : {m : Machine} {line : LogLine} {ls : List LogLine} →
      Small line → line_taken m line ≡ true → Accepts (after_line m line) ls → Accepts m (line ∷ ls)

-- the bytes of a line, without its byte 10
unfoldable bytes_of : LogLine → List ℕ
bytes_of line = three_text line.released line.finished line.ran

line_read : (line : LogLine) → Small line → ThreeRead value_digits max_value line.released line.finished line.ran (bytes_of line)
unfolding bytes_of
line_read line small =
    three_read 9 max_value (omega arith) (omega arith) line.released line.finished line.ran
    small.released_small small.finished_small small.ran_small

is_value_line_lem : (line : LogLine) → Small line → is_value_line (bytes_of line) ≡ true
unfolding is_value_line
is_value_line_lem line small = (line_read line small).are

read_back : (line : LogLine) → Small line → values_of (bytes_of line) ≡ line
unfolding values_of
read_back line small = let r = line_read line small in rw (r.first, r.second, r.third)

first_text : (line : LogLine) (ls : List LogLine) → lines_text (line ∷ ls) ≡ bytes_of line ++ line_end ∷ lines_text ls
unfolding lines_text line_text bytes_of
first_text line ls = rw (three_line line.released line.finished line.ran, append_assoc)

lines_accepted : {m : Machine} {ls : List LogLine} → Accepts m ls → (n : ℕ) → audited_lines m n (lines (lines_text ls)) (unended (lines_text ls)) ≡ accepted_log
unfolding audited_lines lines_text lines unended is_empty
lines_accepted no_line n = refl
lines_accepted (one_line {m} {line} {ls} small taken more) n =
    let l = bytes_of line in
    let rest = lines_text ls in
    let whole = (line_read line small).unbroken in
    rw (
      first_text line ls,
      lines_joined l rest whole,
      unended_joined l rest whole,
      is_value_line_lem line small,
      read_back line small,
      taken,
    )
    (lines_accepted more (suc n))

names_whole : has line_end names_line ≡ false
unfolding has
names_whole = refl

names_are : is_names_line names_line ≡ true
unfolding is_names_line same_bytes
names_are = refl

pub own_text : (m : Machine) (ls : List LogLine) → Accepts m ls → audited_log m (names_line ++ line_end ∷ lines_text ls) ≡ accepted_log
unfolding audited_log first_is
own_text m ls all =
    let rest = lines_text ls in
    rw (
      has_joined line_end names_line rest,
      before_joined line_end names_line rest names_whole,
      after_joined line_end names_line rest names_whole,
      names_are,
    )
    (lines_accepted all 1)
