-- The ranged task of the value line that a text begins with, by what was found of the line. Others cite `unended`, `not_five` and `line_read`, what the reader
-- answers; `LineRead`, what an answer says of the text, with `line_is`; and `line_broken`.
use Prim.Native.Nat.{ℕ, ◌+◌, ◌≤◌, ◌<◌}
use native.Mathlib.Omega.{arith}
use mathlib.Core.Path.{◌≡◌, refl, sym, ◌∙◌}
use mathlib.Core.Bool.{Bool, true, false, ◌&&◌}
use mathlib.Core.List.{List}
use lib.Dec.{eqb}
use lib.ListN.{length, get_or, take, replicate}
use Rattle.std.proofs.Common.{Option, Some, None}
use Rattle.laws.proofs.CaseSplits.{by_cond, clash}
use Rattle.laws.proofs.Parts.{from, from_drop}
use Rattle.text.specs.Lines.{line_end, before, after, first_is, field, field_count}
use Rattle.text.specs.Number.{decimal}
use Rattle.text.specs.Fields.{each_number, are_numbers, FilledFromLine}
use Rattle.text.proofs.Split.{Cut, cut, here}
use Rattle.text.proofs.FirstLine.{is_ended, not_ended_lem, first_is_lem}
use Rattle.text.proofs.NumberLaws.{no_limit}
use Rattle.text.proofs.FilledFromLine.{entry_is}
use Rattle.reader.specs.Value.{is_value}
use Rattle.quote.specs.declared.reading.RangeLine.{RangeLine}
use Rattle.quote.specs.Reading.{five_values, ranged_task_of}
use Rattle.quote.specs.Parts.{range_line}

-- the digits of a value, and the largest of so many
abbrev pub digits : ℕ
digits = 7

abbrev pub largest : ℕ
largest = 9_999_999

-- six tests in a row, nested to either side
six : (a b c d e f : Bool) → (a && (b && (c && (d && (e && (f && true)))))) ≡ (a && b && c && d && e && f)
six false b c d e f = refl
six true false c d e f = refl
six true true false d e f = refl
six true true true false e f = refl
six true true true true false f = refl
six true true true true true false = refl
six true true true true true true = refl

five_are : (l : List ℕ) → are_numbers digits largest 5 l ≡ five_values l
unfolding are_numbers each_number five_values is_value field
five_are l =
    simp (no_limit digits largest (omega arith))
    (six (eqb (field_count l) 5) (is_value (field 0 l)) (is_value (field 1 l)) (is_value (field 2 l)) (is_value (field 3 l)) (is_value (field 4 l)))

module _ (s : List ℕ) (k : ℕ) (e : k ≡ length (before line_end s)) where
  pub unended : length s ≤ k → None ≡ range_line s
  unfolding range_line
  unended h = rw (not_ended_lem five_values s k e h)

  module _ (h : k < length s) where
    pub not_five : are_numbers digits largest 5 (take k s) ≡ false → None ≡ range_line s
    unfolding range_line
    not_five n = rw (first_is_lem five_values s k e h, ← five_are (take k s), n)

    pub line_read :
        (a : List ℕ) → FilledFromLine digits largest (take k s) (replicate 5 0) a true
        → Some
        (record {
          task =
              record {
                period = record { least = get_or a 0 0; most = get_or a 1 0 };
                budget = record { least = get_or a 2 0; most = get_or a 3 0 };
                deadline = get_or a 4 0;
              };
          length = k + 1;
        })
        ≡ range_line s
    unfolding range_line ranged_task_of
    line_read a n =
        let line : Cut line_end s k = cut line_end s k e h in
        let is : (i : ℕ) → i < 5 → get_or a i 0 ≡ decimal (field i (take k s)) = entry_is digits largest (take k s) (replicate 5 0) a n in
        rw (first_is_lem five_values s k e h, ← five_are (take k s), ← n.is, ← e, ← line.front)
        (rw (← is 0 (omega arith), ← is 1 (omega arith), ← is 2 (omega arith), ← is 3 (omega arith), ← is 4 (omega arith)))

-- the text s begins with this value line
pub record LineRead (s : List ℕ) (line : RangeLine) : Type 0 where
  pub is : first_is five_values s ≡ true
  pub task_is : ranged_task_of (before line_end s) ≡ line.task
  pub some_bytes : 0 < line.length
  pub within : line.length ≤ length s
  pub rest : after line_end s ≡ from s line.length

-- no answer is both a line and none
line_not_none : {A : Type 0} (line : RangeLine) (o : Option RangeLine) → o ≡ None → o ≡ Some line → A
line_not_none line o none some = clash cc

pub line_is : (s : List ℕ) (line : RangeLine) → range_line s ≡ Some line → LineRead s line
unfolding range_line
line_is s line =
    by_cond (λ (o : Option RangeLine). o ≡ Some line → LineRead s line) (first_is five_values s)
    (λ b e.
    let h = here line_end s (is_ended five_values s b) in
    let q : length (before line_end s) + 1 ≡ line.length = cc in
    record {
      is = b;
      task_is = cc;
      some_bytes = omega arith;
      within = omega (arith, h.within);
      rest = rw (← q) (sym h.rest ∙ sym (from_drop s (length (before line_end s) + 1)));
    })
    (λ b. line_not_none line None refl)

pub line_broken : (s : List ℕ) → range_line s ≡ None → first_is five_values s ≡ false
unfolding range_line
line_broken s =
    by_cond (λ (o : Option RangeLine). o ≡ None → first_is five_values s ≡ false) (first_is five_values s)
    (λ b e. line_not_none _ _ e refl)
    (λ b e. b)
