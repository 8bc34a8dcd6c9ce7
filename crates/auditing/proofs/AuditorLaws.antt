-- The auditor's answer, its lines and its feeding, one law for each outcome. Others cite, by what the auditor has found: `still_on`, `answer_found`,
-- `answer_unended`, `answer_nameless` and `answer_accepted`; by the line that is ended `value_line`, `value_broken`, `value_offends`, `value_taken`,
-- `names_broken` and `names_read`; by the next byte `byte_ends`, `byte_kept` and `byte_dropped`; `fed_next`, one byte of a part; `fed_found`, that past an
-- answer nothing changes it; and `fed_whole`, that parts are fed one after the other.
use Prim.Native.Nat.{ℕ, ◌+◌, ◌≤◌, ◌<◌}
use mathlib.Core.Path.{◌≡◌, refl, sym, ◌∙◌}
use Rattle.std.proofs.Common.{Err, Ok}
use native.Mathlib.Omega.{arith}
use mathlib.Core.Bool.{true, false}
use mathlib.Core.List.{List, [], ◌∷◌, ◌++◌}
use native.Mathlib.Numerals.{add-one}
use borrow.Author.Tests.{lt-ltb, le-ltb, eq-eqb, ne_eqb}
use lib.ListN.{length, get_or, set, drop}
use lib.Seq.{drop-cons}
use Rattle.text.specs.Lines.{line_end}
use Rattle.auditing.specs.Log.{is_names_line, is_value_line, values_of}
use Rattle.auditing.specs.Line.{line_taken, after_line}
use Rattle.auditing.specs.Auditor.{broken, line_room, goes_on, with_byte, kept_line, on_next_line, ended_by, after_value_line, with_line}
use Rattle.auditing.specs.Auditor.{fed_byte, fed, answer_of, fed_parts, whole}
use Rattle.auditing.specs.declared.auditor.Audit.TheVariants.{Accepted, Offends}
use Rattle.auditing.specs.declared.auditor.Auditor.{Auditor}

module _ (a : Auditor) where
  pub answer_found : goes_on a.answer ≡ false → answer_of a ≡ a.answer
  unfolding answer_of
  answer_found e = rw e

  module _ (on : a.answer ≡ Ok Accepted) where
    pub still_on : goes_on a.answer ≡ true
    unfolding goes_on
    still_on = rw on

    pub answer_unended : 0 < a.used → answer_of a ≡ Err (broken a.line)
    unfolding answer_of goes_on
    answer_unended h = rw (on, lt-ltb 0 a.used h)

    pub answer_nameless : a.used ≡ 0 → a.line ≡ 0 → answer_of a ≡ Err (broken 0)
    unfolding answer_of goes_on
    answer_nameless u e = rw (on, u, e)

    pub answer_accepted : a.used ≡ 0 → (a.line ≡ 0 → ⊥) → answer_of a ≡ Ok Accepted
    unfolding answer_of goes_on
    answer_accepted u ne = rw (on, u, ne_eqb a.line 0 ne)

  module _ (l : List ℕ) where
    pub value_broken : is_value_line l ≡ false → after_value_line a l ≡ ended_by a (Err (broken a.line))
    unfolding after_value_line
    value_broken e = rw e

    pub value_offends : is_value_line l ≡ true → line_taken a.machine (values_of l) ≡ false → after_value_line a l ≡ ended_by a (Ok (Offends a.line))
    unfolding after_value_line
    value_offends e f = rw (e, f)

    pub value_taken :
        is_value_line l ≡ true → line_taken a.machine (values_of l) ≡ true → after_value_line a l ≡ on_next_line a (after_line a.machine (values_of l))
    unfolding after_value_line
    value_taken e f = rw (e, f)

    pub value_line : 0 < a.line → with_line a l ≡ after_value_line a l
    unfolding with_line
    value_line h = rw (ne_eqb a.line 0 (λ e. omega arith))

    pub names_broken : a.line ≡ 0 → is_names_line l ≡ false → with_line a l ≡ ended_by a (Err (broken 0))
    unfolding with_line
    names_broken e f = rw (eq-eqb a.line 0 e, f)

    pub names_read : a.line ≡ 0 → is_names_line l ≡ true → with_line a l ≡ on_next_line a a.machine
    unfolding with_line
    names_read e f = rw (eq-eqb a.line 0 e, f)

  -- one byte more
  pub fed_next : (s : List ℕ) (i : ℕ) → i < length s → fed a (drop i s) ≡ fed (fed_byte a (get_or s i 0)) (drop (i + 1) s)
  unfolding fed
  fed_next s i h = rw (drop-cons s i 0 h, add-one i)

  module _ (on : goes_on a.answer ≡ true) (byte : ℕ) where
    pub byte_ends : byte ≡ line_end → fed_byte a byte ≡ with_line a (kept_line a)
    unfolding fed_byte
    byte_ends e = rw (on, eq-eqb byte line_end e)

    pub byte_kept :
        (byte ≡ line_end → ⊥) → a.used < line_room
        → fed_byte a byte
        ≡ record { answer = a.answer; machine = a.machine; line = a.line; kept = set a.kept a.used byte; used = a.used + 1 }
    unfolding fed_byte with_byte
    byte_kept ne h = rw (on, ne_eqb byte line_end ne, lt-ltb a.used line_room h)

    pub byte_dropped : (byte ≡ line_end → ⊥) → line_room ≤ a.used → fed_byte a byte ≡ a
    unfolding fed_byte with_byte
    byte_dropped ne h = rw (on, ne_eqb byte line_end ne, le-ltb a.used line_room h)

  pub fed_found : (s : List ℕ) → goes_on a.answer ≡ false → fed a s ≡ a
  unfolding fed fed_byte
  fed_found [] e = refl
  fed_found (byte ∷ s) e = rw e (fed_found s e)

pub fed_append : (s t : List ℕ) (a : Auditor) → fed a (s ++ t) ≡ fed (fed a s) t
unfolding fed
fed_append [] t a = refl
fed_append (byte ∷ s) t a = fed_append s t (fed_byte a byte)

pub fed_whole : (parts : List (List ℕ)) (a : Auditor) → fed_parts a parts ≡ fed a (whole parts)
unfolding fed_parts whole fed
fed_whole [] a = refl
fed_whole (part ∷ parts) a = fed_whole parts (fed a part) ∙ sym (fed_append part (whole parts) a)
