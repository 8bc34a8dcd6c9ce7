-- docs/HANDBOOK.md, "Probing one call": "what is printed for the first 4,096 bytes of a text is what is printed for the text", `cut_same`. A good text has
-- fewer, and of a longer one the first bad line begins within these.
use Prim.Native.Nat.{ℕ, zero, suc, ◌+◌, ◌-◌, ◌*◌, ◌≤◌, ◌<◌}
use native.Mathlib.Omega.{arith}
use mathlib.Core.Path.{◌≡◌, refl, ap}
use mathlib.Core.Bool.{Bool, true, and-false}
use mathlib.Core.List.{List, [], ◌∷◌}
use Rattle.std.proofs.Common.{Option, Some, None}
use lib.ListN.{length, take, length-drop}
use Rattle.laws.proofs.CaseSplits.{by_test, by_order}
use Rattle.laws.proofs.Booleans.{and_left, and_right}
use Rattle.text.specs.Lines.{line_end, has, before, after, first_is, is_empty}
use Rattle.text.specs.Words.{same_bytes, begins_with}
use Rattle.text.specs.Fields.{are_numbers}
use Rattle.text.proofs.Lengths.{numbers_short}
use Rattle.text.proofs.WordLaws.{same_is}
use Rattle.text.proofs.Taken.{Taken, taken, untaken}
use Rattle.machine.specs.declared.call.Call.{Call}
use Rattle.machine.specs.declared.machine.Machine.{Machine}
use Rattle.script.specs.Numbers.{max_digits, max_number}
use Rattle.script.specs.Calls.{fields_task, call_of}
use Rattle.script.proofs.CallLaws.{longest_call, call_short}
use Rattle.tasks.specs.Limits.{max_tasks}
use Rattle.probe.specs.Words.{machine_word, none_word, held_word}
use Rattle.probe.specs.Input.{is_machine_line, count_of, cores_of, zero_entries, is_entry_line, entry_job, entry_core, with_entry, is_held_line, only_call, last_line}
use Rattle.probe.specs.Printed.{printed_held, printed_from, printed}

-- a first line that has at most b bytes with its byte 10 where it is what it must be
module _ (must : List ℕ → Bool) (b : ℕ) (short : (l : List ℕ) → must l ≡ true → length l + 1 ≤ b) (k : ℕ) (s : List ℕ) (h : b ≤ k) where
  first_same : first_is must (take k s) ≡ first_is must s
  unfolding first_is
  first_same =
      by_order k (length (before line_end s))
      (λ l.
      by_test (must (before line_end s))
      (λ t. absurd (omega (arith, short (before line_end s) t)))
      (λ f. rw (untaken k s l, f, and-false (has line_end s))))
      (λ l. let t = taken k s l in rw (t.is, t.line))

  first_taken : first_is must s ≡ true → (length (before line_end s) + 1 ≤ b) × Taken k s
  unfolding first_is
  first_taken t =
      let n = short (before line_end s) (and_right (has line_end s) (must (before line_end s)) t) in
      (n, taken k s (omega arith))

-- the most bytes that the first line has with its byte 10, the line of an entry, and that of what is held
abbrev machine_length : ℕ
machine_length = length machine_word + 2 * (max_digits + 1)

abbrev entry_length : ℕ
entry_length = 8 * (max_digits + 1)

abbrev held_length : ℕ
held_length = length held_word + 3 * (max_digits + 1)

machine_short : (l : List ℕ) → is_machine_line l ≡ true → length l + 1 ≤ machine_length
unfolding is_machine_line
machine_short l t =
    let n = numbers_short max_digits max_number 2 _ (and_right (begins_with machine_word l) _ t) in
    omega (arith, n, length-drop (length machine_word) l)

entry_short : (l : List ℕ) → is_entry_line l ≡ true → length l + 1 ≤ entry_length
unfolding is_entry_line
entry_short l t = numbers_short max_digits max_number 8 l (and_left (are_numbers max_digits max_number 8 l) _ t)

held_short : (l : List ℕ) → is_held_line l ≡ true → length l + 1 ≤ held_length
unfolding is_held_line
held_short l t =
    by_test (same_bytes l none_word)
    (λ none. omega (arith, ap length (same_is l none_word none)))
    (λ other.
    let n = numbers_short max_digits max_number 3 _ (and_right (begins_with held_word l) _ (rw other at t)) in
    omega (arith, n, length-drop (length held_word) l))

-- of what follows the call only the first byte matters
empty_same : (j : ℕ) (s : List ℕ) → 0 < j → is_empty (take j s) ≡ is_empty s
unfolding is_empty
empty_same zero s h = absurd (omega arith)
empty_same (suc j) [] h = refl
empty_same (suc j) (x ∷ s) h = refl

only_same : (c : Option Call) (j : ℕ) (s : List ℕ) → ((call : Call) → c ≡ Some call → 0 < j) → only_call c (take j s) ≡ only_call c s
unfolding only_call
only_same (Some call) j s h = rw (empty_same j s (h call refl))
only_same None j s h = refl

only_none : (c : Option Call) (s t : List ℕ) → ((call : Call) → c ≡ Some call → ⊥) → only_call c s ≡ only_call None t
unfolding only_call
only_none (Some call) s t n = absurd (n call refl)
only_none None s t n = refl

-- of the last line and what follows it those of a call, its byte 10, and one byte more
abbrev last_length : ℕ
last_length = longest_call + 1 + 1

last_same : (k : ℕ) (s : List ℕ) → last_length ≤ k → last_line (take k s) ≡ last_line s
unfolding last_line only_call
last_same k s h =
    let l = before line_end s in
    by_order k (length l)
    (λ m.
    let none = only_none (call_of l) (after line_end s) [] (λ call e. omega (arith, call_short l call e)) in
    by_test (has line_end s) (λ b. rw (untaken k s m, b, none)) (λ b. rw (untaken k s m, b)))
    (λ m.
    let t = taken k s m in
    rw (t.is, t.line, t.rest, only_same (call_of l) (k - (length l + 1)) (after line_end s) (λ call e. omega (arith, call_short l call e))))

held_same : (m : Machine) (k : ℕ) (s : List ℕ) → held_length + last_length ≤ k → printed_held m (take k s) ≡ printed_held m s
unfolding printed_held
held_same m k s h =
    let l = before line_end s in
    let same = first_same is_held_line held_length held_short k s (omega arith) in
    by_test (first_is is_held_line s)
    (λ b.
    let (n, t) = first_taken is_held_line held_length held_short k s (omega arith) b in
    rw (same, b, t.line, t.rest, last_same (k - (length l + 1)) (after line_end s) (omega arith)))
    (λ b. rw (same, b))

entries_same :
    (m : Machine) (i more k : ℕ) (s : List ℕ) → entry_length * more + held_length + last_length ≤ k → printed_from m i more (take k s) ≡ printed_from m i more s
unfolding printed_from
entries_same m i zero k s h = held_same m k s (omega arith)
entries_same m i (suc more) k s h =
    let l = before line_end s in
    let same = first_same is_entry_line entry_length entry_short k s (omega arith) in
    by_test (first_is is_entry_line s)
    (λ b.
    let (n, t) = first_taken is_entry_line entry_length entry_short k s (omega arith) b in
    rw (same, b, t.line, t.rest) (entries_same (with_entry m i (fields_task l) (entry_job l) (entry_core l)) (suc i) more (k - (length l + 1)) (after line_end s) (omega arith)))
    (λ b. rw (same, b))

printed_same : (k : ℕ) (s : List ℕ) → machine_length + entry_length * max_tasks + held_length + last_length ≤ k → printed (take k s) ≡ printed s
unfolding printed
printed_same k s h =
    let l = before line_end s in
    let same = first_same is_machine_line machine_length machine_short k s (omega arith) in
    by_test (first_is is_machine_line s)
    (λ b.
    let (n, t) = first_taken is_machine_line machine_length machine_short k s (omega arith) b in
    rw (same, b, t.line, t.rest) (entries_same (zero_entries (count_of l) (cores_of l)) 0 max_tasks (k - (length l + 1)) (after line_end s) (omega arith)))
    (λ b. rw (same, b))

-- the most bytes that the program reads: `INPUT_ROOM`, src/main.rt
abbrev input_room : ℕ
input_room = 4_096

pub cut_same : (s : List ℕ) → printed (take input_room s) ≡ printed s
cut_same s = printed_same input_room s (omega arith)
