-- The line of a call has five bytes or more, `call_long`, and at most 38, `longest_call`: `call_short`.
use Prim.Native.Nat.{ℕ, ◌+◌, ◌≤◌}
use native.Mathlib.Omega.{arith}
use mathlib.Core.Path.{◌≡◌, ap}
use mathlib.Core.List.{List}
use Rattle.std.specs.Prelude.{Option, Some, None}
use lib.ListN.{length, drop, length-drop}
use Rattle.laws.proofs.CaseSplits.{by_cond, clash}
use Rattle.text.specs.Words.{same_bytes, begins_with}
use Rattle.text.specs.Number.{is_number, number_of, number_after}
use Rattle.text.specs.Fields.{are_numbers}
use Rattle.text.proofs.WordLaws.{same_is, not_longer}
use Rattle.text.proofs.NumberLaws.{number_short}
use Rattle.text.proofs.Lengths.{numbers_short}
use Rattle.machine.specs.declared.call.Call.{Call}
use Rattle.machine.specs.declared.call.Call.TheVariants.{Finish, Slot}
use Rattle.script.specs.Words.{release_word, finish_word, slot_word, offer_word, commit_word}
use Rattle.script.specs.Numbers.{max_digits, max_number}
use Rattle.script.specs.Calls.{release_of, task_fields, offer_of, call_with, call_of}
use Rattle.script.proofs.TaskLaws.{by_fields, task_length, task_short}

-- a line that begins with a word of five bytes or more, or is another line
word_long :
    (w l : List ℕ) (f : ℕ → Call) (other : Option Call) (c : Call) → 5 ≤ length w
    → call_with (number_after max_digits max_number w l) f other ≡ Some c → (other ≡ Some c → 5 ≤ length l) → 5 ≤ length l
unfolding number_after call_with
word_long w l f other c h e else =
    by_cond (λ (n : Option ℕ). call_with n f other ≡ Some c → 5 ≤ length l) (begins_with w l) (λ p e. omega (arith, not_longer w l p)) (λ p e. else e) e

pub call_long : (l : List ℕ) (c : Call) → call_of l ≡ Some c → 5 ≤ length l
unfolding call_of
call_long l c e =
    word_long slot_word l Slot _ c (omega arith) e
    (λ e.
    word_long finish_word l Finish _ c (omega arith) e
    (by_cond (λ r. r ≡ Some c → 5 ≤ length l) (begins_with release_word l) (λ p e. omega (arith, not_longer release_word l p))
    (λ p.
    by_cond (λ r. r ≡ Some c → 5 ≤ length l) (begins_with offer_word l) (λ p e. omega (arith, not_longer offer_word l p))
    (λ p.
    by_cond (λ r. r ≡ Some c → 5 ≤ length l) (same_bytes l commit_word) (λ p e. omega (arith, ap length (same_is l commit_word p))) (λ p e. clash cc)))))

-- the most bytes of the line of a call: those of an offer
abbrev pub longest_call : ℕ
longest_call = length offer_word + task_length

-- a line that is a word of at most eight bytes and a number, or is another line
number_after_short :
    (w l : List ℕ) (f : ℕ → Call) (other : Option Call) (c : Call) → length w ≤ 8
    → call_with (number_after max_digits max_number w l) f other ≡ Some c → (other ≡ Some c → length l ≤ longest_call) → length l ≤ longest_call
unfolding number_after number_of call_with
number_after_short w l f other c h e else =
    by_cond (λ (n : Option ℕ). call_with n f other ≡ Some c → length l ≤ longest_call) (begins_with w l)
    (λ p.
    by_cond (λ (n : Option ℕ). call_with n f other ≡ Some c → length l ≤ longest_call) (is_number max_digits max_number (drop (length w) l))
    (λ n e. omega (arith, number_short max_digits max_number (drop (length w) l) n, length-drop (length w) l))
    (λ n e. else e))
    (λ p e. else e) e

offer_short : (f : List ℕ) (c : Call) → offer_of (task_fields f) ≡ Some c → length f ≤ task_length
unfolding offer_of
offer_short f c e = by_fields (task_fields f) (λ t is. task_short f t is) (λ is. let bad : None ≡ Some c = rw is at e in clash cc)

pub call_short : (l : List ℕ) (c : Call) → call_of l ≡ Some c → length l ≤ longest_call
unfolding call_of release_of
call_short l c e =
    number_after_short slot_word l Slot _ c (omega arith) e
    (λ e.
    number_after_short finish_word l Finish _ c (omega arith) e
    (by_cond (λ r. r ≡ Some c → length l ≤ longest_call) (begins_with release_word l)
    (λ p.
    by_cond (λ r. r ≡ Some c → length l ≤ longest_call) (are_numbers max_digits max_number 2 (drop (length release_word) l))
    (λ n e. omega (arith, numbers_short max_digits max_number 2 (drop (length release_word) l) n, length-drop (length release_word) l))
    (λ n e. clash cc))
    (λ p.
    by_cond (λ r. r ≡ Some c → length l ≤ longest_call) (begins_with offer_word l)
    (λ p e. omega (arith, offer_short (drop (length offer_word) l) c e, length-drop (length offer_word) l))
    (λ p.
    by_cond (λ r. r ≡ Some c → length l ≤ longest_call) (same_bytes l commit_word) (λ p e. omega (arith, ap length (same_is l commit_word p))) (λ p e. clash cc)))))
