-- A line of which only the first bytes are kept: it is judged as the whole line is. Others cite `with_line_cut`.
use Prim.Native.Nat.{ℕ, ◌≤◌}
use native.Mathlib.Omega.{arith}
use mathlib.Core.Path.{◌≡◌, sym}
use mathlib.Core.Bool.{false}
use mathlib.Core.List.{List}
use lib.ListN.{length, take}
use lib.Seq.{take_all, length-take-le}
use Rattle.laws.proofs.CaseSplits.{by_order, by_test}
use Rattle.text.proofs.WordLaws.{other_length}
use Rattle.text.proofs.Lengths.{numbers_short}
use Rattle.auditing.specs.Log.{names_line, is_names_line, value_digits, max_value, is_value_line}
use Rattle.auditing.specs.Auditor.{line_room, after_value_line, with_line}
use Rattle.auditing.specs.declared.auditor.Auditor.{Auditor}

-- a line that fills the room is neither the names line, of 21 bytes, nor a value line, of 32 at most
module _ (l : List ℕ) (long : line_room ≤ length l) where
  not_names : is_names_line l ≡ false
  unfolding is_names_line
  not_names = sym (other_length l names_line (λ e. omega (arith, e)))

  not_values : is_value_line l ≡ false
  unfolding is_value_line
  not_values =
      by_test (is_value_line l) (λ e. let short = numbers_short value_digits max_value 3 l e in absurd (omega arith)) (λ e. e)

module _ (a : Auditor) (x : List ℕ) where
  -- so a longer line is broken, cut or not
  long_cut : line_room ≤ length x → with_line a (take line_room x) ≡ with_line a x
  unfolding with_line after_value_line
  long_cut h =
      let cut : line_room ≤ length (take line_room x) = omega (arith, length-take-le line_room x h) in
      rw (not_names (take line_room x) cut, not_values (take line_room x) cut, not_names x h, not_values x h)

  pub with_line_cut : with_line a (take line_room x) ≡ with_line a x
  with_line_cut = by_order (length x) line_room (λ h. rw (take_all line_room x h)) (λ h. long_cut (omega arith))
