-- An auditor in the middle of a log. Others cite `Reads`: nothing ended the audit, the machine is m, the line has the number n, and x are its bytes so far,
-- of which the auditor keeps no more than it has room for. `reads_byte`, `reads_end` and `reads_next` are the three steps of the feeding: a byte of the line,
-- its byte 10, and the next line.
use Prim.Native.Nat.{ℕ, suc, ◌+◌, ◌≤◌, ◌<◌, min}
use native.Mathlib.Numerals.{add-one}
use native.Mathlib.Omega.{arith}
use mathlib.Core.Path.{◌≡◌, refl, sym, ◌∙◌}
use Rattle.std.proofs.Common.{Ok}
use mathlib.Core.Bool.{false}
use mathlib.Core.List.{List, [], ◌∷◌, ◌++◌}
use borrow.Author.Tests.{ne_eqb}
use lib.ListN.{length, take, set, length-append, length-set}
use lib.Seq.{take_all, take-append-le, take-suc-set}
use Rattle.laws.proofs.CaseSplits.{by_order}
use Rattle.text.specs.Lines.{line_end, has}
use Rattle.text.proofs.Split.{has_append}
use Rattle.machine.specs.declared.machine.Machine.{Machine}
use Rattle.auditing.specs.Auditor.{line_room, last_line, kept_line, on_next_line, with_line, fed_byte}
use Rattle.auditing.specs.declared.auditor.Audit.TheVariants.{Accepted}
use Rattle.auditing.specs.declared.auditor.Auditor.{Auditor}
use Rattle.auditing.proofs.AuditorLaws.{still_on, byte_ends, byte_kept, byte_dropped}
use Rattle.auditing.proofs.CutLine.{with_line_cut}

pub record Reads (m : Machine) (n : ℕ) (x : List ℕ) (a : Auditor) : Type 0 where
  pub on : a.answer ≡ Ok Accepted
  pub machine_is : a.machine ≡ m
  pub number_is : a.line ≡ n
  -- the line is not ended
  pub inside : has line_end x ≡ false
  pub room : length a.kept ≡ line_room
  pub count : a.used ≡ min (length x) line_room
  pub bytes : take a.used a.kept ≡ take line_room x

module _ (m : Machine) (n : ℕ) (x : List ℕ) (a : Auditor) (r : Reads m n x a) where
  -- a byte of the line, where there is room for it and where there is none
  module _ (b : ℕ) (other : b ≡ line_end → ⊥) where
    inside_more : has line_end (x ++ b ∷ []) ≡ false
    unfolding has
    inside_more = has_append line_end x (b ∷ []) ∙ rw (r.inside, ne_eqb b line_end other)

    kept_more : a.used < line_room → Reads m n (x ++ b ∷ []) (fed_byte a b)
    kept_more h =
        let few : length x < line_room = omega (arith, r.count) in
        let inside-kept : a.used < length a.kept = omega (arith, r.room) in
        let all : take line_room x ≡ x = take_all line_room x (omega arith) in
        let all_more : take line_room (x ++ b ∷ []) ≡ x ++ b ∷ [] = take_all line_room (x ++ b ∷ []) (omega (arith, length-append x (b ∷ []))) in
        let front : take (a.used + 1) (set a.kept a.used b) ≡ take a.used a.kept ++ b ∷ [] =
        rw (add-one a.used) (take-suc-set a.kept a.used b inside-kept) in
        rw (byte_kept a (still_on a r.on) b other h)
        (record {
          on = r.on;
          machine_is = r.machine_is;
          number_is = r.number_is;
          inside = inside_more;
          room = length-set a.kept a.used b ∙ r.room;
          count = omega (arith, r.count, length-append x (b ∷ []));
          bytes = front ∙ rw (r.bytes, all) (sym all_more);
        })

    full_more : line_room ≤ a.used → Reads m n (x ++ b ∷ []) (fed_byte a b)
    full_more h =
        let full : line_room ≤ length x = omega (arith, r.count) in
        rw (byte_dropped a (still_on a r.on) b other h)
        (record {
          on = r.on;
          machine_is = r.machine_is;
          number_is = r.number_is;
          inside = inside_more;
          room = r.room;
          count = omega (arith, r.count, length-append x (b ∷ []));
          bytes = r.bytes ∙ sym (take-append-le line_room x (b ∷ []) full);
        })

    pub reads_byte : Reads m n (x ++ b ∷ []) (fed_byte a b)
    reads_byte = by_order line_room a.used full_more kept_more

  -- the bytes that are kept
  kept_is : kept_line a ≡ take line_room x
  unfolding kept_line
  kept_is = let few : min a.used line_room ≡ a.used = omega (arith, r.count) in rw few r.bytes

  -- byte 10: the line is judged as if all of it had been kept
  pub reads_end : (b : ℕ) → b ≡ line_end → fed_byte a b ≡ with_line a x
  reads_end b e = rw (byte_ends a (still_on a r.on) b e, kept_is) (with_line_cut a x)

  -- the next line begins
  pub reads_next : n < last_line → (m' : Machine) → Reads m' (suc n) [] (on_next_line a m')
  unfolding on_next_line has
  reads_next h m' =
      record {
        on = r.on;
        machine_is = refl;
        number_is = omega (arith, r.number_is);
        inside = refl;
        room = r.room;
        count = refl;
        bytes = refl;
      }
