-- One turn over the lines of calls. Others cite `answered`, the answers to a text; `Playing`, the state between two lines, with `play_none`, `play_more` and
-- `shorter`; and what the whole output is where it stops: `play_all`, `not_ended` and `no_call`.
use Prim.Native.Nat.{ℕ, ◌+◌, ◌*◌, ◌≤◌, ◌<◌}
use native.Mathlib.Omega.{arith}
use mathlib.Core.Path.{◌≡◌, refl, sym, ap, ◌∙◌}
use mathlib.Core.Bool.{false}
use mathlib.Core.List.{List, [], ◌++◌}
use lib.ListN.{length, take, length-append}
use lib.Seq.{length-take-le}
use Rattle.laws.proofs.Parts.{past, from_length, empty}
use Rattle.text.specs.Lines.{line_end, has, before, lines, unended, is_empty}
use Rattle.text.specs.declared.output.Output.{Output}
use Rattle.text.specs.Output.{put}
use Rattle.text.proofs.Split.{cut, hasnt_of}
use Rattle.text.proofs.LineLaws.{lines_more, lines_none, unended_more, unended_all, some_bytes}
use Rattle.text.proofs.Putting.{put_nothing, put_append}
use Rattle.machine.specs.Calls.{step}
use Rattle.machine.specs.declared.machine.Machine.{Machine}
use Rattle.machine.specs.declared.call.Call.{Call}
use Rattle.std.specs.Prelude.{Some, None}
use Rattle.script.specs.Calls.{call_of}
use Rattle.script.specs.Output.{PutsWithin, bad_line, answer_line, refusal_room}
use Rattle.script.proofs.CallLaws.{call_long}
use Rattle.script.proofs.FewBytes.{few_bytes}
use Rattle.replay.specs.Script.{on_call, answer_lines, call_room}

-- the answers to the calls of a text
abbrev pub answered : Machine → ℕ → List ℕ → List ℕ
answered m n s = answer_lines m n (lines s) (unended s)

-- between two lines: the answers to the rest s of the text are still to come, and those before them are short enough for the text before it
pub record Playing {N : ℕ} (o : Output N) (whole : List ℕ) (p : Output N) (m : Machine) (n : ℕ) (s : List ℕ) (most : ℕ) : Type 0 where
  pub left : put p (answered m n s) ≡ put o whole
  pub few : length whole + call_room * length s ≤ most + length (answered m n s)

pub play_none : {N : ℕ} (o : Output N) (m : Machine) (n : ℕ) (s : List ℕ) → Playing o (answered m n s) o m n s (call_room * length s)
play_none o m n s = record { left = refl; few = omega arith }

module _ {N : ℕ} (o : Output N) (whole : List ℕ) (p : Output N) (m : Machine) (n : ℕ) (s : List ℕ) (most : ℕ) (on : Playing o whole p m n s most) where
  pub play_all : length s ≤ 0 → PutsWithin (most + refusal_room) o whole p
  unfolding answer_lines lines unended is_empty
  play_all h =
      let e : answered m n s ≡ [] = rw (empty s h) in
      record { whole = sym (put_nothing p) ∙ rw e at on.left; few = omega (arith, ap length e, on.few) }

  -- a line that is no call, after which the output has its line
  module _ {q : Output N} (g : PutsWithin refusal_room p (bad_line n) q) where
    stopped : answered m n s ≡ bad_line n → PutsWithin (most + refusal_room) o whole q
    stopped e = record { whole = g.whole ∙ rw e at on.left; few = omega (arith, ap length e, on.few, g.few) }

    pub not_ended : (k : ℕ) → k ≡ length (before line_end s) → 0 < length s → length s ≤ k → PutsWithin (most + refusal_room) o whole q
    unfolding answer_lines
    not_ended k e h l =
        let z : has line_end s ≡ false = hasnt_of line_end s (rw e at l) in
        stopped (rw (lines_none s z, unended_all s z, some_bytes s h))

    pub no_call : (k : ℕ) → k ≡ length (before line_end s) → k < length s → call_of (take k s) ≡ None → PutsWithin (most + refusal_room) o whole q
    unfolding answer_lines on_call
    no_call k e h b =
        let d = cut line_end s k e h in
        stopped (rw (lines_more s d.is, ← d.front, b))

  -- a call, on a line that ends at k
  module _ (k : ℕ) (e : k ≡ length (before line_end s)) (h : k < length s) (call : Call) (r : call_of (take k s) ≡ Some call) where
    pub shorter : length (past s k) < length s
    shorter = omega (arith, from_length s (k + 1))

    next : answered m n s ≡ answer_line call (step m call) ++ answered (step m call).machine (n + 1) (past s k)
    unfolding answer_lines on_call
    next = let d = cut line_end s k e h in rw (lines_more s d.is, unended_more s d.is, ← d.front, r, d.rest)

    pub play_more :
        (q : Output N) → q ≡ put p (answer_line call (step m call)) → Playing o whole q (step m call).machine (n + 1) (past s k) most
    play_more q g =
        let rest = answered (step m call).machine (n + 1) (past s k) in
        let lengths = ap length next ∙ length-append (answer_line call (step m call)) rest in
        let five = call_long (take k s) call r in
        record {
          left = rw g (put_append p (answer_line call (step m call)) rest ∙ rw next at on.left);
          few = omega (arith, on.few, few_bytes m call, lengths, five, length-take-le k s (omega arith), from_length s (k + 1));
        }
