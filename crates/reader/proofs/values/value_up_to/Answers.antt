-- Each way out of the scan settles whether a value stands before the end, by the field there and whether it is ended.
use Rattle.std.proofs.Common.{◌≡◌, ◌∙◌, ◌≤◌, ◌<◌, ℕ, List, true, false, None, arith}
use mathlib.Core.Bool.{and-false}
use borrow.Author.Tests.{le-leb, lt-leb}
use Rattle.text.specs.Lines.{has, before}
use Rattle.text.specs.Number.{is_digit}
use Rattle.text.proofs.Split.{hasnt_of}
use Rattle.text.proofs.Scan.{passed_none, passed_more, at_other, met, missed_count}
use Rattle.reader.specs.Value.{is_value}
use Rattle.reader.specs.Parts.{value_up_to}
use Rattle.reader.proofs.ValueScan.{digits_none, digits_more, value_number, no_digits, no_digit, too_long, zero_leads, is_value_lem}
use Rattle.reader.proofs.values.value_up_to.Goals as goal
use Rattle.reader.proofs.values.value_up_to.Goals.{then-byte-lt48-via-then-byte-lt48, then-byte-lt48-via-else-byte-lt48+then-byte-gt57, else-number-eq0-via-then-number-eq0+else-i-gt0, else-number-eq0-via-else-number-eq0}

not_ended : (b : ℕ) (s : List ℕ) → has b s ≡ false → None ≡ value_up_to b s
unfolding value_up_to
not_ended b s h = rw h

no_value : (b : ℕ) (s : List ℕ) → is_value (before b s) ≡ false → None ≡ value_up_to b s
unfolding value_up_to
no_value b s v = rw (v, and-false (has b s))

below_digits : (x : ℕ) → x < 48 → is_digit x ≡ false
unfolding is_digit
below_digits x h = rw (lt-leb 48 x h)

above_digits : (x : ℕ) → 57 < x → is_digit x ≡ false
unfolding is_digit
above_digits x h = rw (lt-leb x 57 h, and-false _)

among_digits : (x : ℕ) → 48 ≤ x → x ≤ 57 → is_digit x ≡ true
unfolding is_digit
among_digits x l h = rw (le-leb 48 x l, le-leb x 57 h)

pub loop-i-init : goal.loop-i-init
loop-i-init c = record { passed = passed_none _ _; digits = digits_none _ }

pub returns-then-i-eq0 : goal.returns-then-i-eq0
returns-then-i-eq0 c =
    let m = met _ _ _ c.loop-i.invariant.passed c.loop-i-test.true c.if-byte-end.true in
    no_value _ _ (no_digits _ (m.count ∙ c.if-i-eq0.true))

pub returns-then-byte-end : goal.returns-then-byte-end
unfolding value_up_to
returns-then-byte-end c =
    let m = met _ _ _ c.loop-i.invariant.passed c.loop-i-test.true c.if-byte-end.true in
    let v = is_value_lem _ _ _ c.loop-i.invariant.digits m.count (omega arith) in
    rw (m.is, ← value_number, v.is, v.value, m.count)

pub returns-then-byte-lt48 : goal.returns-then-byte-lt48
returns-then-byte-lt48 c =
    let l = c.loop-i.invariant in
    let o = at_other _ _ _ l.passed c.loop-i-test.true c.if-byte-end.false in
    no_value _ _
    (no_digit _ _ _ l.digits o.inside
    (rw o.same
    (elim c.then-byte-lt48.branch [
      | then-byte-lt48-via-then-byte-lt48 w ↦ below_digits _ w.if-byte-lt48.true
      | then-byte-lt48-via-else-byte-lt48+then-byte-gt57 w ↦ above_digits _ w.if-byte-gt57.true
    ])))

pub returns-then-i-ge-VALUE_DIGITS : goal.returns-then-i-ge-VALUE_DIGITS
returns-then-i-ge-VALUE_DIGITS c =
    let l = c.loop-i.invariant in
    let o = at_other _ _ _ l.passed c.loop-i-test.true c.if-byte-end.false in
    no_value _ _ (too_long _ _ _ l.digits o.inside c.if-i-ge-VALUE_DIGITS.true)

pub returns-then-i-gt0 : goal.returns-then-i-gt0
returns-then-i-gt0 c =
    let l = c.loop-i.invariant in
    let o = at_other _ _ _ l.passed c.loop-i-test.true c.if-byte-end.false in
    no_value _ _ (zero_leads _ _ _ l.digits o.inside c.if-number-eq0.true c.if-i-gt0.true)

pub loop-i-preserved : goal.loop-i-preserved
loop-i-preserved c =
    let l = c.loop-i.invariant in
    let o = at_other _ _ _ l.passed c.loop-i-test.true c.if-byte-end.false in
    let first : c.loop-i.number ≡ 0 → c.loop-i.i ≡ 0 =
    λ z.
    elim c.else-number-eq0.branch [
      | else-number-eq0-via-then-number-eq0+else-i-gt0 w ↦ omega arith
      | else-number-eq0-via-else-number-eq0 w ↦ omega arith
    ] in
    record {
      passed = passed_more _ _ _ l.passed c.loop-i-test.true c.if-byte-end.false;
      digits =
          rw (← o.same)
          (digits_more _ _ _ l.digits o.inside (rw o.same (among_digits _ c.if-byte-lt48.false c.if-byte-gt57.false)) c.if-i-ge-VALUE_DIGITS.false first);
    }

pub returns : goal.returns
returns c =
    not_ended _ _ (hasnt_of _ _ (omega (arith, missed_count _ _ _ c.loop-i.invariant.passed c.loop-i-test.false, c.loop-i-test.false)))
