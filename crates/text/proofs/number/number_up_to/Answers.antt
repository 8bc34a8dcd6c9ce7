-- Each way out of the scan, and each test after it, settles whether the field is a number.
use Rattle.std.proofs.Common.{◌≡◌, ◌∙◌, sym, ◌≤◌, ◌<◌, ◌⊎◌, List, ℕ, length, take, get_or, false, Some, None, arith}
use mathlib.Core.Logic.{inl, inr}
use lib.Seq.{get_or-take}
use Rattle.text.specs.Lines.{before}
use Rattle.text.specs.Number.{leading_zero, is_number, number_up_to}
use Rattle.text.specs.declared.number.LeadingNumber.{LeadingNumber}
use Rattle.text.proofs.Scan.{Passed, passed_none, passed_more, at_other, stopped}
use Rattle.text.proofs.NumberLaws.{Numbered, digit}
use Rattle.text.proofs.NumberScan.{scanned_none, empty, long, leading, one_digit, other_digit, no_digit, too_large, scanned_more, complete}
use Rattle.text.proofs.number.number_up_to.Goals as goal
use Rattle.text.proofs.number.number_up_to.Goals.{else-loop-byte-test, then-loop-byte-test+then-byte-end, then-length-eq0-via-then-length-eq0, then-length-eq0-via-else-length-eq0+then-limits-length, else-text-eq48-via-then-text-eq48+else-length-gt1, else-text-eq48-via-else-text-eq48}

no_number : (digits largest b : ℕ) (s : List ℕ) → is_number digits largest (before b s) ≡ false → None ≡ number_up_to digits largest b s
unfolding number_up_to
no_number digits largest b s e = rw e

a_number :
    (digits largest b : ℕ) (s : List ℕ) (l : LeadingNumber) → Numbered digits largest (before b s) l.number → l.length ≡ length (before b s)
    → Some l ≡ number_up_to digits largest b s
unfolding number_up_to
a_number digits largest b s l n e = rw (n.is, n.value, ← e)

-- where the scan stopped, at b or at the end: the bytes so far are the field
front :
    (b : ℕ) (s : List ℕ) (i n : ℕ) → Passed b s i → n ≡ i → (length s ≤ i) ⊎ ((i < length s) × (get_or s i 0 ≡ b))
    → (before b s ≡ take n s) × (n ≡ length (before b s))
front b s i n p e h = let (f, l) = stopped b s i p h in (rw (e, f), omega (arith, l))

-- the first byte of a field is that of the text
first_byte : (s f : List ℕ) (n : ℕ) → f ≡ take n s → 0 < n → get_or f 0 0 ≡ get_or s 0 0
first_byte s f n e h = rw e (get_or-take n s 0 0 h)

pub loop-byte-init : goal.loop-byte-init
loop-byte-init c = record { count = omega arith; passed = passed_none _ _; scanned = scanned_none _ _ }

pub returns-then-not-is_digit : goal.returns-then-not-is_digit
returns-then-not-is_digit c =
    let l = c.loop-byte.invariant in
    let o = at_other _ _ _ l.passed c.loop-byte-test.true c.if-byte-end.false in
    no_number _ _ _ _ (no_digit _ _ _ _ _ l.scanned o.inside (rw o.same (sym c.if-not-is_digit.ensures)))

pub overflow_sub-more : goal.overflow_sub-more
overflow_sub-more c = (digit _ (sym c.if-not-is_digit.ensures)).low

pub returns-then-limits-more : goal.returns-then-limits-more
returns-then-limits-more c =
    let l = c.loop-byte.invariant in
    let o = at_other _ _ _ l.passed c.loop-byte-test.true c.if-byte-end.false in
    no_number _ _ _ _ (too_large _ _ _ _ _ l.scanned o.inside (rw o.same c.if-limits-more.true))

pub loop-byte-preserved : goal.loop-byte-preserved
loop-byte-preserved c =
    let l = c.loop-byte.invariant in
    let o = at_other _ _ _ l.passed c.loop-byte-test.true c.if-byte-end.false in
    record {
      count = omega arith;
      passed = passed_more _ _ _ l.passed c.loop-byte-test.true c.if-byte-end.false;
      scanned =
          rw (← o.same)
          (scanned_more _ _ _ _ l.scanned o.inside (rw o.same (sym c.if-not-is_digit.ensures)) (rw o.same c.if-limits-more.false));
    }

pub returns-then-length-eq0 : goal.returns-then-length-eq0
returns-then-length-eq0 c =
    let a = c.args in
    let l = c.loop-byte.invariant in
    let (f, e) = front _ _ _ _ l.passed l.count
    (elim c.loop-byte-test.branch [ else-loop-byte-test w ↦ inl w.loop-byte-test.false | then-loop-byte-test+then-byte-end w ↦ inr (w.loop-byte-test.true, w.if-byte-end.true) ]) in
    no_number _ _ _ _
    (elim c.then-length-eq0.branch [
      | then-length-eq0-via-then-length-eq0 w ↦ empty a.limits.digits a.limits.largest _ (sym e ∙ w.if-length-eq0.true)
      | then-length-eq0-via-else-length-eq0+then-limits-length w ↦ long a.limits.digits a.limits.largest _ (rw e at w.if-limits-length.true)
    ])

pub returns-then-length-gt1 : goal.returns-then-length-gt1
returns-then-length-gt1 c =
    let a = c.args in
    let l = c.loop-byte.invariant in
    let (f, e) = front _ _ _ _ l.passed l.count
    (elim c.loop-byte-test.branch [ else-loop-byte-test w ↦ inl w.loop-byte-test.false | then-loop-byte-test+then-byte-end w ↦ inr (w.loop-byte-test.true, w.if-byte-end.true) ]) in
    no_number _ _ _ _
    (leading a.limits.digits a.limits.largest _ (first_byte a.text.now _ _ f (omega arith) ∙ c.if-text-eq48.true) (rw e at c.if-length-gt1.true))

pub returns : goal.returns
returns c =
    let a = c.args in
    let l = c.loop-byte.invariant in
    let (f, e) = front _ _ _ _ l.passed l.count
    (elim c.loop-byte-test.branch [ else-loop-byte-test w ↦ inl w.loop-byte-test.false | then-loop-byte-test+then-byte-end w ↦ inr (w.loop-byte-test.true, w.if-byte-end.true) ]) in
    let field = before a.end a.text.now in
    let some : 0 < c.loop-byte.length = omega arith in
    let z : leading_zero field ≡ false =
    elim c.else-text-eq48.branch [
      | else-text-eq48-via-then-text-eq48+else-length-gt1 w ↦ one_digit field (rw e at w.if-length-gt1.false)
      | else-text-eq48-via-else-text-eq48 w ↦ other_digit field (rw (first_byte a.text.now field _ f some) w.if-text-eq48.false)
    ] in
    let n = complete a.limits.digits a.limits.largest field _ _ l.scanned (omega (arith, e)) (omega (arith, e)) (omega (arith, e)) z in
    a_number _ _ _ _ _ n e
