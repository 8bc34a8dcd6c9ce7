-- Each byte of a turn is the one looked for, or one more that was passed.
use Rattle.std.proofs.Common.{sym, ◌≡◌, ◌+◌, ◌≤◌, ℕ, List, length, get_or, arith}
use Rattle.text.proofs.Split.{before_fits}
use Rattle.text.proofs.Scan.{Passed, passed_more, passed_next, passed_rest, met}
use Rattle.text.proofs.bytes.find.Goals as goal

module _ (b : ℕ) (s : List ℕ) (i : ℕ) (p : Passed b s i) (h : i + 4 ≤ length s) (n₀ : get_or s i 0 ≡ b → ⊥) where
  one : Passed b s (i + 1)
  one = passed_more b s i p (omega arith) n₀

  module _ (n₁ : get_or s (i + 1) 0 ≡ b → ⊥) where
    two : Passed b s (i + 2)
    two = passed_next b s (i + 1) one (omega arith) n₁ (i + 2) (omega arith)

    module _ (n₂ : get_or s (i + 2) 0 ≡ b → ⊥) where
      three : Passed b s (i + 3)
      three = passed_next b s (i + 2) two (omega arith) n₂ (i + 3) (omega arith)

      four : (get_or s (i + 3) 0 ≡ b → ⊥) → Passed b s (i + 4)
      four n₃ = passed_next b s (i + 3) three (omega arith) n₃ (i + 4) (omega arith)

pub returns-then-text-i : goal.returns-then-text-i
returns-then-text-i c = sym (met _ _ _ c.loop-i.invariant (omega arith) c.if-text-i.true).count

pub returns-then-text-i-2 : goal.returns-then-text-i-2
returns-then-text-i-2 c =
    let passed = one _ _ _ c.loop-i.invariant (omega arith) c.if-text-i.false in
    sym (met _ _ _ passed (omega arith) c.if-text-i-2.true).count

pub returns-then-text-i-3 : goal.returns-then-text-i-3
returns-then-text-i-3 c =
    let passed = two _ _ _ c.loop-i.invariant (omega arith) c.if-text-i.false c.if-text-i-2.false in
    sym (met _ _ _ passed (omega arith) c.if-text-i-3.true).count

pub returns-then-text-i-4 : goal.returns-then-text-i-4
returns-then-text-i-4 c =
    let passed = three _ _ _ c.loop-i.invariant (omega arith) c.if-text-i.false c.if-text-i-2.false c.if-text-i-3.false in
    sym (met _ _ _ passed (omega arith) c.if-text-i-4.true).count

pub loop-i-preserved : goal.loop-i-preserved
loop-i-preserved c = four _ _ _ c.loop-i.invariant (omega arith) c.if-text-i.false c.if-text-i-2.false c.if-text-i-3.false c.if-text-i-4.false

pub overflow_add-result-2 : goal.overflow_add-result-2
overflow_add-result-2 c =
    let a = c.args in
    omega (arith, passed_rest _ _ _ c.loop-i.invariant _ c.find_one_by_one.ensures, before_fits a.byte a.text.now)
