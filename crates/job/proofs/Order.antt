-- Precedence is a strict order. Others cite: `Before` and `holds`, why one job precedes another; `precedes_not_self`, `precedes_trans`; and
-- `precedes_total`, that of two tasks one precedes the other.
use Prim.Native.Nat.{ℕ, ◌<◌}
use mathlib.Core.Path.{◌≡◌, refl, sym, ◌∙◌}
use mathlib.Core.Bool.{true, false, or-true}
use mathlib.Core.Logic.{◌⊎◌, inl, inr, ⊎_elim}
use native.Mathlib.Omega.{arith}
use lib.Dec.{eqb, ltb}
use borrow.Author.Tests.{ltb-true, eqb-true, lt-ltb, eq-eqb}
use Rattle.laws.proofs.CaseSplits.{by_order, by_equal, by_test, by_tests, not_both}
use Rattle.laws.proofs.Booleans.{and_left, and_right}
use Rattle.job.specs.Job.{is_urgent}
use Rattle.job.specs.Precedence.{longer_first, left_first, by_urgency, job_precedes}
use Rattle.job.specs.declared.job.Job.{Job}

-- Why job x of the task at index i precedes job y of the task at index j.
pub data Before (x : Job) (i : ℕ) (y : Job) (j : ℕ) : Type 0 where
  by_urgency_lem : is_urgent x ≡ true → is_urgent y ≡ false → Before x i y j
  by_left : is_urgent x ≡ is_urgent y → x.left < y.left → Before x i y j
  by_budget : is_urgent x ≡ is_urgent y → x.left ≡ y.left → y.budget < x.budget → Before x i y j
  by_number : is_urgent x ≡ is_urgent y → x.left ≡ y.left → x.budget ≡ y.budget → i < j → Before x i y j

module _ (x : Job) (i : ℕ) (y : Job) (j : ℕ) where
  longer_first_lem : is_urgent x ≡ is_urgent y → x.left ≡ y.left → longer_first x i y j ≡ true → Before x i y j
  unfolding longer_first
  longer_first_lem alike same e =
      by_test (ltb y.budget x.budget)
      (λ p. by_budget alike same (ltb-true y.budget x.budget p))
      (λ p.
      let equal = eqb x.budget y.budget in
      let tie = rw p at e in
      by_number alike same (eqb-true _ _ (and_left equal _ tie)) (ltb-true i j (and_right equal _ tie)))

  left_first_lem : is_urgent x ≡ is_urgent y → left_first x i y j ≡ true → Before x i y j
  unfolding left_first
  left_first_lem alike e =
      by_test (ltb x.left y.left)
      (λ p. by_left alike (ltb-true _ _ p))
      (λ p.
      let equal = eqb x.left y.left in
      let tie = rw p at e in
      longer_first_lem alike (eqb-true _ _ (and_left equal _ tie)) (and_right equal _ tie))

  alike_precedes : is_urgent x ≡ is_urgent y → job_precedes x i y j ≡ left_first x i y j
  unfolding job_precedes by_urgency
  alike_precedes alike = rw alike (by_test (is_urgent y) (λ e. rw e) (λ e. rw e))

  -- Precedence and its reason, both ways.
  reason : job_precedes x i y j ≡ true → Before x i y j
  unfolding job_precedes by_urgency
  reason e =
      by_tests (is_urgent x) (is_urgent y)
      (λ alike. left_first_lem alike (sym (alike_precedes alike) ∙ e))
      by_urgency_lem
      (λ p q. not_both false (rw (p, q) at e) refl)

  pub holds : Before x i y j → job_precedes x i y j ≡ true
  unfolding job_precedes by_urgency left_first longer_first
  holds (by_urgency_lem p q) = rw (p, q)
  holds (by_left alike l) = alike_precedes alike ∙ rw (lt-ltb _ _ l)
  holds (by_budget alike e l) = alike_precedes alike ∙ rw (eq-eqb _ _ e, lt-ltb _ _ l, or-true)
  holds (by_number alike e f l) = alike_precedes alike ∙ rw (eq-eqb _ _ e, eq-eqb _ _ f, lt-ltb i j l, or-true, or-true)

  -- One of two tasks is before the other.
  tied_either : (i ≡ j → ⊥) → is_urgent x ≡ is_urgent y → x.left ≡ y.left → Before x i y j ⊎ Before y j x i
  tied_either other alike same =
      by_order y.budget x.budget
      (λ h.
      by_equal x.budget y.budget
      (λ e.
      by_order i j
      (λ l. inl (by_number alike same e (omega arith)))
      (λ l. inr (by_number (sym alike) (sym same) (sym e) l)))
      (λ ne. inl (by_budget alike same (omega arith))))
      (λ l. inr (by_budget (sym alike) (sym same) l))

  alike_either : (i ≡ j → ⊥) → is_urgent x ≡ is_urgent y → Before x i y j ⊎ Before y j x i
  alike_either other alike =
      by_order x.left y.left
      (λ h.
      by_equal x.left y.left
      (tied_either other alike)
      (λ ne. inl (by_left alike (omega arith))))
      (λ l. inr (by_left (sym alike) l))

  either : (i ≡ j → ⊥) → Before x i y j ⊎ Before y j x i
  either other =
      by_tests (is_urgent x) (is_urgent y)
      (alike_either other)
      (λ p q. inl (by_urgency_lem p q))
      (λ p q. inr (by_urgency_lem q p))

then : {x y z : Job} {i j k : ℕ} → Before x i y j → Before y j z k → Before x i z k
then (by_urgency_lem p q) (by_urgency_lem r s) = not_both _ r q
then (by_urgency_lem p q) (by_left a l) = by_urgency_lem p (sym a ∙ q)
then (by_urgency_lem p q) (by_budget a e l) = by_urgency_lem p (sym a ∙ q)
then (by_urgency_lem p q) (by_number a e f l) = by_urgency_lem p (sym a ∙ q)
then (by_left a l) (by_urgency_lem r s) = by_urgency_lem (a ∙ r) s
then (by_left a l) (by_left b k) = by_left (a ∙ b) (omega arith)
then (by_left a l) (by_budget b e k) = by_left (a ∙ b) (omega arith)
then (by_left a l) (by_number b e f k) = by_left (a ∙ b) (omega arith)
then (by_budget a e l) (by_urgency_lem r s) = by_urgency_lem (a ∙ r) s
then (by_budget a e l) (by_left b k) = by_left (a ∙ b) (omega arith)
then (by_budget a e l) (by_budget b g k) = by_budget (a ∙ b) (e ∙ g) (omega arith)
then (by_budget a e l) (by_number b g h k) = by_budget (a ∙ b) (e ∙ g) (omega arith)
then (by_number a e f l) (by_urgency_lem r s) = by_urgency_lem (a ∙ r) s
then (by_number a e f l) (by_left b k) = by_left (a ∙ b) (omega arith)
then (by_number a e f l) (by_budget b g k) = by_budget (a ∙ b) (e ∙ g) (omega arith)
then (by_number a e f l) (by_number b g h k) = by_number (a ∙ b) (e ∙ g) (f ∙ h) (omega arith)

never_self : {x : Job} {i : ℕ} → Before x i x i → ⊥
never_self (by_urgency_lem p q) = not_both _ p q
never_self (by_left a l) = omega arith
never_self (by_budget a e l) = omega arith
never_self (by_number a e f l) = omega arith

pub precedes_trans :
    (x : Job) (i : ℕ) (y : Job) (j : ℕ) (z : Job) (k : ℕ) → job_precedes x i y j ≡ true → job_precedes y j z k ≡ true
    → job_precedes x i z k ≡ true
precedes_trans x i y j z k p q = holds x i z k (then (reason x i y j p) (reason y j z k q))

pub precedes_not_self : (x : Job) (i : ℕ) → job_precedes x i x i ≡ false
precedes_not_self x i = by_test (job_precedes x i x i) (λ e. absurd (never_self (reason x i x i e))) (λ e. e)

pub precedes_total :
    (x : Job) (i : ℕ) (y : Job) (j : ℕ) → (i ≡ j → ⊥) → job_precedes x i y j ≡ false → job_precedes y j x i ≡ true
precedes_total x i y j other e =
    ⊎_elim (λ b. not_both (job_precedes x i y j) (holds x i y j b) e) (holds y j x i) (either x i y j other)
