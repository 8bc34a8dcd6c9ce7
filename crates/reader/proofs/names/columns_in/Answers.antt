-- Each name is one of the fields, or one is none of them.
use Rattle.std.proofs.Common.{◌≡◌, sym, ◌∙◌, ℕ, true, false, cond, Some, None}
use lib.Dec.{ltb}
use Rattle.laws.proofs.CaseSplits.{by_cond, clash}
use Rattle.reader.specs.Names.{deadline_name, column_in, columns_in, each_named}
use Rattle.reader.proofs.names.columns_in.Goals as goal

-- what the column c of a name is, where the code has one, and that there is none, where it has none
no_column : (c : ℕ) → cond (ltb c 3) (Some c) None ≡ None → ltb c 3 ≡ false
no_column c = by_cond (λ r. r ≡ None → ltb c 3 ≡ false) (ltb c 3) (λ t e. clash cc) (λ t e. t)

column_is : (c k : ℕ) → cond (ltb c 3) (Some c) None ≡ Some k → (ltb c 3 ≡ true) × (c ≡ k)
column_is c k = by_cond (λ r. r ≡ Some k → (ltb c 3 ≡ true) × (c ≡ k)) (ltb c 3) (λ t e. (t, cc)) (λ t e. clash cc)

pub returns-in_err-period : goal.returns-in_err-period
unfolding columns_in each_named
returns-in_err-period c =
    let none = no_column _ (sym c.column_in.ensures ∙ c.in_err-period.was) in
    c.from_residual.ensures ∙ rw none

pub returns-in_err-budget : goal.returns-in_err-budget
unfolding columns_in each_named
returns-in_err-budget c =
    let p = column_is _ _ (sym c.column_in.ensures ∙ c.in_ok-period.was) in
    let none = no_column _ (sym c.column_in-2.ensures ∙ c.in_err-budget.was) in
    c.from_residual-in_err-budget.ensures ∙ rw (p.0, none)

pub returns-in_err-deadline : goal.returns-in_err-deadline
unfolding columns_in each_named
returns-in_err-deadline c =
    let p = column_is _ _ (sym c.column_in.ensures ∙ c.in_ok-period.was) in
    let b = column_is _ _ (sym c.column_in-2.ensures ∙ c.in_ok-budget.was) in
    let a = c.args in
    let deadline = column_in deadline_name a.first.now a.second.now a.third.now in
    let none = no_column deadline (sym c.column_in-3.ensures ∙ c.in_err-deadline.was) in
    c.from_residual-in_err-deadline.ensures ∙ rw (p.0, b.0, none)

pub returns : goal.returns
unfolding columns_in each_named
returns c =
    let p = column_is _ _ (sym c.column_in.ensures ∙ c.in_ok-period.was) in
    let b = column_is _ _ (sym c.column_in-2.ensures ∙ c.in_ok-budget.was) in
    let a = c.args in
    let deadline = column_in deadline_name a.first.now a.second.now a.third.now in
    let d = column_is deadline _ (sym c.column_in-3.ensures ∙ c.in_ok-deadline.was) in
    rw (p.0, b.0, d.0, p.1, b.1, d.1)
