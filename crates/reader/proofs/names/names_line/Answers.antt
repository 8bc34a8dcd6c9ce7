-- By the fields that are cut out of the text, and the columns of the names among them.
use Rattle.std.proofs.Common.{◌≡◌, sym, ◌∙◌, true, false, cond, Some, None}
use Rattle.laws.proofs.CaseSplits.{by_cond, clash}
use Rattle.reader.specs.declared.names.Columns.{Columns}
use Rattle.reader.specs.Names.{each_named}
use Rattle.reader.proofs.NamesLine.{no_first, no_second, no_end, no_names, all_three}
use Rattle.reader.proofs.names.names_line.Goals as goal

not_named : (k : Columns) → cond (each_named k) (Some k) None ≡ None → each_named k ≡ false
not_named k = by_cond (λ r. r ≡ None → each_named k ≡ false) (each_named k) (λ t e. clash cc) (λ t e. t)

all_named : (k l : Columns) → cond (each_named k) (Some k) None ≡ Some l → (each_named k ≡ true) × (k ≡ l)
all_named k l = by_cond (λ r. r ≡ Some l → (each_named k ≡ true) × (k ≡ l)) (each_named k) (λ t e. (t, cc)) (λ t e. clash cc)

pub returns-then-text-first : goal.returns-then-text-first
returns-then-text-first c = no_first _ _ c.field_up_to-first.ensures c.if-text-first.true

pub returns-then-rest-second : goal.returns-then-rest-second
returns-then-rest-second c =
    no_second _ _ c.field_up_to-first.ensures c.if-text-first.false _ c.field_up_to-second.ensures c.if-rest-second.true

pub returns-then-last-third : goal.returns-then-last-third
returns-then-last-third c =
    no_end _ _ c.field_up_to-first.ensures c.if-text-first.false _ c.field_up_to-second.ensures c.if-rest-second.false
    _ c.field_up_to-third.ensures c.if-last-third.true

pub returns-in_err-columns : goal.returns-in_err-columns
returns-in_err-columns c =
    c.from_residual.ensures
    ∙ no_names _ _ c.field_up_to-first.ensures c.if-text-first.false _ c.field_up_to-second.ensures c.if-rest-second.false
    _ c.field_up_to-third.ensures c.if-last-third.false (not_named _ (sym c.columns_in.ensures ∙ c.in_err-columns.was))

pub returns : goal.returns
returns c =
    let n = all_named _ _ (sym c.columns_in.ensures ∙ c.in_ok-columns.was) in
    all_three _ _ c.field_up_to-first.ensures c.if-text-first.false _ c.field_up_to-second.ensures c.if-rest-second.false
    _ c.field_up_to-third.ensures c.if-last-third.false _ (sym n.1) (rw n.1 at n.0)
