-- `judge_ranges` meets its contract: the values of its answer are those of the quote, by the refusal and then by the verdicts at the corners, and what it answers
-- is true.
use Rattle.std.proofs.Common.{ℕ, ◌≡◌, sym, ap, ◌∙◌, Bool, Ok, Err}
use Rattle.std.proofs.lemmas.Result.{err_from_is_err_and}
use Rattle.tasks.specs.declared.table.Table.{Table}
use Rattle.tasks.specs.declared.refusals.Refusal.{Refusal}
use Rattle.tasks.proofs.OutcomeLaws.{refused_not_done}
use Rattle.judge.specs.declared.Verdict.{Verdict}
use Rattle.judge.specs.Judge.{Values, values_of, refused_values, judged}
use Rattle.ranges.specs.declared.corner.Corner.{Corner}
use Rattle.ranges.specs.declared.corner.Corner.TheVariants.{Dearest, Cheapest}
use Rattle.ranges.specs.declared.table.RangedTable.{RangedTable}
use Rattle.ranges.specs.Ranges.{corner_table}
use Rattle.ranges.specs.Check.{ranges_checked}
use Rattle.ranges.specs.Quote.{quote_values_of, quoted}
use Rattle.ranges.specs.Promise.{QuotePromise}
use Rattle.ranges.proofs.WithinLaws.{corner_within}
use Rattle.ranges.proofs.QuoteLaws.{refused_is, all_is, some_is, none_is}
use Rattle.ranges.proofs.QuoteTrue.{within_outcome, quote_true}
use Rattle.ranges.proofs.judge_ranges.Goals as goal

-- what a verdict on the table at a corner says of the definition's
verdict_at : (t corner : Table) (m : ℕ) (v : Verdict) (is : Bool) →
    t ≡ corner → values_of (Ok v) ≡ judged t m → v.admitted ≡ is → (judged corner m).admits ≡ is
unfolding values_of
verdict_at t corner m v is at_corner judges told =
    ap (λ (table : Table). (judged table m).admits) (sym at_corner) ∙ sym (ap (λ (values : Values). values.admits) judges) ∙ told

-- the table at a corner of ranges that pass is not refused
not_refused : {A : Type 0} (r : RangedTable) (corner : Corner) (m : ℕ) (t : Table) (why : Refusal) →
    Ok tt ≡ ranges_checked r m → t ≡ corner_table corner r → values_of (Err why) ≡ judged t m → A
unfolding values_of refused_values
not_refused r corner m t why checks at_corner judges =
    let outcome = λ (table : Table). (judged table m).outcome in
    let passed = within_outcome r m (sym checks) (corner_table corner r) (corner_within r m (sym checks) corner) in
    refused_not_done why (outcome t) (sym (ap (λ (values : Values). values.outcome) judges)) (ap outcome at_corner ∙ passed)

pub returns-in_err-check_ranges : goal.returns-in_err-check_ranges
unfolding QuotePromise
returns-in_err-check_ranges c =
    let p = err_from_is_err_and c.from_residual.result c.from_residual.ensures.1 in
    let e : quote_values_of c.from_residual.result ≡ quoted c.args.table c.args.cores =
    rw (p.1, p.2) (refused_is c.args.table c.args.cores _ (sym c.in_err-check_ranges.ensures)) in
    record { values = e; says = quote_true _ _ _ e }

pub returns-in_err-dearest : goal.returns-in_err-dearest
returns-in_err-dearest c =
    not_refused c.args.table Dearest c.args.cores _ _ c.in_ok-check_ranges.ensures c.at.ensures c.in_err-dearest.ensures

-- past the refusals, the verdict at the dearest corner
pub returns-then-dearest : goal.returns-then-dearest
unfolding QuotePromise
returns-then-dearest c =
    let e = all_is c.args.table c.args.cores (sym c.in_ok-check_ranges.ensures) (verdict_at _ _ _ _ _ c.at.ensures c.in_ok-dearest.ensures c.if-dearest.true) in
    record { values = e; says = quote_true _ _ _ e }

pub returns-in_err-cheapest : goal.returns-in_err-cheapest
returns-in_err-cheapest c =
    not_refused c.args.table Cheapest c.args.cores _ _ c.in_ok-check_ranges.ensures c.at-2.ensures c.in_err-cheapest.ensures

pub returns-then-cheapest : goal.returns-then-cheapest
unfolding QuotePromise
returns-then-cheapest c =
    let e =
    some_is c.args.table c.args.cores
    (record {
      checks = sym c.in_ok-check_ranges.ensures;
      at_dearest = verdict_at _ _ _ _ _ c.at.ensures c.in_ok-dearest.ensures c.if-dearest.false;
      at_cheapest = verdict_at _ _ _ _ _ c.at-2.ensures c.in_ok-cheapest.ensures c.if-cheapest.true;
    }) in
    record { values = e; says = quote_true _ _ _ e }

pub returns : goal.returns
unfolding QuotePromise
returns c =
    let e =
    none_is c.args.table c.args.cores
    (record {
      checks = sym c.in_ok-check_ranges.ensures;
      at_dearest = verdict_at _ _ _ _ _ c.at.ensures c.in_ok-dearest.ensures c.if-dearest.false;
      at_cheapest = verdict_at _ _ _ _ _ c.at-2.ensures c.in_ok-cheapest.ensures c.if-cheapest.false;
    }) in
    record { values = e; says = quote_true _ _ _ e }
