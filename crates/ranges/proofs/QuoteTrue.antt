-- Each answer is true of every table within the ranges: the theorem `quote_true`; and `one_value_never_some`.
use Prim.Native.Nat.{ℕ}
use native.Mathlib.Omega.{arith}
use mathlib.Core.Path.{◌≡◌, sym, ap, ◌∙◌}
use mathlib.Core.Bool.{Bool, true, false}
use Rattle.laws.proofs.CaseSplits.{not_both}
use Rattle.tasks.specs.declared.table.Table.{Table}
use Rattle.std.proofs.Common.{Ok, Err}
use Rattle.judge.specs.Judge.{judged}
use Rattle.judge.proofs.Outcome.{judged_outcome}
use Rattle.ranges.specs.declared.corner.Corner.{Corner}
use Rattle.ranges.specs.declared.corner.Corner.TheVariants.{Dearest, Cheapest}
use Rattle.ranges.specs.declared.table.RangedTable.{RangedTable}
use Rattle.ranges.specs.declared.Quote.TheVariants.{All, Some, None}
use Rattle.ranges.specs.Ranges.{corner_table, Within}
use Rattle.ranges.specs.Check.{ranges_checked}
use Rattle.ranges.specs.Quote.{QuoteValues, refused_quote, quote_values_of}
use Rattle.ranges.specs.Promise.{HasVerdict, AtLeastOne, Says, QuotePromise, OneValueNeverSome}
use Rattle.ranges.proofs.WithinLaws.{corner_within, no_dearer, within_judged}
use Rattle.ranges.proofs.QuoteLaws.{stays, given, quoted_outcome, every_admitted, none_admitted}

module _ (r : RangedTable) (m : ℕ) (checks : ranges_checked r m ≡ Ok tt) where
  pub within_outcome : (t : Table) → Within r t → (judged t m).outcome ≡ Ok tt
  within_outcome t w = judged_outcome t m ∙ within_judged r m checks t w

  has_verdict : (t : Table) (admits : Bool) → Within r t → (judged t m).admits ≡ admits → HasVerdict t m admits
  has_verdict t admits w e = record { is_judged = within_outcome t w; verdict = e }

  at_corner : (corner : Corner) (admits : Bool) → (judged (corner_table corner r) m).admits ≡ admits → AtLeastOne r m admits
  at_corner corner admits e =
      let w = corner_within r m checks corner in
      record { choice = corner_table corner r; within = w; has = has_verdict (corner_table corner r) admits w e }

pub quote_true : QuotePromise
unfolding QuotePromise Says quote_values_of refused_quote
quote_true (Ok All) r m e =
    let g = given r m true true e in
    record {
      each = λ t w. has_verdict r m g.checks t true w (every_admitted r m g.checks t w g.at_dearest);
      there_is = at_corner r m g.checks Dearest true g.at_dearest;
    }
quote_true (Ok Some) r m e =
    let g = given r m false true e in
    record {
      each_judged = within_outcome r m g.checks;
      some = at_corner r m g.checks Cheapest true g.at_cheapest;
      others = at_corner r m g.checks Dearest false g.at_dearest;
    }
quote_true (Ok None) r m e =
    let g = given r m false false e in
    record {
      each = λ t w. has_verdict r m g.checks t false w (none_admitted r m g.checks t w g.at_cheapest);
      there_is = at_corner r m g.checks Cheapest false g.at_cheapest;
    }
quote_true (Err why) r m e = sym (quoted_outcome r m) ∙ sym (ap (λ (v : QuoteValues). v.outcome) e)

-- two tables within ranges of one value each have the same numbers, so that the one costs no more than the other
pub one_value_never_some : OneValueNeverSome
unfolding OneValueNeverSome quote_values_of
one_value_never_some r m one e =
    let g = given r m false true e in
    let dearest = corner_within r m g.checks Dearest in
    let cheapest = corner_within r m g.checks Cheapest in
    let no_more =
    no_dearer r m g.checks (corner_table Cheapest r) (corner_table Dearest r) cheapest dearest
    (λ i h.
    let a = cheapest.each i h in
    let b = dearest.each i h in
    record {
      budget_no_larger = omega (arith, a.budget_in.from_least, b.budget_in.to_most, one.one_budget i h);
      period_no_smaller = omega (arith, a.period_in.to_most, b.period_in.from_least, one.one_period i h);
    }) in
    not_both _ (stays (corner_table Cheapest r) (corner_table Dearest r) m g.at_cheapest no_more) g.at_dearest
