-- The quote by what was found. Others cite `refused_is`, `all_is`, `some_is` and `none_is`, the values of each answer; `Given`, what it takes for an answer,
-- with `given` and `quoted_outcome`; `answer_of`, that ranges which pass have one; `every_admitted` and `none_admitted`, from a corner to all tables within, and `stays`.
use Prim.Native.Nat.{ℕ}
use mathlib.Core.Path.{◌≡◌, sym, ap, ◌∙◌}
use mathlib.Core.Bool.{Bool, true, false}
use Rattle.laws.proofs.CaseSplits.{by_test, not_both}
use Rattle.tasks.specs.declared.table.Table.{Table}
use Rattle.std.proofs.Common.{Ok, Err}
use Rattle.tasks.specs.Outcome.{Outcome}
use Rattle.tasks.specs.declared.refusals.Refusal.{Refusal}
use Rattle.tasks.specs.Cheaper.{Cheaper}
use Rattle.tasks.proofs.OutcomeLaws.{by_outcome}
use Rattle.judge.specs.Judge.{judged}
use Rattle.judge.specs.StaysAdmitted.{StaysAdmitted}
use Rattle.judge.proofs.StaysAdmitted.{each_stays_admitted}
use Rattle.ranges.specs.declared.corner.Corner.TheVariants.{Dearest, Cheapest}
use Rattle.ranges.specs.declared.table.RangedTable.{RangedTable}
use Rattle.ranges.specs.declared.Quote.{Quote}
use Rattle.ranges.specs.declared.Quote.TheVariants.{All, Some, None}
use Rattle.ranges.specs.Ranges.{corner_table, Within}
use Rattle.ranges.specs.Check.{ranges_checked}
use Rattle.ranges.specs.Quote.{QuoteValues, refused_quote, quote_values_of, quoted_after, quoted}
use Rattle.ranges.proofs.WithinLaws.{corner_within, dearest_first, cheapest_last}

-- a cheaper table stays admitted (change 8)
pub stays : (t t' : Table) (m : ℕ) → (judged t m).admits ≡ true → Cheaper t m t' m → (judged t' m).admits ≡ true
unfolding StaysAdmitted
stays t t' m e c = (each_stays_admitted.by_window t m e).cheaper t' m c

module _ (r : RangedTable) (m : ℕ) where
  -- no refusal stands against the ranges, and these are the window test's verdicts at the corners
  pub record Given (every any : Bool) : Type 0 where
    pub checks : ranges_checked r m ≡ Ok tt
    pub at_dearest : (judged (corner_table Dearest r) m).admits ≡ every
    pub at_cheapest : (judged (corner_table Cheapest r) m).admits ≡ any

  quoted_by : (o : Outcome) → ranges_checked r m ≡ o → quoted r m ≡ quoted_after o r m
  unfolding quoted
  quoted_by o e = ap (λ (outcome : Outcome). quoted_after outcome r m) e

  pub quoted_outcome : (quoted r m).outcome ≡ ranges_checked r m
  unfolding quoted quoted_after refused_quote
  quoted_outcome = by_outcome (ranges_checked r m) (λ e. rw e) (λ why e. rw e)

  pub given : (every any : Bool) → record { outcome = Ok tt; every = every; any = any } ≡ quoted r m → Given every any
  unfolding quoted_after
  given every any e =
      let checks = sym quoted_outcome ∙ ap (λ (v : QuoteValues). v.outcome) (sym e) in
      let same = sym (quoted_by (Ok tt) checks) ∙ sym e in
      record {
        checks = checks;
        at_dearest = ap (λ (v : QuoteValues). v.every) same;
        at_cheapest = ap (λ (v : QuoteValues). v.any) same;
      }

  values_are : (every any : Bool) → Given every any → record { outcome = Ok tt; every = every; any = any } ≡ quoted r m
  unfolding quoted_after
  values_are every any g = sym (quoted_by (Ok tt) g.checks ∙ rw (g.at_dearest, g.at_cheapest))

  pub refused_is : (why : Refusal) → ranges_checked r m ≡ Err why → quote_values_of (Err why) ≡ quoted r m
  unfolding quote_values_of quoted_after
  refused_is why e = sym (quoted_by (Err why) e)

  pub some_is : Given false true → quote_values_of (Ok Some) ≡ quoted r m
  unfolding quote_values_of
  some_is = values_are false true

  pub none_is : Given false false → quote_values_of (Ok None) ≡ quoted r m
  unfolding quote_values_of
  none_is = values_are false false

  module _ (checks : ranges_checked r m ≡ Ok tt) (t : Table) (within : Within r t) where
    pub every_admitted : (judged (corner_table Dearest r) m).admits ≡ true → (judged t m).admits ≡ true
    every_admitted e = stays (corner_table Dearest r) t m e (dearest_first r m checks t within)

    pub none_admitted : (judged (corner_table Cheapest r) m).admits ≡ false → (judged t m).admits ≡ false
    none_admitted e =
        by_test (judged t m).admits
        (λ yes. not_both _ (stays t (corner_table Cheapest r) m yes (cheapest_last r m checks t within)) e)
        (λ no. no)

  pub all_is : ranges_checked r m ≡ Ok tt → (judged (corner_table Dearest r) m).admits ≡ true → quote_values_of (Ok All) ≡ quoted r m
  unfolding quote_values_of
  all_is checks e =
      values_are true true
      (record { checks = checks; at_dearest = e; at_cheapest = every_admitted checks (corner_table Cheapest r) (corner_within r m checks Cheapest) e })

  -- there is an answer with these values
  pub record Answer : Type 0 where
    pub answer : Quote
    pub values : quote_values_of (Ok answer) ≡ quoted r m

  pub answer_of : ranges_checked r m ≡ Ok tt → Answer
  answer_of checks =
      by_test (judged (corner_table Dearest r) m).admits
      (λ yes. record { answer = All; values = all_is checks yes })
      (λ no.
      by_test (judged (corner_table Cheapest r) m).admits
      (λ any. record { answer = Some; values = some_is (record { checks = checks; at_dearest = no; at_cheapest = any }) })
      (λ none. record { answer = None; values = none_is (record { checks = checks; at_dearest = no; at_cheapest = none }) }))
