-- The quote of a ranged table: document 02, change 9, "Quotes before the numbers are known".
use Rattle.std.specs.Prelude.{ℕ, Bool, true, false, Result, Ok, Err}
use Rattle.tasks.specs.Outcome.{Outcome}
use Rattle.tasks.specs.declared.refusals.Refusal.{Refusal}
use Rattle.judge.specs.Judge.{judged}
use Rattle.ranges.specs.declared.corner.Corner.TheVariants.{Dearest, Cheapest}
use Rattle.ranges.specs.declared.table.RangedTable.{RangedTable}
use Rattle.ranges.specs.declared.Quote.{Quote}
use Rattle.ranges.specs.declared.Quote.TheVariants.{All, Some, None}
use Rattle.ranges.specs.Ranges.{corner_table}
use Rattle.ranges.specs.Check.{ranges_checked}

-- what a quote says: whether it was given, and if it was, whether the window test admits every table within the ranges and whether it admits any
pub record QuoteValues : Type 0 where
  pub outcome : Outcome
  pub every : Bool
  pub any : Bool

-- a refused quote says of no table that it is admitted
unfoldable pub refused_quote : Refusal → QuoteValues
refused_quote why = record { outcome = Err why; every = false; any = false }

-- "If an answer is an enum, a definition gives this paper's number and values for each of the enum's cases." (document 01): admitted "for all values
-- within, for none, or for some and not others"
unfoldable pub quote_values_of : Result Quote Refusal → QuoteValues
quote_values_of (Ok All) = record { outcome = Ok tt; every = true; any = true }
quote_values_of (Ok Some) = record { outcome = Ok tt; every = false; any = true }
quote_values_of (Ok None) = record { outcome = Ok tt; every = false; any = false }
quote_values_of (Err why) = refused_quote why

-- ranges on m cores, after the refusals were tried: by the window test's verdicts at the dearest corner and at the cheapest
unfoldable pub quoted_after : Outcome → RangedTable → (m : ℕ) → QuoteValues
quoted_after (Ok _) r m =
    record { outcome = Ok tt; every = (judged (corner_table Dearest r) m).admits; any = (judged (corner_table Cheapest r) m).admits }
quoted_after (Err why) r m = refused_quote why

-- the quote of ranges on m cores: "Given such a table and m, the answer is"
unfoldable pub quoted : RangedTable → (m : ℕ) → QuoteValues
quoted r m = quoted_after (ranges_checked r m) r m
