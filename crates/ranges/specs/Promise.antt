-- What a quote says of the tables within the ranges: document 02, change 9, "Each answer has to be true of every choice in the ranges, also the choices never
-- tried."
use Rattle.std.specs.Prelude.{ℕ, ◌<◌, ◌≡◌, Bool, true, false, Result, Ok, Err, get_or}
use Rattle.tasks.specs.declared.table.Table.{Table}
use Rattle.tasks.specs.declared.refusals.Refusal.{Refusal}
use Rattle.judge.specs.Judge.{judged}
use Rattle.ranges.specs.declared.table.RangedTable.{RangedTable}
use Rattle.ranges.specs.declared.Quote.{Quote}
use Rattle.ranges.specs.declared.Quote.TheVariants.{All, Some, None}
use Rattle.ranges.specs.Ranges.{zero_ranged_task, Within}
use Rattle.ranges.specs.Check.{ranges_checked}
use Rattle.ranges.specs.Quote.{quote_values_of, quoted}

-- the table t is judged on m cores, not refused, and this is the window test's verdict
pub record HasVerdict (t : Table) (m : ℕ) (admits : Bool) : Type 0 where
  pub is_judged : (judged t m).outcome ≡ Ok tt
  pub verdict : (judged t m).admits ≡ admits

-- a table within the ranges has this verdict
pub record AtLeastOne (r : RangedTable) (m : ℕ) (admits : Bool) : Type 0 where
  pub choice : Table
  pub within : Within r choice
  pub has : HasVerdict choice m admits

-- every table within has it, and there is one
pub record Every (r : RangedTable) (m : ℕ) (admits : Bool) : Type 0 where
  pub each : (t : Table) → Within r t → HasVerdict t m admits
  pub there_is : AtLeastOne r m admits

-- "for some and not others", where each is judged
pub record SomeNotOthers (r : RangedTable) (m : ℕ) : Type 0 where
  pub each_judged : (t : Table) → Within r t → (judged t m).outcome ≡ Ok tt
  pub some : AtLeastOne r m true
  pub others : AtLeastOne r m false

-- what each answer says: "admitted by the window test for all values within, for none, or for some and not others", or the refusal
unfoldable pub Says : Result Quote Refusal → RangedTable → (m : ℕ) → Type 0
Says (Ok All) r m = Every r m true
Says (Ok Some) r m = SomeNotOthers r m
Says (Ok None) r m = Every r m false
Says (Err why) r m = ranges_checked r m ≡ Err why

-- "Each answer has to be true": whichever ranges and cores, what is answered by the two corners is so
unfoldable pub QuotePromise : Type 0
QuotePromise = (answer : Result Quote Refusal) (r : RangedTable) (m : ℕ) → quote_values_of answer ≡ quoted r m → Says answer r m

-- each least is its most
pub record OneValueEach (r : RangedTable) : Type 0 where
  pub one_period : (i : ℕ) → i < r.count → let range = (get_or r.tasks i zero_ranged_task).period in range.least ≡ range.most
  pub one_budget : (i : ℕ) → i < r.count → let range = (get_or r.tasks i zero_ranged_task).budget in range.least ≡ range.most

-- of such ranges it is never "for some and not others"
unfoldable pub OneValueNeverSome : Type 0
OneValueNeverSome = (r : RangedTable) (m : ℕ) → OneValueEach r → quote_values_of (Ok Some) ≡ quoted r m → ⊥
