-- What is answered where a table's numbers are read into three arrays: document 01, "The table as text" and "Why a call is not carried out".
use Rattle.std.specs.Prelude.{ℕ, Result, Ok, Err}
use Rattle.tasks.specs.declared.refusals.Refusal.{Refusal}
use Rattle.tasks.specs.Outcome.{Outcome}
use Rattle.reader.specs.declared.Reading.{Reading}

-- whether reading was carried out, and how many tasks the table has
pub record CountedValues : Type 0 where
  pub outcome : Outcome
  pub count : ℕ

-- "If an answer is an enum, a definition gives this paper's number and values for each of the enum's cases."; "A refused reading hands back a table
-- of zero tasks"
unfoldable pub counted_values_of : Result ℕ Refusal → CountedValues
counted_values_of (Ok count) = record { outcome = Ok tt; count = count }
counted_values_of (Err why) = record { outcome = Err why; count = 0 }

-- those of a reading
unfoldable pub counted_in : Reading → CountedValues
counted_in r = record { outcome = r.outcome; count = r.table.count }
