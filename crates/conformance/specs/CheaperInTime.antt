-- The contract line of cheaper tables: document 02, change 8, "Buyers trim budgets after signing and don't wish to be judged anew."
use Rattle.std.specs.Prelude.{ℕ, ◌≡◌, true, List, ◌⊎◌, Ok}
use Rattle.tasks.specs.declared.table.Table.{Table}
use Rattle.tasks.specs.Cheaper.{Cheaper}
use Rattle.judge.specs.Judge.{judged}
use Rattle.judge.specs.SlackJudge.{admission}
use Rattle.machine.specs.Calls.{start}
use Rattle.machine.specs.Play.{play}
use Rattle.machine.specs.InTime.{InTime}
use Rattle.machine.specs.declared.call.Call.{Call}

-- a table starts on so many cores, and the claim of demand 3 holds of the log of every list of calls from the fresh machine
pub record StartsInTime (t : Table) (m : ℕ) : Type 0 where
  pub starts : (start t m).outcome ≡ Ok tt
  pub in_time : (calls : List Call) → InTime t (play (start t m).machine calls)

-- if the window test or the slack test admits the table t on m cores, then `StartsInTime` of every table t' that is cheaper, on its m' cores; that t' is
-- admitted is not asked
unfoldable pub CheaperPromise : Type 0
CheaperPromise =
    (t : Table) (m : ℕ) → (((judged t m).admits ≡ true) ⊎ ((admission t m).admits ≡ true)) → (t' : Table) (m' : ℕ) → Cheaper t m t' m' → StartsInTime t' m'
