-- `case_k` meets its contract: the table is that of the case's tasks.
use mathlib.Core.Path.{◌≡◌}
use mathlib.Core.List.{[], ◌∷◌}
use lib.ListN.{set}
use Rattle.tasks.specs.declared.task.Task.{Task}
use Rattle.tasks.specs.declared.table.Table.{Table}
use Rattle.tasks.specs.Table.{empty_table}
use Rattle.tasks.specs.Written.{task, table_of}
use Rattle.machine.proofs.Computing.{computing}
use Rattle.session.specs.Printed.{case_k}
use Rattle.session.proofs.Playing.{session_lines}
use Rattle.session.proofs.case_k.Goals as goal

-- the table that the code makes
table_is :
    (e : Table) (t₁ t₂ : Task) → e ≡ empty_table → t₁ ≡ task 5 5 5 → t₂ ≡ task 5 5 5
    → ◌≡◌ {A = Table} (record { count = 2; tasks = set (set e.tasks 0 t₁) 1 t₂ }) (table_of (task 5 5 5 ∷ task 5 5 5 ∷ []))
unfolding computing
table_is e t₁ t₂ p q₁ q₂ = rw (p, q₁, q₂)

pub returns : goal.returns
unfolding case_k
returns c =
    session_lines (task 5 5 5 ∷ task 5 5 5 ∷ []) 1 5 _ _ _ c.released.ensures c.start-started.ensures.is
    (table_is _ _ _ c.empty-table.ensures c.task.ensures c.task-2.ensures)
