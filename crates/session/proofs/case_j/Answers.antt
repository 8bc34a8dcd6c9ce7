-- `case_j` meets its contract: the table is that of the case's tasks.
use mathlib.Core.Path.{◌≡◌}
use mathlib.Core.List.{[], ◌∷◌}
use lib.ListN.{set}
use Rattle.tasks.specs.declared.task.Task.{Task}
use Rattle.tasks.specs.declared.table.Table.{Table}
use Rattle.tasks.specs.Table.{empty_table}
use Rattle.tasks.specs.Written.{task, table_of}
use Rattle.machine.proofs.Computing.{computing}
use Rattle.session.specs.Printed.{case_j}
use Rattle.session.proofs.Playing.{session_lines}
use Rattle.session.proofs.case_j.Goals as goal

-- the table that the code makes
table_is :
    (e : Table) (t₁ t₂ t₃ : Task) → e ≡ empty_table → t₁ ≡ task 6 2 3 → t₂ ≡ task 6 2 3 → t₃ ≡ task 6 5 6
    → ◌≡◌ {A = Table} (record { count = 3; tasks = set (set (set e.tasks 0 t₁) 1 t₂) 2 t₃ }) (table_of (task 6 2 3 ∷ task 6 2 3 ∷ task 6 5 6 ∷ []))
unfolding computing
table_is e t₁ t₂ t₃ p q₁ q₂ q₃ = rw (p, q₁, q₂, q₃)

pub returns : goal.returns
unfolding case_j
returns c =
    session_lines (task 6 2 3 ∷ task 6 2 3 ∷ task 6 5 6 ∷ []) 2 6 _ _ _ c.released.ensures c.start-started.ensures.is
    (table_is _ _ _ _ c.empty-table.ensures c.task.ensures c.task-2.ensures c.task-3.ensures)
