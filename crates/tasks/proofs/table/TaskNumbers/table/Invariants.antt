-- The invariant: the first entries have the numbers of the lists.
use Rattle.std.proofs.Common.{◌≡◌}
use Rattle.tasks.proofs.Made.{made}
use Rattle.tasks.proofs.table.TaskNumbers.table.Given as goal

abbrev pub invariant-loop-i : goal.invariant-loop-i
invariant-loop-i l = record { count : l.table.count ≡ l.count; tasks : l.table.tasks ≡ made l.self.periods l.self.budgets l.self.deadlines l.i }
