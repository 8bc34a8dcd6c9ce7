-- The cores so far are used.
use Rattle.std.proofs.Common.{ℕ, ◌≡◌, ◌≤◌, ◌<◌, true, false, get_or}
use Rattle.cores.proofs.assign.first_unused.Given as goal

abbrev pub invariant-loop-core : goal.invariant-loop-core
invariant-loop-core l = (c : ℕ) → 1 ≤ c → c < l.core → get_or l.used c false ≡ true
