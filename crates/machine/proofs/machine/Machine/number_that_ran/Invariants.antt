-- The number is that of the tasks so far that ran.
use Rattle.std.proofs.Common.{◌≡◌, ◌≤◌, false, get_or}
use Rattle.laws.specs.Sums.{sum_to, bit}
use Rattle.machine.proofs.machine.Machine.number_that_ran.Given as goal

abbrev pub invariant-loop-i : goal.invariant-loop-i
invariant-loop-i l = record { few : l.number ≤ l.i; counted : l.number ≡ sum_to l.i (λ k. bit (get_or l.ran k false)) }
