-- The invariant: each sum has the new slacks of the tasks before i, and the old ones of the others.
use Rattle.std.proofs.Common.{ℕ, ◌<◌, ◌≡◌, get_or}
use Rattle.laws.specs.Sums.{sum_to}
use Rattle.judge.specs.Numbers.{set_of}
use Rattle.judge.specs.Parts.{part_of}
use Rattle.judge.proofs.Mixed.{mixed}
use Rattle.judge.proofs.numbers.Numbers.next_sums.Given as goal

abbrev pub invariant-loop-i : goal.invariant-loop-i
invariant-loop-i l =
    (k : ℕ) → k < l.self.count → get_or l.sums k 0 ≡ sum_to l.self.count (part_of (set_of l.self) (mixed l.before l.slacks l.i) k)
