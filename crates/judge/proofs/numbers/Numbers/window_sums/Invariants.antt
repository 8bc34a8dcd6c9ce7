-- The invariant: each sum is taken over the tasks before i.
use Rattle.std.proofs.Common.{ℕ, ◌<◌, ◌≡◌, get_or}
use Rattle.laws.specs.Sums.{sum_to}
use Rattle.edzl.specs.Window.{no_slack}
use Rattle.judge.specs.Numbers.{set_of}
use Rattle.judge.specs.Parts.{part_of}
use Rattle.judge.proofs.numbers.Numbers.window_sums.Given as goal

abbrev pub invariant-loop-i : goal.invariant-loop-i
invariant-loop-i l = (k : ℕ) → k < l.self.count → get_or l.sums k 0 ≡ sum_to l.i (part_of (set_of l.self) no_slack k)
