-- The invariant: the arrays hold what round `made` gives, and the rounds go on if some slack changed.
use Rattle.std.proofs.Common.{◌-◌}
use Rattle.judge.specs.Numbers.{set_of}
use Rattle.judge.proofs.RoundsHeld.{AtRound}
use Rattle.judge.proofs.numbers.Numbers.last_round.Given as goal

abbrev pub invariant-loop-made : goal.invariant-loop-made
invariant-loop-made l = AtRound (set_of l.self) l.cores (l.made - 1) l.before l.sums l.slacks l.changed
