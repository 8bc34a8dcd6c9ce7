-- The invariant: the sums before k are added up.
use Rattle.std.proofs.Common.{◌+◌, ◌≡◌, get_or}
use Rattle.laws.specs.Lists.{replaced}
use Rattle.edzl.specs.Window.{window_sum}
use Rattle.judge.specs.Numbers.{set_of}
use Rattle.judge.specs.Parts.{own_at}
use Rattle.judge.proofs.numbers.Numbers.sums_anew.Given as goal

abbrev pub invariant-loop-k : goal.invariant-loop-k
invariant-loop-k l =
    l.sums ≡ replaced l.k (λ j. window_sum (set_of l.self) (λ i. get_or l.slacks i 0) j + own_at (set_of l.self) j) l.fn.sums
