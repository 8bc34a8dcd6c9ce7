-- `admits` meets its contract: by the theorem `window_admits` where the window test admits, and else by the rounds.
use Rattle.std.proofs.Common.{ℕ, ◌∙◌, sym, ap, arith}
use lib.Dec.{leb}
use lib.ListN.{get_or-replicate}
use Rattle.judge.specs.Numbers.{set_of}
use Rattle.judge.proofs.Listed.{well_listed}
use Rattle.judge.proofs.OwnPart.{window_by_sums, admits_by_sums}
use Rattle.judge.proofs.numbers.Numbers.admits.Goals as goal

pub window_sums-requires : goal.window_sums-requires
window_sums-requires c = λ k h. get_or-replicate 32 k 0 0 (omega (arith, c.args.self.now.few))

pub returns-then-urgent-cores : goal.returns-then-urgent-cores
returns-then-urgent-cores c =
    let a = c.args in
    sym (window_by_sums (set_of a.self.now) a.cores c.window_sums.new.sums (well_listed a.self.now) c.window_sums.ensures (omega arith))

pub returns : goal.returns
returns c =
    let a = c.args in
    ap (λ (reaching : ℕ). leb reaching a.cores) c.count_by_sums-reaching.ensures
    ∙ admits_by_sums (set_of a.self.now) a.cores c.last_round.new.sums c.last_round.ensures.last_sums
