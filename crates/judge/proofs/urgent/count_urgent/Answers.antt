-- `count_urgent` meets its contract: the test on the sums counts as the definition does, and the lists have the numbers of the table's tasks.
use Rattle.std.proofs.Common.{◌∙◌, arith}
use lib.ListN.{get_or-replicate}
use Rattle.tasks.specs.TaskSet.{tasks_of}
use Rattle.judge.specs.Numbers.{set_of}
use Rattle.judge.proofs.Listed.{urgent_same}
use Rattle.judge.proofs.OwnPart.{urgent_by_sums}
use Rattle.judge.proofs.urgent.count_urgent.Goals as goal

pub window_sums-requires : goal.window_sums-requires
window_sums-requires c = λ k h. get_or-replicate 32 k 0 0 (omega (arith, c.of-numbers.result.few))

pub returns : goal.returns
unfolding tasks_of
returns c =
    let m = c.args.cores in
    c.count_by_sums.ensures
    ∙ urgent_by_sums (set_of c.of-numbers.result) m c.window_sums.new.sums c.window_sums.ensures
    ∙ rw c.of-numbers.ensures (urgent_same _ _ _ _ _ c.numbers_of-own.ensures m)
