use Rattle.std.proofs.Common.{arith}
use Rattle.host.specs.Host.{number_for}
use Rattle.host.proofs.Small.{answer_small}
use Rattle.host.proofs.edzl_admit.Goals as goal

pub overflow_add-result : goal.overflow_add-result
unfolding number_for
overflow_add-result c =
    let told = rw c.in-Err.is at c.admit_text.ensures in omega (arith, answer_small c.args.text.now c.args.cores, told, c.number.ensures)
