-- One more task is counted where it ran.
use Rattle.std.proofs.Common.{◌≡◌, refl, add-one, arith, false, get_or}
use Rattle.laws.specs.Sums.{sum_to, bit}
use Rattle.laws.proofs.Booleans.{bool_byte_lem}
use Rattle.laws.proofs.SumLaws.{bit_small}
use Rattle.machine.specs.Slot.{ran_count}
use Rattle.machine.proofs.machine.Machine.number_that_ran.Goals as goal

pub loop-i-init : goal.loop-i-init
unfolding sum_to
loop-i-init c = record { few = omega arith; counted = refl }

pub loop-i-preserved : goal.loop-i-preserved
unfolding sum_to bit
loop-i-preserved c =
    let i = c.loop-i.i in
    let ran = get_or c.args.ran i false in
    let more : c.from-number.result ≡ bit ran = omega (arith, bool_byte_lem ran) in
    record { few = omega (arith, bit_small ran); counted = rw (add-one i) (omega arith) }

pub returns : goal.returns
unfolding ran_count
returns c =
    let e : c.loop-i.i ≡ c.args.self.table.count = omega arith in
    rw e at c.loop-i.invariant.counted
