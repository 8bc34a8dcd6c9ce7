-- `check_each` meets its contract.
use Rattle.std.proofs.Common.{suc, ◌+◌, ◌-◌, ◌≡◌, sym, arith, ne_eqb}
use Rattle.tasks.specs.Check.{first_out_of_range}
use Rattle.tasks.proofs.check.check_each.Goals as goal

pub loop-i-preserved : goal.loop-i-preserved
unfolding first_out_of_range
loop-i-preserved g c = λ tasks same.
    let more : c.args.count - c.loop-i.i ≡ suc (c.args.count - (c.loop-i.i + 1)) = omega arith in
    let here = sym (same c.loop-i.i c.task_at.result (omega arith) c.task_at.ensures) in
    rw (c.loop-i.invariant tasks same, more, here, sym c.in_range.ensures, c.if-not-in_range.false)

pub returns-then-not-in_range : goal.returns-then-not-in_range
unfolding first_out_of_range
returns-then-not-in_range g c = λ tasks same.
    let more : c.args.count - c.loop-i.i ≡ suc (c.args.count - (c.loop-i.i + 1)) = omega arith in
    let here = sym (same c.loop-i.i c.task_at.result (omega arith) c.task_at.ensures) in
    let place : first_out_of_range tasks 0 c.args.count ≡ c.loop-i.i + 1 =
    rw (c.loop-i.invariant tasks same, more, here, sym c.in_range.ensures, c.if-not-in_range.true) in
    rw (c.at.ensures, place, ne_eqb (c.loop-i.i + 1) 0 (omega arith))

pub returns : goal.returns
unfolding first_out_of_range
returns g c = λ tasks same.
    let all : c.args.count - c.loop-i.i ≡ 0 = omega arith in
    let none : first_out_of_range tasks 0 c.args.count ≡ 0 = rw (c.loop-i.invariant tasks same, all) in
    rw none
