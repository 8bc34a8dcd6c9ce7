-- `numbers_of` meets its contract.
use Rattle.std.proofs.Common.{refl, arith}
use Rattle.laws.specs.Lists.{replaced}
use Rattle.tasks.specs.Table.{zero_task}
use Rattle.tasks.specs.Numbers.{zero_numbers}
use Rattle.laws.proofs.Replaced.{replaced_more, replaced_at}
use Rattle.judge.proofs.numbers.numbers_of.Goals as goal

pub loop-i-init : goal.loop-i-init
unfolding replaced zero_numbers
loop-i-init c = record { periods = refl; budgets = refl; deadlines = refl }

pub loop-i-preserved : goal.loop-i-preserved
unfolding zero_task
loop-i-preserved c =
    let v = c.loop-i.invariant in
    record {
      periods = replaced_more _ _ _ v.periods refl;
      budgets = replaced_more _ _ _ v.budgets refl;
      deadlines = replaced_more _ _ _ v.deadlines refl;
    }

pub returns : goal.returns
returns c =
    let v = c.loop-i.invariant in
    let n = c.loop-i.i in
    record {
      same_period = λ i h. rw v.periods (replaced_at _ _ 0 n i (omega arith) (omega arith));
      same_budget = λ i h. rw v.budgets (replaced_at _ _ 0 n i (omega arith) (omega arith));
      same_deadline = λ i h. rw v.deadlines (replaced_at _ _ 0 n i (omega arith) (omega arith));
    }
