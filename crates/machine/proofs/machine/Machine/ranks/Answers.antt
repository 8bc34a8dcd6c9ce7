-- One more task has its rank, and is counted where it is open.
use Rattle.std.proofs.Common.{◌≡◌, refl, add-one, arith}
use Rattle.laws.specs.Lists.{replaced}
use Rattle.laws.specs.Sums.{sum_to, bit}
use Rattle.laws.proofs.Booleans.{bool_byte_lem}
use Rattle.laws.proofs.SumLaws.{bit_small}
use Rattle.job.specs.Job.{fresh_job}
use Rattle.machine.specs.Machine.{job_at}
use Rattle.machine.specs.Pick.{open_count}
use Rattle.machine.specs.Ranks.{ranks}
use Rattle.machine.proofs.RanksLaws.{rank_unpicked}
use Rattle.machine.proofs.machine.Machine.ranks.Goals as goal

pub loop-i-init : goal.loop-i-init
unfolding sum_to replaced
loop-i-init c = record { ranked = refl; counted = refl; few = omega arith }

pub loop-i-preserved : goal.loop-i-preserved
unfolding sum_to replaced bit job_at fresh_job
loop-i-preserved c =
    let i = c.loop-i.i in
    let is_open = (job_at c.args.self i).«open» in
    let more : c.from-open_tasks.result ≡ bit is_open = omega (arith, bool_byte_lem is_open) in
    record {
      ranked = rw (c.rank.ensures, c.loop-i.invariant.ranked, add-one i, rank_unpicked c.args.self i);
      counted = rw (add-one i) (omega arith);
      few = omega (arith, bit_small is_open);
    }

pub returns : goal.returns
unfolding open_count ranks
returns c =
    let e : c.loop-i.i ≡ c.args.self.table.count = omega arith in
    rw (c.loop-i.invariant.ranked, c.loop-i.invariant.counted, e)
