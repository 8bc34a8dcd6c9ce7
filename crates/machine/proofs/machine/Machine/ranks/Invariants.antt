-- The ranks and the count of the tasks so far.
use Rattle.std.proofs.Common.{◌≡◌, ◌≤◌, replicate}
use Rattle.laws.specs.Sums.{sum_to, bit}
use Rattle.laws.specs.Lists.{replaced}
use Rattle.tasks.specs.Limits.{max_tasks}
use Rattle.job.specs.Rank.{never}
use Rattle.machine.specs.Machine.{job_at}
use Rattle.machine.specs.Pick.{pick}
use Rattle.machine.specs.Ranks.{rank_at}
use Rattle.machine.proofs.machine.Machine.ranks.Given as goal

abbrev pub invariant-loop-i : goal.invariant-loop-i
invariant-loop-i l =
    record {
      ranked : l.by_task ≡ replaced l.i (rank_at l.self (pick l.self 0)) (replicate max_tasks never);
      counted : l.open_tasks ≡ sum_to l.i (λ k. bit (job_at l.self k).«open»);
      few : l.open_tasks ≤ l.i;
    }
