-- The picks so far, and the ranks of the tasks that still wait.
use Rattle.std.proofs.Common.{◌≡◌, length, take}
use Rattle.tasks.specs.Limits.{max_tasks}
use Rattle.machine.specs.Pick.{pick}
use Rattle.machine.specs.Cores.{runner_order}
use Rattle.machine.specs.Ranks.{ranks}
use Rattle.machine.proofs.machine.Machine.pick.Given as goal

abbrev pub invariant-loop-place : goal.invariant-loop-place
invariant-loop-place l =
    record {
      ran : l.ran ≡ pick l.self l.place;
      waiting : l.waiting ≡ ranks l.self (pick l.self l.place);
      room : length l.order ≡ max_tasks;
      listed : take l.place l.order ≡ runner_order l.self l.place;
    }
