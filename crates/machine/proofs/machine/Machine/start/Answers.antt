-- The answer goes by the refusals of starting, and the promise is the theorem (InTimeHolds.antt).
use Rattle.machine.specs.Machine.{zero_machine}
use Rattle.machine.specs.Calls.{start_after, start}
use Rattle.machine.proofs.InTimeHolds.{promise}
use Rattle.machine.proofs.machine.Machine.start.Goals as goal

pub returns-in-Err : goal.returns-in-Err
unfolding start start_after
returns-in-Err c =
    record {
      is = rw (← c.check.ensures, c.in-Err.is, c.zero_machine.ensures, c.none.ensures);
      in_time = promise _ _;
    }

pub returns : goal.returns
unfolding start start_after zero_machine
returns c =
    record {
      is = rw (← c.check.ensures, c.in_default.is, c.done.ensures, c.zero_machine-2.ensures);
      in_time = promise _ _;
    }
