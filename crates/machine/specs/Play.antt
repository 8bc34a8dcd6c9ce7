-- A list of calls played on a machine: document 01, "The slot machine". `play` gives what is answered, `machine_after` the machine after it.
use Rattle.std.specs.Prelude.{List, [], ◌∷◌}
use Rattle.tasks.specs.Outcome.{Outcome}
use Rattle.machine.specs.Calls.{step}
use Rattle.machine.specs.declared.machine.Machine.{Machine}
use Rattle.machine.specs.declared.call.Call.{Call}
use Rattle.machine.specs.declared.answer.Report.{Report}

-- a call and its answer, without the machine
pub record Entry : Type 0 where
  pub call : Call
  pub outcome : Outcome
  pub report : Report

-- the log of a list of calls: the first call gets the machine m, "each later call gets the machine that the call before gave back"
unfoldable pub play : Machine → List Call → List Entry
play m [] = []
play m (call ∷ calls) =
    let answer = step m call in
    record { call = call; outcome = answer.outcome; report = answer.report } ∷ play answer.machine calls

-- the machine after a list of calls
unfoldable pub machine_after : Machine → List Call → Machine
machine_after m [] = m
machine_after m (call ∷ calls) = machine_after (step m call).machine calls
