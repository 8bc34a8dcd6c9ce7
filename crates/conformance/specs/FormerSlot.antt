-- The slot as it was before document 02's change 4, said on the present machine with no core recorded, for the theorems of proofs/SlotAsBefore.antt alone.
use Rattle.std.specs.Prelude.{ℕ, cond, not, List, [], ◌∷◌, replicate, Ok}
use Rattle.tasks.specs.Limits.{max_tasks}
use Rattle.tasks.specs.declared.refusals.Reason.TheVariants.{UnsoundMachine, SlotCoresOutOfRange}
use Rattle.machine.specs.Pick.{runners}
use Rattle.machine.specs.Slot.{slot_report, after_slot}
use Rattle.machine.specs.Sound.{sound}
use Rattle.machine.specs.Calls.{refuse, release, finish, slot_cores_in_range, offer, commit}
use Rattle.machine.specs.Play.{Entry}
use Rattle.machine.specs.declared.machine.Machine.{Machine}
use Rattle.machine.specs.declared.call.Call.{Call}
use Rattle.machine.specs.declared.call.Call.TheVariants.{Release, Finish, Slot, Offer, Commit}
use Rattle.machine.specs.declared.answer.Answer.{Answer}
use Rattle.machine.specs.declared.answer.Report.{Report}

-- no core for any task
unfoldable pub no_cores : List ℕ
no_cores = replicate max_tasks 0

-- "dropping the cores" of a machine
unfoldable pub machine_without_cores : Machine → Machine
machine_without_cores m = record { table = m.table; cores = m.cores; jobs = m.jobs; assigned = no_cores; held = m.held }

-- of a report
unfoldable pub report_without_cores : Report → Report
report_without_cores r =
    record { ran = r.ran; finished = r.finished; late = r.late; runners = r.runners; assigned = no_cores }

-- of an answer
unfoldable pub answer_without_cores : Answer → Answer
answer_without_cores a =
    record { machine = machine_without_cores a.machine; outcome = a.outcome; report = report_without_cores a.report }

-- of a log
unfoldable pub log_without_cores : List Entry → List Entry
log_without_cores [] = []
log_without_cores (e ∷ log) =
    record { call = e.call; outcome = e.outcome; report = report_without_cores e.report } ∷ log_without_cores log

-- the slot of before, of a machine with no core recorded: the numbers 0 and 14, and then the four steps; none is recorded by it and none answered
unfoldable pub former_slot : Machine → (k : ℕ) → Answer
former_slot m k =
    let ran = runners m k in
    cond (not (sound m)) (refuse m UnsoundMachine)
    (cond (not (slot_cores_in_range m k)) (refuse m SlotCoresOutOfRange)
    (record { machine = after_slot m ran; outcome = Ok tt; report = slot_report m ran no_cores }))

-- a call with the slot of before; the others are what they are
unfoldable pub former_step : Machine → Call → Answer
former_step m (Release number need) = release m number need
former_step m (Finish number) = finish m number
former_step m (Slot k) = former_slot m k
former_step m (Offer t) = offer m t
former_step m Commit = commit m

-- the log of a list of calls with the slot of before
unfoldable pub former_play : Machine → List Call → List Entry
former_play m [] = []
former_play m (call ∷ calls) =
    let answer = former_step m call in
    record { call = call; outcome = answer.outcome; report = answer.report } ∷ former_play answer.machine calls
