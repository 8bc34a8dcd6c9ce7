-- The calls of the machine: document 01, "The slot machine" and "Why a call is not carried out"; a slot by document 02, change 1, a release by
-- changes 3 and 5, the cores of a start and a slot by change 4, offer and commit, which a join became, by change 10, and a slot with given runners by
-- change 11.
use Rattle.std.specs.Prelude.{ℕ, ◌-◌, Bool, cond, not, ◌&&◌, List, leb, ltb, set, replicate, Ok, Err, Option, Some, None}
use Rattle.tasks.specs.declared.task.Task.{Task}
use Rattle.tasks.specs.declared.table.Table.{Table}
use Rattle.tasks.specs.Outcome.{Outcome}
use Rattle.tasks.specs.Limits.{max_tasks, max_cores}
use Rattle.tasks.specs.declared.refusals.Reason.{Reason}
use Rattle.tasks.specs.declared.refusals.Reason.TheVariants.{UnsoundMachine, NoSuchTask, ReleasedTooSoon, JobNotOpen, SlotCoresOutOfRange, NeedOutOfRange, NoHeldTask}
use Rattle.tasks.specs.Refusals.{refusal}
use Rattle.tasks.specs.Table.{with_task}
use Rattle.tasks.specs.Check.{checked}
use Rattle.job.specs.Job.{fresh_job, need_in_range, released_job, closed_job}
use Rattle.machine.specs.Machine.{zero_machine, task_at, job_at, with_job, holding, in_table}
use Rattle.machine.specs.Pick.{runners}
use Rattle.machine.specs.Slot.{no_report, slot_report, after_slot}
use Rattle.machine.specs.Cores.{slot_assignment, with_assigned}
use Rattle.machine.specs.Offer.{offer_checked}
use Rattle.machine.specs.Sound.{sound}
use Rattle.machine.specs.declared.machine.Machine.{Machine}
use Rattle.machine.specs.declared.call.Call.{Call}
use Rattle.machine.specs.declared.call.Call.TheVariants.{Release, Finish, Slot, Offer, Commit}
use Rattle.machine.specs.declared.answer.Answer.{Answer}

-- a call that is carried out and reports nothing
unfoldable pub done : Machine → Answer
done m = record { machine = m; outcome = Ok tt; report = no_report }

-- "a refused call the same machine"; "every other refusal .. carries 0"
unfoldable pub refuse : Machine → Reason → Answer
refuse m reason = record { machine = m; outcome = Err (refusal reason 0); report = no_report }

-- a start, after the refusals of starting were tried: "A fresh machine has every task closed and all three numbers 0"; change 4: "no core, .. at a
-- start"; it holds no task
unfoldable pub start_after : Outcome → Table → (cores : ℕ) → Answer
start_after (Ok _) t cores =
    done (record { table = t; cores = cores; jobs = replicate max_tasks fresh_job; assigned = replicate max_tasks 0; held = None })
start_after (Err why) t cores =
    record { machine = zero_machine; outcome = Err why; report = no_report }

-- "Judging or starting a given table"; "The machine starts on refused tables too (admission is a separate verdict)."
unfoldable pub start : Table → (cores : ℕ) → Answer
start t cores = start_after (checked t cores) t cores

-- "Release: 8, 9, 10", after 0, where change 3 takes "number 10 out of the list"; change 5: "A release now names e", and "number 15, tried after 8 and
-- before 9"
unfoldable pub release : Machine → (number need : ℕ) → Answer
release m number need =
    let i = number - 1 in
    cond (not (sound m)) (refuse m UnsoundMachine)
    (cond (not (in_table m number)) (refuse m NoSuchTask)
    (cond (not (need_in_range (task_at m i) need)) (refuse m NeedOutOfRange)
    (cond (ltb 0 (job_at m i).gap) (refuse m ReleasedTooSoon) (done (with_job m i (released_job (task_at m i) need))))))

-- "Finish: 8, 11", after 0
unfoldable pub finish : Machine → (number : ℕ) → Answer
finish m number =
    let i = number - 1 in
    cond (not (sound m)) (refuse m UnsoundMachine)
    (cond (not (in_table m number)) (refuse m NoSuchTask)
    (cond (not (job_at m i).«open») (refuse m JobNotOpen) (done (with_job m i (closed_job (job_at m i))))))

-- change 1: "A slot with k below m or above 16", the other way round
unfoldable pub slot_cores_in_range : Machine → (k : ℕ) → Bool
slot_cores_in_range m k = leb m.cores k && leb k max_cores

-- change 1: "A slot call now names how many cores it has, k"; "number 14, tried after 0; machine unchanged"; change 4: the machine
-- records the cores that are answered
unfoldable pub slot : Machine → (k : ℕ) → Answer
slot m k =
    let ran = runners m k in
    let assigned = slot_assignment m k in
    cond (not (sound m)) (refuse m UnsoundMachine)
    (cond (not (slot_cores_in_range m k)) (refuse m SlotCoresOutOfRange)
    (record { machine = with_assigned (after_slot m ran) assigned; outcome = Ok tt; report = slot_report m ran assigned }))

-- steps 2 to 4 of a slot in which these tasks ran, whoever chose them, after 0: change 11 has a log of "another maker's dispatcher", which names no cores, so
-- none is recorded; a flag of a closed task changes nothing but the report
unfoldable pub slot_with : Machine → (ran : List Bool) → Answer
slot_with m ran =
    let assigned : List ℕ = replicate max_tasks 0 in
    cond (not (sound m)) (refuse m UnsoundMachine)
    (record { machine = with_assigned (after_slot m ran) assigned; outcome = Ok tt; report = slot_report m ran assigned })

-- an offer, after its checks: "holds the task in the machine, displacing an earlier offer; a refused offer changes nothing"
unfoldable pub offer_after : Outcome → Machine → Task → Answer
offer_after (Ok _) m t = done (holding m (Some t))
offer_after (Err why) m t = record { machine = m; outcome = Err why; report = no_report }

-- change 10: "Offer runs join's checks", after 0
unfoldable pub offer : Machine → Task → Answer
offer m t = cond (not (sound m)) (refuse m UnsoundMachine) (offer_after (offer_checked m.table m.cores t) m t)

-- "added at the end of the table, closed, gap 0", with no core; change 10: "and holds none"
unfoldable pub with_joined : Machine → Task → Machine
with_joined m t =
    record {
      table = with_task m.table t;
      cores = m.cores;
      jobs = set m.jobs m.table.count fresh_job;
      assigned = set m.assigned m.table.count 0;
      held = None;
    }

-- a commit, by what the machine holds: "Commit adds the held task"; "Commit with no held task: number 17"
unfoldable pub commit_held : Option Task → Machine → Answer
commit_held None m = refuse m NoHeldTask
commit_held (Some t) m = done (with_joined m t)

-- change 10: number 17, after 0
unfoldable pub commit : Machine → Answer
commit m = cond (not (sound m)) (refuse m UnsoundMachine) (commit_held m.held m)

-- "A call is one of release, finish, slot and join"; change 10: "Join becomes two calls."
unfoldable pub step : Machine → Call → Answer
step m (Release number need) = release m number need
step m (Finish number) = finish m number
step m (Slot k) = slot m k
step m (Offer t) = offer m t
step m Commit = commit m
