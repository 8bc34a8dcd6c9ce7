-- Document 01's join, which became offer and commit by document 02's change 10, said on the present machine; and the words in which the theorems of
-- proofs/CommitAsJoin.antt and proofs/HeldApart.antt speak of what comes between the two, with what they say. Nothing else uses them.
use Rattle.std.specs.Prelude.{◌≡◌, Bool, true, false, cond, not, ◌&&◌, ◌||◌, List, [], ◌∷◌, leb, Ok, Err, None, Option}
use Rattle.tasks.specs.declared.task.Task.{Task}
use Rattle.tasks.specs.Limits.{max_tasks}
use Rattle.tasks.specs.declared.refusals.Reason.TheVariants.{UnsoundMachine, TaskOutOfRange, TableFull, NotAdmitted}
use Rattle.tasks.specs.Outcome.{Outcome, is_done}
use Rattle.tasks.specs.Task.{in_range}
use Rattle.tasks.specs.Table.{with_task}
use Rattle.judge.specs.SlackJudge.{admission}
use Rattle.machine.specs.Machine.{holding}
use Rattle.machine.specs.Slot.{no_report}
use Rattle.machine.specs.Sound.{sound}
use Rattle.machine.specs.Calls.{done, refuse, offer, with_joined, commit, step}
use Rattle.machine.specs.Play.{Entry, play, machine_after}
use Rattle.machine.specs.declared.machine.Machine.{Machine}
use Rattle.machine.specs.declared.call.Call.{Call}
use Rattle.machine.specs.declared.call.Call.TheVariants.{Release, Finish, Slot, Offer, Commit}
use Rattle.machine.specs.declared.answer.Answer.{Answer}

-- a join, after the verdict on the longer table: "if the longer table is admitted on m cores"; "A join whose verdict is a refusal ends there with
-- that refusal."
unfoldable pub join_after : Outcome → (admits : Bool) → Machine → Task → Answer
join_after (Ok _) admits m t = cond admits (done (with_joined m t)) (refuse m NotAdmitted)
join_after (Err why) admits m t = record { machine = m; outcome = Err why; report = no_report }

-- document 01: "Join: 5, 12, 13", after 0; change 6: "Joins .. go by this test"; the machine is to hold none
unfoldable pub join : Machine → Task → Answer
join m t =
    let verdict = admission (with_task m.table t) m.cores in
    cond (not (sound m)) (refuse m UnsoundMachine)
    (cond (not (in_range t)) (refuse m TaskOutOfRange)
    (cond (leb max_tasks m.table.count) (refuse m TableFull) (join_after verdict.outcome verdict.admits m t)))

-- the machine that holds none
unfoldable pub holding_none : Machine → Machine
holding_none m = holding m None

-- an answer whose machine holds this
unfoldable pub answer_holding : Option Task → Answer → Answer
answer_holding held a = record { machine = holding a.machine held; outcome = a.outcome; report = a.report }

-- change 10: "Releases, finishes and slots may come between."
unfoldable pub comes_between : Call → Bool
comes_between (Release number need) = true
comes_between (Finish number) = true
comes_between (Slot k) = true
comes_between (Offer t) = false
comes_between Commit = false

-- every accepted call of a log is one of these
unfoldable pub all_between : List Entry → Bool
all_between [] = true
all_between (e ∷ log) = (not (is_done e.outcome) || comes_between e.call) && all_between log

-- change 10: "After a commit the machine is the one that join would have given at that moment.": of the task t and the machine m; and so are the outcome
-- and the report
pub record CommitIsJoin (m : Machine) (t : Task) : Type 0 where
  pub same : commit m ≡ join (holding_none m) t
  pub accepted : (commit m).outcome ≡ Ok tt
  pub none_held : (commit m).machine.held ≡ None

-- this after every accepted offer and any releases, finishes, slots and refused calls
unfoldable pub CommitsAsJoins : Type 0
CommitsAsJoins =
    (m : Machine) (t : Task) → (offer m t).outcome ≡ Ok tt → (calls : List Call) → all_between (play (offer m t).machine calls) ≡ true
    → CommitIsJoin (machine_after (offer m t).machine calls) t

-- "Offer runs join's checks": on every sound machine
unfoldable pub OffersAsJoins : Type 0
OffersAsJoins = (m : Machine) → sound m ≡ true → (t : Task) → (offer m t).outcome ≡ (join (holding_none m) t).outcome

-- on every sound machine the calls that may come between answer as if none were held, and keep what is
unfoldable pub HeldPlaysNoPart : Type 0
HeldPlaysNoPart =
    (m : Machine) → sound m ≡ true → (call : Call) → comes_between call ≡ true → answer_holding m.held (step (holding_none m) call) ≡ step m call
