-- The steps with the slacks of every round of the slack test at once: what a machine on an admitted set cites. Each keeps `Safe`, and `on_time` says
-- that no slot is late. Only the slot asks that the set is admitted.
use Prim.Native.Nat.{ℕ, zero, suc, ◌-◌, ◌≤◌, ◌<◌}
use mathlib.Core.Path.{◌≡◌}
use mathlib.Core.Bool.{Bool, true}
use native.Mathlib.Omega.{arith}
use Rattle.edzl.specs.TaskSet.{TaskSet}
use Rattle.edzl.proofs.WellFormed.{WellFormed}
use Rattle.laws.specs.Sums.{bit}
use Rattle.edzl.specs.Window.{spare, window_sum}
use Rattle.edzl.specs.Slack.{slack_admits}
use Rattle.edzl.proofs.Invariant.{Jobs, Invariant, Ahead, SlackFits, Fresh, lost, fresh_starts}
use Rattle.edzl.proofs.BoundLaws.{lost_bound}
use Rattle.edzl.proofs.Release.{Released, release_keeps}
use Rattle.edzl.proofs.Finish.{Finished, finish_keeps}
use Rattle.edzl.proofs.Join.{Joined, SlackShrinks, join_keeps}
use Rattle.edzl.proofs.Choice.{UrgentRun, urgent_runs}
use Rattle.edzl.proofs.Slot.{Slotted}
use Rattle.edzl.proofs.SlotKeeps.{slot_keeps, owes_in_time}
use Rattle.edzl.proofs.SlackLaws.{new_ahead}
use Rattle.edzl.proofs.SlackRounds.{slack_after, slack_start, slack_next, slacks_fit, slacks_longer, last_round, few_urgent}

-- The invariant with the slacks of each round.
abbrev pub Safe : TaskSet → (m : ℕ) → Jobs → Type 0
Safe tasks m jobs = (r : ℕ) → Invariant tasks (slack_after tasks m r) m jobs

pub safe_fresh : (tasks : TaskSet) (m : ℕ) (jobs : Jobs) → Fresh tasks jobs → Safe tasks m jobs
safe_fresh tasks m jobs fresh r = fresh_starts tasks (slack_after tasks m r) m jobs fresh

module _ (tasks : TaskSet) (well : WellFormed tasks) (m : ℕ) (before after : Jobs) (safe : Safe tasks m before) where
  fits : (r : ℕ) → SlackFits tasks (slack_after tasks m r)
  unfolding SlackFits
  fits r = slacks_fit tasks m r

  -- Every job is ahead by its slack of each round: in round 0, where there is none, because it is in time, and in the next one by the bound of the round
  -- before.
  ahead : (r : ℕ) → Ahead tasks (slack_after tasks m r) before
  unfolding Ahead lost
  ahead zero i h o = rw (slack_start tasks m i h) (omega (arith, (safe 0).in_time i h o))
  ahead (suc r) i h o =
      let inv = safe r in
      rw (slack_next tasks m r i h)
      (new_ahead m (spare tasks i) (window_sum tasks (slack_after tasks m r) i) (before.budget i) (before.left i)
      (inv.in_time i h o)
      (lost_bound tasks (slack_after tasks m r) before m i (inv.bound i h o) (inv.in_time i h o)))

  pub safe_release : (j : ℕ) → j < tasks.count → Released tasks j before after → Safe tasks m after
  safe_release j j-in step r = release_keeps tasks (slack_after tasks m r) m well (fits r) j j-in before after step (safe r) (ahead r)

  pub safe_finish : (j : ℕ) → j < tasks.count → Finished tasks j before after → Safe tasks m after
  safe_finish j j-in step r = finish_keeps tasks (slack_after tasks m r) m well j j-in before after step (safe r)

  module _ (yes-admitted : slack_admits tasks m ≡ true) (ran : ℕ → Bool) (step : Slotted tasks m ran before after) where
    -- With the slacks of the round before the last at most m tasks are counted.
    urgent_run : UrgentRun tasks.count ran before
    urgent_run =
        let r = (last_round tasks m).before in
        urgent_runs tasks (slack_after tasks m r) m ran before step.choice (safe r) (few_urgent tasks m yes-admitted)

    pub safe_slot : Safe tasks m after
    safe_slot r = slot_keeps tasks (slack_after tasks m r) m well ran before after step urgent_run (safe r)

    pub on_time : (i : ℕ) → i < tasks.count → before.is_open i ≡ true → before.budget i - bit (ran i) ≤ before.left i - 1
    on_time = owes_in_time tasks (slack_after tasks m 0) m well ran before after step urgent_run (safe 0)

pub safe_join : (shorter longer : TaskSet) (m : ℕ) (before after : Jobs) →
    WellFormed longer →
    Joined shorter longer before after →
    Safe shorter m before →
    Safe longer m after
safe_join shorter longer m before after well step safe r =
    join_keeps shorter longer (slack_after shorter m r) (slack_after longer m r) m well shrinks before after step (safe r)
  where
    shrinks : SlackShrinks shorter longer (slack_after shorter m r) (slack_after longer m r)
    shrinks =
        record {
          no_larger = slacks_longer shorter longer well (omega (arith, step.one_more)) step.same_tasks m r;
          new_fits = slacks_fit longer m r shorter.count (omega (arith, step.one_more));
        }
