-- After an accepted offer and any releases, finishes, slots and refused calls a commit is the join of that moment on the machine that holds none:
-- `commit_as_join`. An offer's outcome is that of the join: `offer_as_join`. Over every list of calls from a start the table and the held task are what the
-- log tells: `always_told`; so a commit is the join of the log's last accepted offer since the last accepted commit, or 17: `commit_by_log`.
use Rattle.tasks.proofs.OutcomeLaws.{refused_not_done}
use Rattle.tasks.specs.Refusals.{refusal}
use Rattle.std.proofs.Common.{Ok, Err, None, Option, Some}
use Prim.Native.Nat.{ℕ}
use mathlib.Core.Path.{◌≡◌, refl, sym, ap, ◌∙◌}
use mathlib.Core.Bool.{Bool, true, false, cond, not, ◌||◌}
use mathlib.Core.List.{List, [], ◌∷◌}
use lib.Dec.{leb}
use borrow.Author.Tests.{lt-leb}
use Rattle.laws.proofs.CaseSplits.{by_test, not_both}
use Rattle.laws.proofs.Booleans.{and_left, and_right}
use Rattle.tasks.specs.declared.task.Task.{Task}
use Rattle.tasks.specs.declared.table.Table.{Table}
use Rattle.tasks.specs.Limits.{max_tasks}
use Rattle.tasks.specs.declared.refusals.Reason.TheVariants.{UnsoundMachine, NotAdmitted, NoHeldTask}
use Rattle.tasks.specs.Outcome.{Outcome, is_done, first_refusal}
use Rattle.tasks.specs.Task.{in_range}
use Rattle.tasks.specs.Table.{with_task}
use Rattle.judge.specs.SlackJudge.{admission_values_of, admission}
use Rattle.machine.specs.Machine.{holding}
use Rattle.machine.specs.Sound.{sound}
use Rattle.machine.specs.Offer.{offer_verdict, offer_checked}
use Rattle.machine.specs.Calls.{done, refuse, start_after, start, offer_after, offer, with_joined, commit_held, commit, step}
use Rattle.machine.specs.Play.{play, machine_after}
use Rattle.machine.specs.InTime.{Point, point_by, point_after}
use Rattle.machine.specs.declared.machine.Machine.{Machine}
use Rattle.machine.specs.declared.call.Call.{Call}
use Rattle.machine.specs.declared.call.Call.TheVariants.{Release, Finish, Slot, Offer, Commit}
use Rattle.machine.proofs.OfferLaws.{OfferFits}
use Rattle.machine.proofs.SoundLaws.{held_fits}
use Rattle.machine.proofs.CallKinds.{point_of}
use Rattle.machine.proofs.InTimeHolds.{point_after_lem}
use Rattle.machine.proofs.SoundKept.{call_keeps, start_outcome, always_sound}
use Rattle.conformance.specs.FormerJoin.{join_after, join, holding_none, comes_between, all_between, CommitIsJoin, CommitsAsJoins, OffersAsJoins}
use Rattle.conformance.proofs.HeldApart.{sound_none}

-- a machine that holds a task
module _ (m : Machine) (ok : sound m ≡ true) (t : Task) (held_is_lem : m.held ≡ Some t) where
  commit_adds : commit m ≡ done (with_joined m t)
  unfolding commit commit_held
  commit_adds = rw ok (ap (λ (h : Option Task). commit_held h m) held_is_lem)

  join_adds : OfferFits m.table m.cores t → join (holding_none m) t ≡ done (with_joined m t)
  unfolding join join_after holding_none holding with_joined
  join_adds fits = rw (sound_none m ok, fits.in_range_lem, lt-leb max_tasks _ fits.room, fits.judged, fits.admits)

  commit_joins : CommitIsJoin m t
  unfolding done with_joined
  commit_joins =
      record {
        same = commit_adds ∙ sym (join_adds (held_fits m ok t held_is_lem));
        accepted = rw commit_adds;
        none_held = rw commit_adds;
      }

-- an accepted call that comes between keeps the point of the log
between_same : (call : Call) (p : Point) → comes_between call ≡ true → point_by call p ≡ p
unfolding point_by comes_between
between_same (Release number need) p b = refl
between_same (Finish number) p b = refl
between_same (Slot k) p b = refl
between_same (Offer t) p b = not_both false b refl
between_same Commit p b = not_both false b refl

-- so such a call, or a refused one, keeps what is held
between_keeps : (m : Machine) (call : Call) → (not (is_done (step m call).outcome) || comes_between call) ≡ true → (step m call).machine.held ≡ m.held
unfolding point_of
between_keeps m call b =
    ap (λ (p : Point). p.offered) (point_after_lem m call)
    ∙ by_test (is_done (step m call).outcome)
    (λ d. rw d (ap (λ (p : Point). p.offered) (between_same call (point_of m) (rw d at b))))
    (λ d. rw d)

after_between :
    (calls : List Call) (m : Machine) (t : Task) → sound m ≡ true → m.held ≡ Some t → all_between (play m calls) ≡ true
    → CommitIsJoin (machine_after m calls) t
unfolding play machine_after all_between
after_between [] m t ok held_is_lem b = commit_joins m ok t held_is_lem
after_between (call ∷ calls) m t ok held_is_lem b =
    let next = (step m call).machine in
    let one = between_keeps m call (and_left _ (all_between (play next calls)) b) in
    let rest = and_right (not (is_done (step m call).outcome) || comes_between call) _ b in
    after_between calls next t (call_keeps m ok call).is_sound (one ∙ held_is_lem) rest

module _ (m : Machine) (t : Task) where
  -- an accepted offer was made to a sound machine
  offer_sound : (offer m t).outcome ≡ Ok tt → sound m ≡ true
  unfolding offer refuse
  offer_sound e = by_test (sound m) (λ ok. ok) (λ no. let told : Err (refusal UnsoundMachine 0) ≡ Ok tt = rw no at e in refused_not_done _ _ refl told)

  -- and is held after it
  offer_held : (offer m t).outcome ≡ Ok tt → (offer m t).machine.held ≡ Some t
  unfolding step point_of point_by is_done
  offer_held e = ap (λ (p : Point). p.offered) (point_after_lem m (Offer t)) ∙ rw e

  after_offer :
      (offer m t).outcome ≡ Ok tt → (calls : List Call) → all_between (play (offer m t).machine calls) ≡ true
      → CommitIsJoin (machine_after (offer m t).machine calls) t
  unfolding step
  after_offer e calls = after_between calls (offer m t).machine t (call_keeps m (offer_sound e) (Offer t)).is_sound (offer_held e)

  offer_outcome : (checks : Outcome) → (offer_after checks m t).outcome ≡ checks
  unfolding offer_after done
  offer_outcome (Ok _) = refl
  offer_outcome (Err why) = refl

  last_outcome : (m' : Machine) (verdict : Outcome) (admits : Bool) → first_refusal verdict (cond admits (Ok tt) (Err (refusal NotAdmitted 0))) ≡ (join_after verdict admits m' t).outcome
  unfolding first_refusal join_after done refuse
  last_outcome m' (Ok tt) true = refl
  last_outcome m' (Ok tt) false = refl
  last_outcome m' (Err why) admits = refl

  same_outcome : sound m ≡ true → (offer m t).outcome ≡ (join (holding_none m) t).outcome
  unfolding offer join offer_checked offer_verdict admission_values_of first_refusal holding_none holding refuse
  same_outcome ok =
      let verdict = admission (with_task m.table t) m.cores in
      rw (ok, sound_none m ok)
      (offer_outcome (offer_checked m.table m.cores t)
      ∙ by_test (in_range t)
      (λ fits.
      by_test (leb max_tasks m.table.count)
      (λ full. rw (fits, full))
      (λ room. rw (fits, room) (last_outcome (holding_none m) verdict.outcome verdict.admits)))
      (λ no. rw no))

pub commit_as_join : CommitsAsJoins
unfolding CommitsAsJoins
commit_as_join = after_offer

pub offer_as_join : OffersAsJoins
unfolding OffersAsJoins
offer_as_join m ok t = same_outcome m t ok

told : (calls : List Call) (m : Machine) → point_of (machine_after m calls) ≡ point_after (point_of m) (play m calls)
unfolding play machine_after point_after
told [] m = refl
told (call ∷ calls) m =
    let next = (step m call).machine in
    told calls next ∙ ap (λ (p : Point). point_after p (play next calls)) (point_after_lem m call)

module _ (t : Table) (cores : ℕ) (starts : (start t cores).outcome ≡ Ok tt) (calls : List Call) where
  -- the machine after the calls, and the point to which their log leads
  abbrev after : Machine
  after = machine_after (start t cores).machine calls

  abbrev point : Point
  point = point_after (record { table = t; offered = None }) (play (start t cores).machine calls)

  start_point : point_of (start t cores).machine ≡ record { table = t; offered = None }
  unfolding point_of start start_after done
  start_point = rw (sym (start_outcome t cores) ∙ starts)

  pub always_told : point_of after ≡ point
  always_told = told calls (start t cores).machine ∙ ap (λ (p : Point). point_after p (play (start t cores).machine calls)) start_point

  held_told : after.held ≡ point.offered
  unfolding point_of
  held_told = ap (λ (p : Point). p.offered) always_told

  pub commit_by_log : (task : Task) → point.offered ≡ Some task → CommitIsJoin after task
  commit_by_log task e = commit_joins after (always_sound t cores starts calls).is_sound task (held_told ∙ e)

  pub commit_none : point.offered ≡ None → commit after ≡ refuse after NoHeldTask
  unfolding commit commit_held
  commit_none e = rw (always_sound t cores starts calls).is_sound (ap (λ (h : Option Task). commit_held h after) (held_told ∙ e))
