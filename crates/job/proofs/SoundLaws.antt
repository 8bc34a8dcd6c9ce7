-- What a sound job is: `gap_within`; `closed_numbers`, of a closed one; `open_numbers`, of an open one; `free_closed`, that one without a gap is
-- closed. The other way round: `closed_sound_lem` and `open_sound_lem`. Jobs that are sound: a fresh one
-- (`fresh_sound`), one that was released (`released_sound`), closed (`ended_sound`) or has passed a slot (`slot_sound`).
use Prim.Native.Nat.{ℕ, ◌-◌, ◌≤◌}
use native.Mathlib.Omega.{arith}
use mathlib.Core.Path.{◌≡◌, refl}
use mathlib.Core.Bool.{Bool, true, false, ◌&&◌}
use lib.Dec.{eqb, leb}
use borrow.Author.Tests.{eqb-true, eq-eqb, leb-true, le-leb}
use Rattle.laws.proofs.CaseSplits.{by_equal, by_test}
use Rattle.laws.proofs.Booleans.{and_left, and_right}
use Rattle.tasks.specs.declared.task.Task.{Task}
use Rattle.tasks.specs.Task.{in_range}
use Rattle.tasks.proofs.Range.{range_of}
use Rattle.job.specs.Job.{fresh_job, released_job, closed_job}
use Rattle.job.specs.Slot.{charged, aged, settled}
use Rattle.job.specs.Sound.{open_sound, closed_sound, gap_covers_left, job_sound}
use Rattle.job.specs.declared.job.Job.{Job}
use Rattle.job.proofs.NeedLaws.{NeedRange}
use Rattle.job.proofs.SlotLaws.{settled_closed, settled_finished, settled_late, settled_open}

-- a closed job's left and budget
pub record NoNumbers (j : Job) : Type 0 where
  pub left_none : j.left ≡ 0
  pub budget_none : j.budget ≡ 0

-- an open job's left, budget and gap
pub record OpenNumbers (t : Task) (j : Job) : Type 0 where
  pub left_some : 1 ≤ j.left
  pub left_fits : j.left ≤ t.deadline
  pub budget_some : 1 ≤ j.budget
  pub budget_fits : j.budget ≤ t.budget
  pub gap_covers : j.left ≤ j.gap

module _ (t : Task) (j : Job) (ok : job_sound t j ≡ true) where
  pub gap_within : j.gap ≤ t.period
  unfolding job_sound
  gap_within = leb-true _ _ (and_left _ _ ok)

  pub closed_numbers : j.«open» ≡ false → NoNumbers j
  unfolding job_sound closed_sound
  closed_numbers c =
      let rule = rw c at (and_right (leb j.gap t.period) _ ok) in
      record {
        left_none = eqb-true _ _ (and_left (eqb j.left 0) _ rule);
        budget_none = eqb-true _ _ (and_right (eqb j.left 0) _ rule);
      }

  pub open_numbers : j.«open» ≡ true → OpenNumbers t j
  unfolding job_sound open_sound gap_covers_left
  open_numbers o =
      let rules = rw o at (and_right (leb j.gap t.period) _ ok) in
      let rule = and_right (gap_covers_left j) _ rules in
      let two = leb 1 j.left && leb j.left t.deadline in
      let three = two && leb 1 j.budget in
      let h3 = and_left three _ rule in
      let h2 = and_left two _ h3 in
      record {
        left_some = leb-true _ _ (and_left (leb 1 j.left) _ h2);
        left_fits = leb-true _ _ (and_right (leb 1 j.left) _ h2);
        budget_some = leb-true _ _ (and_right two _ h3);
        budget_fits = leb-true _ _ (and_right three _ rule);
        gap_covers = leb-true _ _ (and_left (gap_covers_left j) _ rules);
      }

  -- an open job has a slot left, and its gap is no smaller
  pub free_closed : j.gap ≡ 0 → j.«open» ≡ false
  free_closed none = by_test j.«open» (λ o. absurd (omega (arith, open_numbers o))) (λ c. c)

module _ (t : Task) (j : Job) (gap : j.gap ≤ t.period) where
  pub closed_sound_lem : j.«open» ≡ false → NoNumbers j → job_sound t j ≡ true
  unfolding job_sound closed_sound
  closed_sound_lem c none = rw (le-leb _ _ gap, c, eq-eqb _ _ none.left_none, eq-eqb _ _ none.budget_none)

  pub open_sound_lem : j.«open» ≡ true → OpenNumbers t j → job_sound t j ≡ true
  unfolding job_sound open_sound gap_covers_left
  open_sound_lem o n =
      rw (
        le-leb _ _ gap,
        o,
        le-leb _ _ n.left_some,
        le-leb _ _ n.left_fits,
        le-leb _ _ n.budget_some,
        le-leb _ _ n.budget_fits,
        le-leb _ _ n.gap_covers,
      )

pub fresh_sound : (t : Task) → job_sound t fresh_job ≡ true
unfolding fresh_job
fresh_sound t = closed_sound_lem t fresh_job (omega arith) refl (record { left_none = refl; budget_none = refl })

-- whatever the need, if a release takes it
pub released_sound : (t : Task) (need : ℕ) → in_range t ≡ true → NeedRange t need → job_sound t (released_job t need) ≡ true
unfolding released_job
released_sound t need in_range_lem needed =
    let r = range_of t in_range_lem in
    open_sound_lem t (released_job t need) (omega arith) refl
    (record {
      left_some = omega (arith, r);
      left_fits = omega arith;
      budget_some = needed.need_some;
      budget_fits = needed.need_fits;
      gap_covers = omega (arith, r);
    })

-- a job that closes keeps its gap
pub ended_sound : (t : Task) (j : Job) → j.gap ≤ t.period → job_sound t (closed_job j) ≡ true
unfolding closed_job
ended_sound t j gap = closed_sound_lem t (closed_job j) gap refl (record { left_none = refl; budget_none = refl })

module _ (t : Task) (j : Job) (ran : Bool) (ok : job_sound t j ≡ true) where
  -- the job after steps 2 and 3
  after : Job
  after = aged (charged ran j)

  gap_after : after.gap ≤ t.period
  unfolding after aged charged
  gap_after = omega (arith, gap_within t j ok)

  slot_closed : j.«open» ≡ false → job_sound t (settled after) ≡ true
  unfolding after aged charged
  slot_closed c =
      let none = closed_numbers t j ok c in
      rw (settled_closed after c)
      (closed_sound_lem t after gap_after c (record { left_none = rw c none.left_none; budget_none = omega (arith, none.budget_none) }))

  slot_open : j.«open» ≡ true → job_sound t (settled after) ≡ true
  unfolding after aged charged
  slot_open o =
      let n = open_numbers t j ok o in
      let left : after.left ≡ j.left - 1 = rw o in
      by_equal after.budget 0
      (λ done. rw (settled_finished after o done) (ended_sound t after gap_after))
      (λ owes.
      by_equal after.left 0
      (λ out. rw (settled_late after o owes out) (ended_sound t after gap_after))
      (λ more.
      rw (settled_open after o owes more)
      (open_sound_lem t after gap_after o
      (record {
        left_some = omega arith;
        left_fits = omega (arith, left, n.left_fits);
        budget_some = omega arith;
        budget_fits = omega (arith, n.budget_fits);
        gap_covers = omega (arith, left, n.gap_covers);
      }))))

  pub slot_sound : job_sound t (settled (aged (charged ran j))) ≡ true
  unfolding after
  slot_sound = by_test j.«open» slot_open slot_closed
