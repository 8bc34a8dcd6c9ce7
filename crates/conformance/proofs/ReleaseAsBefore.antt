-- On every machine a release that names the whole budget does and answers what the release without a need did: `whole_as_before`. On every sound one it is also
-- what it was with number 10 in its list: `release_as_before`.
use Prim.Native.Nat.{ℕ, zero, suc, ◌-◌, ◌<◌}
use native.Mathlib.Omega.{arith}
use mathlib.Core.Path.{◌≡◌, refl, ◌∙◌}
use mathlib.Core.Bool.{true}
use lib.Dec.{ltb}
use borrow.Author.Tests.{ltb-false, le-leb, eq-eqb}
use Rattle.laws.proofs.CaseSplits.{by_test}
use Rattle.tasks.specs.declared.task.Task.{Task}
use Rattle.tasks.specs.Outcome.{is_done}
use Rattle.job.specs.Job.{released_job}
use Rattle.job.proofs.NeedLaws.{whole_in_range}
use Rattle.job.specs.declared.job.Job.{Job}
use Rattle.job.specs.Sound.{open_sound, closed_sound, job_sound}
use Rattle.job.proofs.SoundLaws.{gap_within, closed_numbers, open_numbers}
use Rattle.machine.specs.Machine.{task_at, job_at, in_table}
use Rattle.machine.specs.Sound.{sound}
use Rattle.machine.specs.Calls.{release}
use Rattle.conformance.specs.FormerSound.{former_job_sound}
use Rattle.conformance.specs.FormerRelease.{whole_job, whole_release, former_jobs_sound, former_sound, former_release}
use Rattle.machine.specs.declared.machine.Machine.{Machine}
use Rattle.machine.proofs.SoundLaws.{sound_checks, sound_passes, sound_job, sound_free}
use Rattle.machine.proofs.TaskNumbers.{known_task}

pub whole_as_before : (m : Machine) (number : ℕ) → release m number (task_at m (number - 1)).budget ≡ whole_release m number
unfolding release whole_release released_job whole_job task_at
whole_as_before m number =
    by_test (sound m)
    (λ ok.
    by_test (in_table m number)
    (λ known.
    let fits = (sound_passes m ok).tasks_fit (number - 1) (known_task m number ok known).inside in
    rw (ok, known, whole_in_range (task_at m (number - 1)) fits))
    (λ unknown. rw (ok, unknown)))
    (λ unsound. rw unsound)

-- a sound job was sound before change 3 too
was_sound : (t : Task) (j : Job) → job_sound t j ≡ true → former_job_sound t j ≡ true
unfolding former_job_sound open_sound closed_sound
was_sound t j ok =
    by_test j.«open»
    (λ o.
    let n = open_numbers t j ok o in
    rw (
      le-leb _ _ (gap_within t j ok),
      o,
      le-leb _ _ n.left_some,
      le-leb _ _ n.left_fits,
      le-leb _ _ n.budget_some,
      le-leb _ _ n.budget_fits,
    ))
    (λ c.
    let none = closed_numbers t j ok c in
    rw (le-leb _ _ (gap_within t j ok), c, eq-eqb _ _ none.left_none, eq-eqb _ _ none.budget_none))

all_were : (m : Machine) (n : ℕ) → ((i : ℕ) → i < n → former_job_sound (task_at m i) (job_at m i) ≡ true) → former_jobs_sound m n ≡ true
unfolding former_jobs_sound
all_were m zero each = refl
all_were m (suc n) each = rw (all_were m n (λ i h. each i (omega arith)), each n (omega arith))

module _ (m : Machine) (ok : sound m ≡ true) where
  was_sound_too : former_sound m ≡ true
  unfolding former_sound is_done
  was_sound_too = rw (sound_checks m ok, all_were m m.table.count (λ i h. was_sound (task_at m i) (job_at m i) (sound_job m ok i h)))

  pub release_as_before : (number : ℕ) → release m number (task_at m (number - 1)).budget ≡ former_release m number
  unfolding whole_release former_release
  release_as_before number =
      let gap = (job_at m (number - 1)).gap in
      whole_as_before m number
      ∙ rw (ok, was_sound_too)
      (by_test (in_table m number)
      (λ known.
      rw known
      (by_test (ltb 0 gap)
      (λ soon. rw soon)
      (λ free. rw (free, sound_free m ok (number - 1) (known_task m number ok known).inside (omega (arith, ltb-false 0 gap free))))))
      (λ unknown. rw unknown))
