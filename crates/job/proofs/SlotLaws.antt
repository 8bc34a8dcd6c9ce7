-- A job in a slot. Others cite: `settled_gap`, `settled_closed`, `settled_finished`, `settled_late`, `settled_open`, step 4 by the state of the
-- job before it; and `fresh_stays`, that a fresh job stays one.
use mathlib.Core.Path.{◌≡◌, refl}
use mathlib.Core.Bool.{Bool, true, false, ◌||◌}
use borrow.Author.Tests.{eq-eqb, ne_eqb}
use Rattle.laws.specs.Sums.{bit}
use Rattle.laws.proofs.CaseSplits.{by_test}
use Rattle.job.specs.Job.{fresh_job, closed_job}
use Rattle.job.specs.Slot.{charged, aged, is_finished, is_late, settled}
use Rattle.job.specs.declared.job.Job.{Job}

module _ (j : Job) where
  pub settled_gap : (settled j).gap ≡ j.gap
  unfolding settled closed_job
  settled_gap = by_test (is_finished j || is_late j) (λ e. rw e) (λ e. rw e)

  pub settled_closed : j.«open» ≡ false → settled j ≡ j
  unfolding settled is_finished is_late
  settled_closed c = rw c

  module _ (o : j.«open» ≡ true) where
    pub settled_finished : j.budget ≡ 0 → settled j ≡ closed_job j
    unfolding settled is_finished
    settled_finished e = rw (o, eq-eqb _ _ e)

    pub settled_late : (j.budget ≡ 0 → ⊥) → j.left ≡ 0 → settled j ≡ closed_job j
    unfolding settled is_finished is_late
    settled_late ne e = rw (o, ne_eqb _ _ ne, eq-eqb _ _ e)

    pub settled_open : (j.budget ≡ 0 → ⊥) → (j.left ≡ 0 → ⊥) → settled j ≡ j
    unfolding settled is_finished is_late
    settled_open ne more = rw (o, ne_eqb _ _ ne, ne_eqb _ _ more)

pub fresh_stays : (ran : Bool) → settled (aged (charged ran fresh_job)) ≡ fresh_job
unfolding settled is_finished is_late aged charged fresh_job bit
fresh_stays true = refl
fresh_stays false = refl
