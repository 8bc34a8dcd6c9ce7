-- The machine's jobs as the theory's functions of an index: `jobs_of`. After one of them was set, that one is the new one (`job_set`), or a fresh one
-- past the last that is recorded (`job_unset`), and the others are as they were (`job_other`, and `rest_same` by `same_job`).
use Prim.Native.Nat.{ℕ, ◌≤◌, ◌<◌}
use native.Mathlib.Omega.{arith}
use mathlib.Core.Path.{◌≡◌}
use lib.ListN.{length, set, length-set, get_or-eq_default}
use lib.Seq.{get_or-set_same, get_or-set_other}
use Rattle.edzl.proofs.Invariant.{Jobs, SameJob}
use Rattle.job.specs.Job.{fresh_job}
use Rattle.job.specs.declared.job.Job.{Job}
use Rattle.machine.specs.Machine.{job_at, with_job}
use Rattle.machine.specs.declared.machine.Machine.{Machine}

unfoldable pub jobs_of : Machine → Jobs
jobs_of m =
    record {
      is_open = λ i. (job_at m i).«open»;
      left = λ i. (job_at m i).left;
      budget = λ i. (job_at m i).budget;
      gap = λ i. (job_at m i).gap;
    }

pub same_job : (m m' : Machine) (i : ℕ) → job_at m' i ≡ job_at m i → SameJob (jobs_of m) (jobs_of m') i
unfolding jobs_of
same_job m m' i e = record { same_open = rw e; same_left = rw e; same_budget = rw e; same_gap = rw e }

module _ (m : Machine) (i : ℕ) (j : Job) where
  pub job_set : i < length m.jobs → job_at (with_job m i j) i ≡ j
  unfolding with_job job_at
  job_set h = get_or-set_same m.jobs i j fresh_job h

  pub job_unset : length m.jobs ≤ i → job_at (with_job m i j) i ≡ fresh_job
  unfolding with_job job_at
  job_unset h = get_or-eq_default (set m.jobs i j) fresh_job (omega (arith, length-set m.jobs i j))

  pub job_other : (k : ℕ) → (k ≡ i → ⊥) → job_at (with_job m i j) k ≡ job_at m k
  unfolding with_job job_at
  job_other k ne = get_or-set_other m.jobs i k j fresh_job ne

  pub rest_same : (k : ℕ) → (k ≡ i → ⊥) → SameJob (jobs_of m) (jobs_of (with_job m i j)) k
  rest_same k ne = same_job m (with_job m i j) k (job_other k ne)
