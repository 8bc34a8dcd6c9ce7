-- A slot task by task, as the code goes. Others cite `Turned`, the state after the first i tasks, with `turned_none` and `turned_more`, and
-- `turned_all`, that after all of them it is the definition's answer.
use Rattle.std.proofs.Common.{Ok}
use Prim.Native.Nat.{ℕ, ◌+◌}
use mathlib.Core.Path.{◌≡◌, refl, ap, ◌∙◌}
use mathlib.Core.Bool.{Bool, false}
use mathlib.Core.List.{List}
use native.Mathlib.Nat.{le_refl}
use native.Mathlib.Numerals.{add-one}
use lib.ListN.{get_or, set, replicate}
use Rattle.tasks.specs.Limits.{max_tasks}
use Rattle.job.specs.Job.{fresh_job}
use Rattle.machine.specs.Machine.{job_at}
use Rattle.job.specs.Slot.{charged, aged, is_finished, is_late, settled}
use Rattle.machine.specs.Slot.{passed, ran_count, slot_report, after_slot}
use Rattle.machine.specs.Cores.{with_assigned}
use Rattle.laws.specs.Lists.{replaced}
use Rattle.laws.proofs.Replaced.{replaced_past}
use Rattle.job.specs.declared.job.Job.{Job}
use Rattle.machine.specs.declared.machine.Machine.{Machine}
use Rattle.machine.specs.declared.answer.Answer.{Answer}

-- the machine m and two lists of the report after the first i tasks of m₀ have passed the slot in which `ran` says who ran and `assigned` where
pub record Turned (m₀ : Machine) (ran : List Bool) (assigned : List ℕ) (m : Machine) (finished late : List Bool) (i : ℕ) : Type 0 where
  pub same_table : m.table ≡ m₀.table
  pub same_cores : m.cores ≡ m₀.cores
  pub jobs_are : m.jobs ≡ replaced i (λ k. settled (passed m₀ ran k)) m₀.jobs
  pub assigned_are : m.assigned ≡ replaced i (λ k. get_or assigned k 0) m₀.assigned
  pub same_held : m.held ≡ m₀.held
  pub finished_are : finished ≡ replaced i (λ k. is_finished (passed m₀ ran k)) (replicate max_tasks false)
  pub late_are : late ≡ replaced i (λ k. is_late (passed m₀ ran k)) (replicate max_tasks false)

pub turned_none : (m : Machine) (ran : List Bool) (assigned : List ℕ) → Turned m ran assigned m (replicate max_tasks false) (replicate max_tasks false) 0
unfolding replaced
turned_none m ran assigned =
    record { same_table = refl; same_cores = refl; jobs_are = refl; assigned_are = refl; same_held = refl; finished_are = refl; late_are = refl }

module _
    (m₀ : Machine)
    (ran : List Bool)
    (assigned : List ℕ)
    (m : Machine)
    (finished late : List Bool)
    (i : ℕ)
    (t : Turned m₀ ran assigned m finished late i)
  where
    -- the job at i has not passed yet
    pub job_before : get_or m.jobs i fresh_job ≡ job_at m₀ i
    unfolding job_at
    job_before = rw t.jobs_are (replaced_past (λ k. settled (passed m₀ ran k)) m₀.jobs fresh_job i i (le_refl i))

    -- one task more
    pub turned_more :
        (j : Job) → j ≡ aged (charged (get_or ran i false) (get_or m.jobs i fresh_job))
        → Turned m₀ ran assigned
        (record {
          table = m.table;
          cores = m.cores;
          jobs = set m.jobs i (settled j);
          assigned = set m.assigned i (get_or assigned i 0);
          held = m.held;
        })
        (set finished i (is_finished j)) (set late i (is_late j)) (i + 1)
    unfolding replaced passed
    turned_more j e =
        let p : j ≡ passed m₀ ran i = e ∙ ap (λ (x : Job). aged (charged (get_or ran i false) x)) job_before in
        record {
          same_table = t.same_table;
          same_cores = t.same_cores;
          jobs_are = rw (add-one i, p, t.jobs_are);
          assigned_are = rw (add-one i, t.assigned_are);
          same_held = t.same_held;
          finished_are = rw (add-one i, p, t.finished_are);
          late_are = rw (add-one i, p, t.late_are);
        }

-- after every task
pub turned_all :
    (m₀ : Machine) (ran : List Bool) (assigned : List ℕ) (m : Machine) (finished late : List Bool) (n : ℕ)
    → Turned m₀ ran assigned m finished late m₀.table.count
    → n ≡ ran_count m₀ ran
    → ◌≡◌ {A = Answer}
    (record { machine = m; outcome = Ok tt; report = record { ran = ran; finished = finished; late = late; runners = n; assigned = assigned } })
    (record { machine = with_assigned (after_slot m₀ ran) assigned; outcome = Ok tt; report = slot_report m₀ ran assigned })
unfolding after_slot with_assigned slot_report
turned_all m₀ ran assigned m finished late n t q =
    λ i. record {
      machine =
          record { table = t.same_table i; cores = t.same_cores i; jobs = t.jobs_are i; assigned = t.assigned_are i; held = t.same_held i };
      outcome = Ok tt;
      report = record { ran = ran; finished = t.finished_are i; late = t.late_are i; runners = q i; assigned = assigned };
    }
