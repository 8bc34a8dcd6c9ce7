-- The contract line holds of every table that is cheaper than an admitted one: `cheaper_promise`. That this is not empty: `trimmed_in_time`, of a table cheaper in
-- all four ways at once than one that only the slack test admits.
use Prim.Native.Nat.{ℕ, zero, suc, ◌≤◌, ◌<◌}
use native.Mathlib.Omega.{arith}
use mathlib.Core.Path.{◌≡◌, refl, ◌∙◌}
use mathlib.Core.Bool.{true, false}
use mathlib.Core.List.{[], ◌∷◌}
use mathlib.Core.Logic.{⊎_elim, inr}
use Rattle.edzl.specs.Cheaper.{CheaperTask}
use Rattle.tasks.specs.declared.table.Table.{Table}
use Rattle.tasks.specs.Limits.{max_period}
use Rattle.tasks.specs.Written.{task, table_of}
use Rattle.tasks.specs.TaskSet.{tasks_of}
use Rattle.tasks.specs.Cheaper.{Cheaper}
use Rattle.judge.specs.Judge.{judged}
use Rattle.judge.specs.SlackJudge.{admission}
use Rattle.judge.specs.StaysAdmitted.{StaysAdmitted}
use Rattle.judge.specs.SlackExamples.{four_tasks}
use Rattle.judge.proofs.Admitted.{admission_means, window_admitted}
use Rattle.judge.proofs.StaysAdmitted.{each_stays_admitted}
use Rattle.machine.specs.InTime.{Promise}
use Rattle.machine.proofs.SoundKept.{start_outcome}
use Rattle.machine.proofs.InTimeHolds.{promise}
use Rattle.machine.proofs.Computing.{computing}
use Rattle.conformance.specs.CheaperInTime.{StartsInTime, CheaperPromise}

pub cheaper_promise : CheaperPromise
unfolding CheaperPromise Promise StaysAdmitted
cheaper_promise t m by-either t' m' cheaper =
    let admits : (admission t m).admits ≡ true = ⊎_elim (window_admitted t m) (λ by_slack. by_slack) by-either in
    let admits' = (each_stays_admitted.by_admission t m admits).cheaper t' m' cheaper in
    record { starts = start_outcome t' m' ∙ (admission_means t' m' admits').checks; in_time = promise t' m' admits' }

-- document 002's four tasks, to be on 2 cores
unfoldable pub original : Table
original = table_of four_tasks

-- the same without the first task, with the third's period raised and the fourth's budget lowered, to be on 3 cores
unfoldable pub trimmed : Table
trimmed = table_of (task 2 1 2 ∷ task 9 1 7 ∷ task 8 2 8 ∷ [])

each_cheaper : (i : ℕ) → i < 3 → CheaperTask (tasks_of original) (suc i) (tasks_of trimmed) i
unfolding computing four_tasks original trimmed
each_cheaper zero h = record { same_deadline = refl; budget_no_larger = omega arith; period_no_smaller = omega arith }
each_cheaper (suc zero) h = record { same_deadline = refl; budget_no_larger = omega arith; period_no_smaller = omega arith }
each_cheaper (suc (suc zero)) h = record { same_deadline = refl; budget_no_larger = omega arith; period_no_smaller = omega arith }
each_cheaper (suc (suc (suc i))) h = absurd (omega arith)

each_in_range : (i : ℕ) → i < 3 → (1 ≤ (tasks_of trimmed).budget i) × ((tasks_of trimmed).period i ≤ max_period)
unfolding computing trimmed
each_in_range zero h = (omega arith, omega arith)
each_in_range (suc zero) h = (omega arith, omega arith)
each_in_range (suc (suc zero)) h = (omega arith, omega arith)
each_in_range (suc (suc (suc i))) h = absurd (omega arith)

pub trimmed_cheaper : Cheaper original 2 trimmed 3
unfolding computing four_tasks original trimmed
trimmed_cheaper =
    record {
      tasks = record { was = suc; was_there = λ i h. omega arith; in_order = λ i j l h. omega arith; each = each_cheaper };
      budget_some = λ i h. (each_in_range i h).0;
      period_fits = λ i h. (each_in_range i h).1;
      one_remains = omega arith;
      cores_no_fewer = omega arith;
      cores_fit = omega arith;
    }

-- only the slack test admits the original
pub window_refuses_lem : (judged original 2).admits ≡ false
unfolding computing four_tasks original
window_refuses_lem = refl

slack_admits_lem : (admission original 2).admits ≡ true
unfolding computing four_tasks original
slack_admits_lem = refl

pub trimmed_in_time : StartsInTime trimmed 3
unfolding CheaperPromise
trimmed_in_time = cheaper_promise original 2 (inr slack_admits_lem) trimmed 3 trimmed_cheaper
