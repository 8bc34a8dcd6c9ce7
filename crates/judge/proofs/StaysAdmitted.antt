-- Cheaper tables stay admitted (document 02, change 8): the theorem `each_stays_admitted`, and beside it `window_keeps` and `slack_keeps`.
use Prim.Native.Nat.{ℕ, ◌≤◌}
use mathlib.Core.Path.{◌≡◌, sym, ◌∙◌}
use mathlib.Core.Bool.{Bool, true}
use native.Mathlib.Nat.{le_refl}
use Rattle.edzl.proofs.WellFormed.{WellFormed}
use Rattle.edzl.specs.Window.{no_slack, admitted}
use Rattle.edzl.specs.Slack.{slack_admits}
use Rattle.edzl.proofs.CheaperLaws.{count_no_larger, window_stays}
use Rattle.edzl.proofs.SlackStays.{slack_no_smaller, reaching_no_larger, slack_stays}
use Rattle.tasks.specs.declared.table.Table.{Table}
use Rattle.std.proofs.Common.{Ok}
use Rattle.tasks.specs.Check.{checked}
use Rattle.tasks.specs.Cheaper.{Cheaper}
use Rattle.tasks.specs.TaskSet.{first_tasks, tasks_of}
use Rattle.tasks.proofs.TaskSetLaws.{well_checked}
use Rattle.tasks.proofs.CheaperChecked.{cheaper_checked}
use Rattle.tasks.proofs.TrimmedCheaper.{after_trims}
use Rattle.judge.specs.Judge.{judged_after, judged}
use Rattle.judge.specs.SlackJudge.{slack_judged_after, slack_judged, admission}
use Rattle.judge.specs.StaysAdmitted.{StaysAdmitted, EachStaysAdmitted, WindowKeeps, SlackKeeps}
use Rattle.judge.proofs.Outcome.{judged_outcome, judged_is, admits_means}
use Rattle.judge.proofs.SlackOutcome.{slack_outcome, slack_judged_is}
use Rattle.judge.proofs.Admitted.{admission_means}

module _ (t : Table) (m : ℕ) (t' : Table) (m' : ℕ) (c : Cheaper t m t' m') (judges : checked t m ≡ Ok tt) where
  well : WellFormed (tasks_of t)
  well = well_checked t m judges

  judges_too : checked t' m' ≡ Ok tt
  judges_too = cheaper_checked t m t' m' c judges

  window_count : (judged t' m').count ≤ (judged t m).count
  unfolding judged_after no_slack
  window_count =
      rw (judged_is t m judges, judged_is t' m' judges_too)
      (count_no_larger (tasks_of t) (tasks_of t') well c.tasks no_slack no_slack (λ i h. le_refl _) m m' c.cores_no_fewer)

  window_admits : admitted (tasks_of t) m ≡ true → (judged t' m').admits ≡ true
  unfolding judged_after
  window_admits e = rw (judged_is t' m' judges_too) (window_stays (tasks_of t) (tasks_of t') well c.tasks m m' c.cores_no_fewer e)

  slack_admits_lem : slack_admits (tasks_of t) m ≡ true → (slack_judged t' m').admits ≡ true
  unfolding slack_judged_after
  slack_admits_lem e = rw (slack_judged_is t' m' judges_too) (slack_stays (tasks_of t) (tasks_of t') well c.tasks m m' c.cores_no_fewer e)

module _ (admits : Table → ℕ → Bool) (judges : (t : Table) (m : ℕ) → admits t m ≡ true → checked t m ≡ Ok tt) where
  -- after each sentence a table is cheaper, whichever the test
  with_trims : ((t : Table) (m : ℕ) → admits t m ≡ true → (t' : Table) (m' : ℕ) → Cheaper t m t' m' → admits t' m' ≡ true) → StaysAdmitted admits
  unfolding StaysAdmitted
  with_trims cheaper t m e =
      record { cheaper = cheaper t m e; trimmed = after_trims (λ t' m'. admits t' m' ≡ true) t m (judges t m e) (cheaper t m e) }

window_stays_admitted : StaysAdmitted (λ t m. (judged t m).admits)
window_stays_admitted =
    with_trims (λ t m. (judged t m).admits) (λ t m e. (admits_means t m e).checks)
    (λ t m e t' m' c. let means = admits_means t m e in window_admits t m t' m' c means.checks means.admits)

admission_stays_admitted : StaysAdmitted (λ t m. (admission t m).admits)
unfolding admission
admission_stays_admitted =
    with_trims (λ t m. (admission t m).admits) (λ t m e. (admission_means t m e).checks)
    (λ t m e t' m' c. let means = admission_means t m e in slack_admits_lem t m t' m' c means.checks means.admits)

pub each_stays_admitted : EachStaysAdmitted
unfolding admission
each_stays_admitted =
    record { by_window = window_stays_admitted; by_slack = admission_stays_admitted; by_admission = admission_stays_admitted }

pub window_keeps : WindowKeeps
unfolding WindowKeeps
window_keeps t m t' m' e c =
    let judges = sym (judged_outcome t m) ∙ e in
    record {
      is_judged = judged_outcome t' m' ∙ judges_too t m t' m' c judges;
      count_no_larger = window_count t m t' m' c judges;
    }

pub slack_keeps : SlackKeeps
unfolding SlackKeeps tasks_of first_tasks
slack_keeps t m t' m' e c =
    let judges = sym (slack_outcome t m) ∙ e in
    let of-tasks = well t m t' m' c judges in
    record {
      is_judged = slack_outcome t' m' ∙ judges_too t m t' m' c judges;
      slack_no_smaller = slack_no_smaller (tasks_of t) (tasks_of t') of-tasks c.tasks m m' c.cores_no_fewer;
      reaching_no_larger = reaching_no_larger (tasks_of t) (tasks_of t') of-tasks c.tasks m m' c.cores_no_fewer;
    }
