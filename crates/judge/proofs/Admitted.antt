-- What an admission says of the table. Others cite: `admission_outcome` and `admission_numbered`, of a refusal; `AdmissionIs` with
-- `judged_admission`, of one that was carried out; `SlackAdmits` with `admission_means`, of a table that is admitted; and `window_admitted`, that what the
-- window test admits is admitted.
use Prim.Native.Nat.{ℕ}
use mathlib.Core.Path.{◌≡◌, refl}
use mathlib.Core.Bool.{Bool, true, false}
use Rattle.std.proofs.Common.{Ok}
use Rattle.laws.proofs.CaseSplits.{not_both}
use Rattle.tasks.specs.declared.table.Table.{Table}
use Rattle.tasks.specs.Check.{checked}
use Rattle.tasks.proofs.Checked.{checked_numbered}
use Rattle.tasks.proofs.OutcomeLaws.{by_outcome, Numbered}
use Rattle.tasks.proofs.TaskSetLaws.{well_checked}
use Rattle.edzl.specs.Slack.{slack_admits}
use Rattle.edzl.proofs.SlackRounds.{window_admits}
use Rattle.tasks.specs.TaskSet.{tasks_of}
use Rattle.judge.specs.Judge.{judged}
use Rattle.judge.specs.SlackJudge.{refused_by_slack, slack_judged_after, slack_judged, admission_values_of, admission}
use Rattle.judge.proofs.Outcome.{admits_means}
use Rattle.judge.proofs.SlackOutcome.{slack_outcome}

-- an admission that was carried out
pub record AdmissionIs (t : Table) (m : ℕ) (admits : Bool) : Type 0 where
  pub outcome : (admission t m).outcome ≡ Ok tt
  pub admits_is : (admission t m).admits ≡ admits

-- an admitted table can be judged and passes the slack test
pub record SlackAdmits (t : Table) (m : ℕ) : Type 0 where
  pub checks : checked t m ≡ Ok tt
  pub admits : slack_admits (tasks_of t) m ≡ true

module _ (t : Table) (m : ℕ) where
  -- the refusals are those of judging
  pub admission_outcome : (admission t m).outcome ≡ checked t m
  unfolding admission
  admission_outcome = slack_outcome t m

  pub admission_numbered : Numbered (admission t m).outcome
  admission_numbered = rw admission_outcome (checked_numbered t m)

  pub judged_admission : (admits : Bool) → admission_values_of (Ok admits) ≡ admission t m → AdmissionIs t m admits
  unfolding admission_values_of
  judged_admission admits e = record { outcome = rw (← e); admits_is = rw (← e) }

  pub admission_means : (admission t m).admits ≡ true → SlackAdmits t m
  unfolding admission slack_judged slack_judged_after refused_by_slack
  admission_means h =
      by_outcome (checked t m)
      (λ e. record { checks = e; admits = rw e at h })
      (λ why e. not_both false (rw e at h) refl)

  -- "What the window test admits, this one admits."
  pub window_admitted : (judged t m).admits ≡ true → (admission t m).admits ≡ true
  unfolding admission slack_judged slack_judged_after
  window_admitted h =
      let means = admits_means t m h in
      rw means.checks (window_admits (tasks_of t) m (well_checked t m means.checks) means.admits)
