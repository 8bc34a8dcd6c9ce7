-- "Cheaper tables stay sold": document 02, change 8, as statements about verdicts. Document 02 asks them of the window test; that they are stated of the
-- slack test too is our decision, since the contract line goes by that one.
use Rattle.std.specs.Prelude.{ℕ, ◌≤◌, ◌<◌, ◌≡◌, Bool, true, Ok}
use Rattle.edzl.specs.Slack.{all_rounds, slack_of_round, count_reaching}
use Rattle.tasks.specs.declared.table.Table.{Table}
use Rattle.tasks.specs.TaskSet.{tasks_of}
use Rattle.tasks.specs.Cheaper.{Cheaper}
use Rattle.tasks.specs.Trimmed.{AfterTrims}
use Rattle.judge.specs.Judge.{judged}
use Rattle.judge.specs.SlackJudge.{slack_judged, admission}

-- what else a test has to admit that admits the table t on m cores; whether it admits t on m cores is `admits t m`
pub record AdmitsCheaper (admits : Table → (m : ℕ) → Bool) (t : Table) (m : ℕ) : Type 0 where
  -- every table that is cheaper
  pub cheaper : (t' : Table) (m' : ℕ) → Cheaper t m t' m' → admits t' m' ≡ true
  -- and so what each sentence of change 8 makes of the table
  pub trimmed : AfterTrims (λ t' m'. admits t' m' ≡ true) t m

-- "an admitted table is admitted" after it is made cheaper
unfoldable pub StaysAdmitted : (admits : Table → (m : ℕ) → Bool) → Type 0
StaysAdmitted admits = (t : Table) (m : ℕ) → admits t m ≡ true → AdmitsCheaper admits t m

-- this of each verdict: the window test's, the slack test's, and the admission, by which offers and the entry for C go
pub record EachStaysAdmitted : Type 0 where
  pub by_window : StaysAdmitted (λ t m. (judged t m).admits)
  pub by_slack : StaysAdmitted (λ t m. (slack_judged t m).admits)
  pub by_admission : StaysAdmitted (λ t m. (admission t m).admits)

-- beside it, of a table t' on m' cores that is cheaper than a table t that is judged on m cores, admitted or not: it is judged, not refused, and by the
-- window test COUNT is no larger
pub record WindowKept (t : Table) (m : ℕ) (t' : Table) (m' : ℕ) : Type 0 where
  pub is_judged : (judged t' m').outcome ≡ Ok tt
  pub count_no_larger : (judged t' m').count ≤ (judged t m).count

unfoldable pub WindowKeeps : Type 0
WindowKeeps = (t : Table) (m : ℕ) (t' : Table) (m' : ℕ) → (judged t m).outcome ≡ Ok tt → Cheaper t m t' m' → WindowKept t m t' m'

-- by the slack test it is judged too, no slack of a remaining task is smaller in any round, where `was` tells which task of t each was, and no more sums
-- of the last round reach
pub record SlackKept (t : Table) (m : ℕ) (t' : Table) (m' : ℕ) (was : ℕ → ℕ) : Type 0 where
  pub is_judged : (slack_judged t' m').outcome ≡ Ok tt
  pub slack_no_smaller : (r i : ℕ) → i < t'.count → slack_of_round (tasks_of t) m r (was i) ≤ slack_of_round (tasks_of t') m' r i
  pub reaching_no_larger :
      count_reaching (tasks_of t') m' (all_rounds (tasks_of t') m').sums ≤ count_reaching (tasks_of t) m (all_rounds (tasks_of t) m).sums

unfoldable pub SlackKeeps : Type 0
SlackKeeps =
    (t : Table) (m : ℕ) (t' : Table) (m' : ℕ) → (slack_judged t m).outcome ≡ Ok tt → (c : Cheaper t m t' m') → SlackKept t m t' m' c.tasks.was
