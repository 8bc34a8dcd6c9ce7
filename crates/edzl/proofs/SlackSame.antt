-- The slack test reads the tasks below the count only: `rounds_same` and `admits_same`.
use Prim.Native.Nat.{ℕ, zero, suc, ◌<◌}
use mathlib.Core.Path.{◌≡◌, refl, ap}
use mathlib.Core.Bool.{Bool, true, false, not}
use mathlib.Core.List.{List}
use lib.Dec.{leb, eqb}
use Rattle.laws.proofs.Replaced.{replaced_same}
use Rattle.edzl.specs.TaskSet.{TaskSet}
use Rattle.laws.specs.Sums.{sum_to, bit}
use Rattle.edzl.specs.Window.{spare}
use Rattle.edzl.specs.Slack.{per_task, of_task, round_sums, reaches, new_slack, Rounds, no_round, next_round, none_changes, rounds_from, all_rounds, count_reaching, slack_admits}
use Rattle.laws.proofs.SumLaws.{sum_same}
use Rattle.edzl.proofs.WindowLaws.{SameTask, spare_same, sum_of_same}

module _ (tasks tasks' : TaskSet) (same_count : tasks'.count ≡ tasks.count) (same : (i : ℕ) → i < tasks.count → SameTask tasks tasks' i) where
  per_task_same : (f g : ℕ → ℕ) → ((k : ℕ) → k < tasks.count → f k ≡ g k) → per_task tasks' f ≡ per_task tasks g
  unfolding per_task
  per_task_same f g h = rw same_count (replaced_same f g _ tasks.count h)

  module _ (m : ℕ) where
    sums_same : (slacks : List ℕ) → round_sums tasks' slacks ≡ round_sums tasks slacks
    unfolding round_sums
    sums_same slacks =
        per_task_same _ _ (λ k h. sum_of_same tasks tasks' same_count same (of_task slacks) (of_task slacks) (λ i l. refl) m k h)

    next_same : (rounds : Rounds) → next_round tasks' m rounds ≡ next_round tasks m rounds
    unfolding next_round
    next_same rounds =
        rw (
          sums_same rounds.slacks,
          per_task_same (λ k. new_slack m (spare tasks' k) (of_task (round_sums tasks rounds.slacks) k))
              (λ k. new_slack m (spare tasks k) (of_task (round_sums tasks rounds.slacks) k))
              (λ k h. ap (λ (A : ℕ). new_slack m A (of_task (round_sums tasks rounds.slacks) k)) (spare_same tasks tasks' k (same k h))),
        )

    none_same : (before after : List ℕ) → none_changes tasks' before after ≡ none_changes tasks before after
    unfolding none_changes
    none_same before after =
        ap (λ (n : ℕ). eqb (sum_to n (λ k. bit (not (eqb (of_task before k) (of_task after k))))) 0) same_count

    from_same : (more : ℕ) (ended : Bool) (rounds : Rounds) → rounds_from tasks' m more ended rounds ≡ rounds_from tasks m more ended rounds
    unfolding rounds_from
    from_same zero ended rounds = refl
    from_same (suc more) true rounds = refl
    from_same (suc more) false rounds = rw (next_same rounds, none_same rounds.slacks (next_round tasks m rounds).slacks) (from_same more _ _)

    pub rounds_same : all_rounds tasks' m ≡ all_rounds tasks m
    unfolding all_rounds no_round
    rounds_same = rw (per_task_same (λ k. 0) (λ k. 0) (λ k h. refl)) (from_same 64 false _)

    pub admits_same : slack_admits tasks' m ≡ slack_admits tasks m
    unfolding slack_admits count_reaching spare
    admits_same =
        rw (rounds_same, same_count)
        (ap (λ (n : ℕ). leb n m)
        (sum_same _ _ tasks.count
        (λ k h. ap (λ (A : ℕ). bit (reaches m A (of_task (all_rounds tasks m).sums k))) (spare_same tasks tasks' k (same k h)))))
