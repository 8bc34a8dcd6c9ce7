-- A step that changes the job of one task, as a release and a finish do. Others cite `one_job_keeps`.
use Prim.Native.Nat.{ℕ, ◌≤◌, ◌<◌}
use native.Mathlib.Nat.{le_of_eq}
use Rattle.edzl.specs.TaskSet.{TaskSet}
use Rattle.laws.proofs.CaseSplits.{by_equal}
use Rattle.edzl.proofs.WindowLaws.{same_task}
use Rattle.edzl.proofs.Invariant.{Jobs, Held, Invariant, RestSame, claim, invariant, of_task_lem}
use Rattle.edzl.proofs.BoundLaws.{bound_kept, claim_same, lost_same, held_same}

module _ (tasks : TaskSet) (slack : ℕ → ℕ) (m j : ℕ) (before after : Jobs) where
  module _ (rest : RestSame tasks j before after) (less : (l : ℕ) → claim tasks after l j ≤ claim tasks before l j) where
    -- No task claims more after the step.
    claim_after : (l i : ℕ) → i < tasks.count → claim tasks after l i ≤ claim tasks before l i
    claim_after l i h =
        by_equal i j
        (λ e. rw e (less l))
        (λ ne. le_of_eq (claim_same tasks tasks before after i (same_task tasks i) (rest i h ne) l))

    -- It keeps the invariant where the invariant holds of that task.
    pub one_job_keeps : Held tasks slack m after j → Invariant tasks slack m before → Invariant tasks slack m after
    one_job_keeps held inv =
        invariant λ i h.
        by_equal i j
        (λ e. rw e held)
        (λ ne.
        let job = rest i h ne in
        let same = same_task tasks i in
        held_same tasks tasks before after i same job slack slack m
        (λ was_open.
        bound_kept tasks slack m before after i
        (lost_same tasks tasks before after i same job)
        (λ k l _. rw job.same_left (claim_after (before.left i) k l)))
        (of_task_lem inv i h))
