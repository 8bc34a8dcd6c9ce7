-- `part` meets its contract: the guess of the whole periods is at most one too low, and what is left makes up for that.
use Rattle.std.proofs.Common.{ℕ, ◌≤◌, ◌*◌, ◌/◌, ◌∙◌}
use Rattle.judge.specs.declared.sums.Interfering.{Interfering}
use Rattle.judge.proofs.Inverse.{half, Guessed, guessed}
use Rattle.judge.proofs.sums.Interfering.part.Goals as goal

guess : (task : Interfering) (window spare : ℕ) → window ≤ 1_000_000 → Guessed task.period task.budget window spare (window * task.inverse / half)
guess task window spare fits = guessed task.period task.budget window task.period_some task.budget_fits fits spare task.inverse task.inverse_is

pub overflow_sub-left : goal.overflow_sub-left
overflow_sub-left c = (guess c.args.self c.args.window c.args.spare c.requires).within

pub returns : goal.returns
returns c =
    c.min-3.ensures
    ∙ rw (c.min.ensures, c.min-2.ensures, c.saturating_sub-more.ensures) (guess c.args.self c.args.window c.args.spare c.requires).part_is
