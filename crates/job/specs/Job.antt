-- The record of one task's job: document 01, "The slot machine"; a release by document 02, change 5.
use Rattle.std.specs.Prelude.{ℕ, Bool, true, false, ◌&&◌, leb}
use Rattle.tasks.specs.declared.task.Task.{Task}
use Rattle.job.specs.declared.job.Job.{Job}

-- "every task closed and all three numbers 0"
unfoldable pub fresh_job : Job
fresh_job = record { «open» = false; left = 0; budget = 0; gap = 0 }

-- change 5: "e of 0 or above C", the other way round; need is document 02's word for e, the most slots that one job runs
unfoldable pub need_in_range : Task → (need : ℕ) → Bool
need_in_range t need = leb 1 need && leb need t.budget

-- "it becomes open, left = D_i, .. gap = T_i"; change 5: "budget starts at e"
unfoldable pub released_job : Task → (need : ℕ) → Job
released_job t need = record { «open» = true; left = t.deadline; budget = need; gap = t.period }

-- "its job closes; gap stays", and "A closed task has left 0 and budget 0"
unfoldable pub closed_job : Job → Job
closed_job j = record { «open» = false; left = 0; budget = 0; gap = j.gap }

-- "A task is urgent when it is open and left ≤ budget."
unfoldable pub is_urgent : Job → Bool
is_urgent j = j.«open» && leb j.left j.budget
