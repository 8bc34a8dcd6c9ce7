-- Precedence among open tasks: document 01, "The slot machine", with the larger budget before the lower number of document 02, change 2;
-- what beats what by change 11.
use Rattle.std.specs.Prelude.{ℕ, Bool, true, false, ◌&&◌, ◌||◌, eqb, ltb}
use Rattle.job.specs.Job.{is_urgent}
use Rattle.job.specs.declared.job.Job.{Job}

-- change 2: "Among tasks equal in urgency and left, the one with the larger budget still owed precedes; only then the lower number." Job x is of the
-- task at index i, job y of the task at index j
unfoldable pub longer_first : (x : Job) (i : ℕ) (y : Job) (j : ℕ) → Bool
longer_first x i y j = ltb y.budget x.budget || (eqb x.budget y.budget && ltb i j)

-- "then smaller left"; tasks of equal left go by change 2
unfoldable pub left_first : (x : Job) (i : ℕ) (y : Job) (j : ℕ) → Bool
left_first x i y j = ltb x.left y.left || (eqb x.left y.left && longer_first x i y j)

-- "urgent before not urgent"; tasks alike in urgency go by the rule given
unfoldable pub by_urgency : (urgentX urgentY : Bool) → (alike : Bool) → Bool
by_urgency true false alike = true
by_urgency false true alike = false
by_urgency true true alike = alike
by_urgency false false alike = alike

-- "Precedence, among open tasks: urgent before not urgent; then smaller left"; then change 2, larger budget, and last lower number
unfoldable pub job_precedes : (x : Job) (i : ℕ) (y : Job) (j : ℕ) → Bool
job_precedes x i y j = by_urgency (is_urgent x) (is_urgent y) (left_first x i y j)

-- change 11: "beats a runner in urgency or, both alike in urgency, in left. Remaining ties may fall either way."
unfoldable pub job_beats : (x y : Job) → Bool
job_beats x y = by_urgency (is_urgent x) (is_urgent y) (ltb x.left y.left)
