-- In every machine of every list of calls from a fresh machine an open task has a gap of at least its left, and so above 0 (`open_gap`), and a release
-- of a task whose job is open, with a need that it may name, is refused by 9 (`open_release`): with number 10 after it, 10 would never come.
use Rattle.std.proofs.Common.{Ok}
use Prim.Native.Nat.{ℕ, ◌-◌, ◌≤◌, ◌<◌}
use native.Mathlib.Omega.{arith}
use mathlib.Core.Path.{◌≡◌}
use mathlib.Core.Bool.{true}
use mathlib.Core.List.{List}
use borrow.Author.Tests.{lt-ltb}
use Rattle.tasks.specs.declared.table.Table.{Table}
use Rattle.tasks.specs.declared.refusals.Reason.TheVariants.{ReleasedTooSoon}
use Rattle.job.specs.declared.job.Job.{Job}
use Rattle.job.specs.Job.{need_in_range}
use Rattle.job.proofs.SoundLaws.{open_numbers}
use Rattle.machine.specs.Machine.{task_at, job_at, in_table}
use Rattle.machine.specs.Sound.{sound}
use Rattle.machine.specs.Calls.{refuse, start, release}
use Rattle.machine.specs.Play.{machine_after}
use Rattle.machine.specs.declared.machine.Machine.{Machine}
use Rattle.machine.specs.declared.call.Call.{Call}
use Rattle.machine.proofs.SoundLaws.{sound_job}
use Rattle.machine.proofs.SoundKept.{always_sound}
use Rattle.machine.proofs.TaskNumbers.{known_task}

-- an open job's gap
pub record OpenGap (j : Job) : Type 0 where
  pub covers_left : j.left ≤ j.gap
  pub above_0 : 0 < j.gap

module _ (m : Machine) (ok : sound m ≡ true) where
  sound_gap : (i : ℕ) → i < m.table.count → (job_at m i).«open» ≡ true → OpenGap (job_at m i)
  sound_gap i h o =
      let numbers = open_numbers (task_at m i) (job_at m i) (sound_job m ok i h) o in
      record { covers_left = numbers.gap_covers; above_0 = omega (arith, numbers) }

  sound_release :
      (number need : ℕ) → in_table m number ≡ true → need_in_range (task_at m (number - 1)) need ≡ true → (job_at m (number - 1)).«open» ≡ true
      → release m number need ≡ refuse m ReleasedTooSoon
  unfolding release
  sound_release number need known needed o =
      let task = known_task m number ok known in
      rw (ok, known, needed, lt-ltb _ _ (sound_gap (number - 1) task.inside o).above_0)

module _ (t : Table) (cores : ℕ) (starts : (start t cores).outcome ≡ Ok tt) (calls : List Call) where
  -- the machine after the calls
  abbrev later : Machine
  later = machine_after (start t cores).machine calls

  pub open_gap : (i : ℕ) → i < later.table.count → (job_at later i).«open» ≡ true → OpenGap (job_at later i)
  open_gap = sound_gap later (always_sound t cores starts calls).is_sound

  pub open_release :
      (number need : ℕ) → in_table later number ≡ true → need_in_range (task_at later (number - 1)) need ≡ true → (job_at later (number - 1)).«open» ≡ true
      → release later number need ≡ refuse later ReleasedTooSoon
  open_release = sound_release later (always_sound t cores starts calls).is_sound
