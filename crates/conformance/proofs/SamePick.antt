-- Who runs in a slot depends neither on the recorded cores nor on what is held: `same_runners`, and their order neither: `same_order`.
use Rattle.tasks.specs.declared.task.Task.{Task}
use Rattle.std.proofs.Common.{Option}
use Prim.Native.Nat.{ℕ, zero, suc}
use mathlib.Core.Path.{◌≡◌, refl}
use mathlib.Core.List.{List}
use Rattle.machine.specs.Machine.{job_at}
use Rattle.machine.specs.Pick.{open_count, waiting, precedes, candidates, pick, runner_count, runners}
use Rattle.machine.specs.Cores.{runner_order}
use Rattle.machine.specs.declared.machine.Machine.{Machine}

module _ (m : Machine) (assigned : List ℕ) (held : Option Task) where
  -- the machine with these cores recorded that holds this
  unfoldable pub other : Machine
  other = record { table = m.table; cores = m.cores; jobs = m.jobs; assigned = assigned; held = held }

  same_pick : (n : ℕ) → pick other n ≡ pick m n
  unfolding pick candidates waiting precedes job_at other
  same_pick zero = refl
  same_pick (suc n) = rw (same_pick n)

  pub same_order : (n : ℕ) → runner_order other n ≡ runner_order m n
  unfolding runner_order candidates waiting precedes job_at other
  same_order zero = refl
  same_order (suc n) = rw (same_order n, same_pick n)

  pub same_runners : (k : ℕ) → runners other k ≡ runners m k
  unfolding runners runner_count open_count job_at other
  same_runners k = same_pick (runner_count m k)
