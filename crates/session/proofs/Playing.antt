-- The lines of a log, one call at a time. Others cite `Released` with `released_none` and `released_more` (the loop of releases),
-- `session_lines` (a case), and `slots_from` with `next_slot` and `no_slot` (the loop of slots).
use Prim.Native.Nat.{ℕ, suc, ◌+◌, ◌-◌, ◌≤◌, ◌<◌}
use native.Mathlib.Omega.{arith}
use mathlib.Core.Path.{◌≡◌, refl}
use mathlib.Core.List.{List, [], ◌∷◌, ◌++◌, append_assoc}
use lib.ListN.{length, get_or, replicate}
use Rattle.tasks.specs.Table.{zero_task}
use Rattle.tasks.specs.declared.task.Task.{Task}
use Rattle.tasks.specs.declared.table.Table.{Table}
use Rattle.machine.specs.Calls.{start, step, release, slot}
use Rattle.machine.specs.Play.{play}
use Rattle.machine.specs.InTime.{is_slot}
use Rattle.tasks.specs.Written.{table_of}
use Rattle.machine.specs.declared.machine.Machine.{Machine}
use Rattle.machine.specs.declared.answer.Answer.{Answer}
use Rattle.machine.specs.declared.call.Call.{Call}
use Rattle.machine.specs.declared.call.Call.TheVariants.{Release, Slot}
use Rattle.session.specs.Printed.{slot_line, slot_lines_from, releases, session}

-- m is the machine after the releases of the tasks 1 to n of a table on m₀: whatever calls follow, the lines are the same
abbrev pub Released : Machine → Table → ℕ → Machine → Type 0
Released m₀ t n m = (calls : List Call) → slot_lines_from 1 (play m₀ (releases t n ++ calls)) ≡ slot_lines_from 1 (play m calls)

pub released_none : (m : Machine) (t : Table) → Released m t 0 m
unfolding releases
released_none m t calls = refl

pub released_more :
    (m₀ m : Machine) (t : Table) (n : ℕ) → Released m₀ t n m → Released m₀ t (suc n) (release m (suc n) (get_or t.tasks n zero_task).budget).machine
unfolding releases play step is_slot slot_lines_from
released_more m₀ m t n h calls =
    let r = Release (suc n) (get_or t.tasks n zero_task).budget in
    rw (append_assoc (releases t n) (r ∷ []) calls) (h (r ∷ calls))

-- the session of some tasks, from the machine after their releases
pub session_lines :
    (tasks : List Task) (cores slots : ℕ) (m : Machine) (a : Answer) (t : Table) → Released a.machine t (length tasks) m → a ≡ start t cores
    → t ≡ table_of tasks → slot_lines_from 1 (session tasks cores slots) ≡ slot_lines_from 1 (play m (replicate slots (Slot cores)))
unfolding session
session_lines tasks cores slots m a t h e f =
    let q : (start (table_of tasks) cores).machine ≡ a.machine = rw (e, f) in
    rw q (rw f at (h (replicate slots (Slot cores))))

-- the lines of some slots of a machine, with k cores each, the first of which has the number n
abbrev pub slots_from : (n : ℕ) → Machine → (k slots : ℕ) → List ℕ
slots_from n m k slots = slot_lines_from n (play m (replicate slots (Slot k)))

-- of slots, i of which were played on the way to m: the line of the next one, and those after it; and that none is left
module _ (n : ℕ) (m : Machine) (k slots i : ℕ) where
  pub next_slot : i < slots → slots_from n m k (slots - i) ≡ slot_line n (slot m k).report ++ slots_from (n + 1) (slot m k).machine k (slots - (i + 1))
  unfolding play step is_slot slot_lines_from
  next_slot more = let e : slots - i ≡ suc (slots - (i + 1)) = omega arith in rw e

  pub no_slot : slots ≤ i → slots_from n m k (slots - i) ≡ []
  unfolding play slot_lines_from
  no_slot none = let e : slots - i ≡ 0 = omega arith in rw e
