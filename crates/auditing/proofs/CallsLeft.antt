-- The calls of the tasks that are named, one after the other as the code makes them, where i tasks were looked at. Others cite, by what the next task is,
-- `left_idle`, `left_taken` and `left_refused`; `left_none`, at the end; and `none_left`, where the value names no task.
use Prim.Native.Nat.{ℕ, zero, suc, ◌+◌, ◌≤◌, ◌<◌}
use native.Mathlib.Numerals.{add-one}
use mathlib.Core.Path.{◌≡◌, refl}
use mathlib.Core.Bool.{Bool, true, false}
use mathlib.Core.List.{List, []}
use Rattle.std.specs.Prelude.{Some, None, Ok, Err}
use lib.ListN.{length, get_or, drop, drop_of_length-le}
use lib.Seq.{drop-cons}
use Rattle.tasks.specs.declared.refusals.Refusal.{Refusal}
use Rattle.tasks.specs.Flags.{flags_from, flags_of}
use Rattle.tasks.specs.Limits.{max_tasks}
use Rattle.tasks.specs.Outcome.{is_done}
use Rattle.machine.specs.Calls.{step}
use Rattle.machine.specs.Play.{machine_after}
use Rattle.machine.specs.declared.machine.Machine.{Machine}
use Rattle.machine.specs.declared.call.Call.{Call}
use Rattle.auditing.specs.Line.{calls_from, all_taken}
use Rattle.auditing.specs.Parts.{after_calls}

module _ (call : ℕ → Call) (named : List Bool) (m : Machine) (i : ℕ) where
  abbrev left : List Call
  left = calls_from call i (drop i named)

  abbrev later : List Call
  later = calls_from call (i + 1) (drop (i + 1) named)

  pub left_none : length named ≤ i → after_calls m left ≡ Some m
  unfolding after_calls calls_from all_taken machine_after
  left_none h = rw (drop_of_length-le named h)

  module _ (h : i < length named) where
    pub left_idle : get_or named i false ≡ false → after_calls m left ≡ after_calls m later
    unfolding calls_from
    left_idle idle = rw (drop-cons named i false h, idle, add-one i)

    module _ (here : get_or named i false ≡ true) where
      pub left_taken : (step m (call i)).outcome ≡ Ok tt → after_calls m left ≡ after_calls (step m (call i)).machine later
      unfolding after_calls calls_from all_taken machine_after is_done
      left_taken done = rw (drop-cons named i false h, here, add-one i, done)

      pub left_refused : (why : Refusal) → (step m (call i)).outcome ≡ Err why → after_calls m left ≡ None
      unfolding after_calls calls_from all_taken is_done
      left_refused why told = rw (drop-cons named i false h, here, told)

-- a value of 0 names no task
no_calls : (call : ℕ → Call) (i n : ℕ) → calls_from call i (flags_from n 0) ≡ []
unfolding flags_from calls_from
no_calls call i zero = refl
no_calls call i (suc n) = no_calls call (suc i) n

pub none_left : (call : ℕ → Call) (m : Machine) → after_calls m (calls_from call 0 (flags_of 0)) ≡ Some m
unfolding flags_of after_calls all_taken machine_after
none_left call m = rw (no_calls call 0 max_tasks)
