-- The lines of a machine: how long they are, and what they are put together from. Others cite `entry_few` and `held_few`; `Showing`, the state between two
-- entries, with `show_none`, `show_more` and `show_all`; and `machine_put`.
use Rattle.std.proofs.Common.{ℕ, suc, ◌+◌, ◌-◌, ◌*◌, ◌^◌, ◌≤◌, ◌<◌, ◌≡◌, refl, ap, ◌∙◌, arith, add-one, Bool, true, false, cond, [], ◌∷◌, ◌++◌, length, length-append, Some}
use Rattle.text.specs.Number.{decimal_text}
use Rattle.text.specs.declared.output.Output.{Output}
use Rattle.text.specs.Output.{put, further_numbers, numbers_line}
use Rattle.text.proofs.DigitLaws.{text_few}
use Rattle.text.proofs.Putting.{put_nothing, put_append}
use Rattle.tasks.specs.Limits.{max_tasks}
use Rattle.tasks.specs.declared.task.Task.{Task}
use Rattle.job.specs.declared.job.Job.{Job}
use Rattle.machine.specs.Machine.{task_at, job_at, core_at}
use Rattle.machine.specs.declared.machine.Machine.{Machine}
use Rattle.script.specs.Output.{PutsWithin}
use Rattle.script.proofs.OutputLaws.{within_then}
use Rattle.probe.specs.Words.{machine_word}
use Rattle.probe.specs.Output.{entry_line, entry_lines, held_line, machine_lines, entry_room, entries_room, held_room, machine_room}

-- a number of 32 bits has at most ten digits, and a flag one
digits : (n : ℕ) → n < 2 ^ 32 → length (decimal_text n) ≤ 10
digits n h = text_few 9 n (omega arith)

flag : (o : Bool) → length (decimal_text (cond o 1 0)) ≤ 1
flag true = text_few 0 1 (omega arith)
flag false = text_few 0 0 (omega arith)

module _ (t : Task) (j : Job) (core : ℕ) where
  pub entry_few :
      t.period < 2 ^ 32 → t.budget < 2 ^ 32 → t.deadline < 2 ^ 32 → j.left < 2 ^ 32 → j.budget < 2 ^ 32 → j.gap < 2 ^ 32 → core < 2 ^ 32
      → length (entry_line t j core) ≤ entry_room
  unfolding entry_line numbers_line further_numbers
  entry_few a b c d e f g =
      simp length-append
      (omega (arith, digits t.period a, digits t.budget b, digits t.deadline c, flag j.«open», digits j.left d, digits j.budget e, digits j.gap f, digits core g))

first_few : (count cores : ℕ) → count < 2 ^ 64 → cores < 2 ^ 32 → length (numbers_line (count ∷ cores ∷ [])) ≤ 32
unfolding numbers_line further_numbers
first_few count cores h k = simp length-append (omega (arith, text_few 19 count (omega arith), digits cores k))

pub held_few : (t : Task) → t.period < 2 ^ 32 → t.budget < 2 ^ 32 → t.deadline < 2 ^ 32 → length (held_line (Some t)) ≤ held_room
unfolding held_line numbers_line further_numbers
held_few t x y z = simp length-append (omega (arith, digits t.period x, digits t.budget y, digits t.deadline z))

first_entry : (m : Machine) (i more : ℕ) → entry_lines m i (suc more) ≡ entry_line (task_at m i) (job_at m i) (core_at m i) ++ entry_lines m (suc i) more
unfolding entry_lines
first_entry m i more = refl

no_entries : (m : Machine) (i : ℕ) → entry_lines m i 0 ≡ []
unfolding entry_lines
no_entries m i = refl

module _ {N : ℕ} where
  -- between two entries: those from i on are still to come, and those before it are short enough
  pub record Showing (a : Output N) (m : Machine) (b : Output N) (i : ℕ) : Type 0 where
    pub left : put b (entry_lines m i (max_tasks - i)) ≡ put a (entry_lines m 0 max_tasks)
    pub few : length (entry_lines m 0 max_tasks) ≤ entry_room * i + length (entry_lines m i (max_tasks - i))

  pub show_none : (a : Output N) (m : Machine) → Showing a m a 0
  show_none a m = record { left = refl; few = omega arith }

  module _ (a : Output N) (m : Machine) (b : Output N) (i : ℕ) (p : Showing a m b i) where
    pub show_more : i < max_tasks → (c : Output N) → PutsWithin entry_room b (entry_line (task_at m i) (job_at m i) (core_at m i)) c → Showing a m c (i + 1)
    show_more h c l =
        let line = entry_line (task_at m i) (job_at m i) (core_at m i) in
        let rest = entry_lines m (i + 1) (max_tasks - (i + 1)) in
        let z : max_tasks - i ≡ suc (max_tasks - (i + 1)) = omega arith in
        let next : entry_lines m i (max_tasks - i) ≡ line ++ rest = rw (z, add-one i) (first_entry m i (max_tasks - suc i)) in
        record {
          left = rw l.whole (put_append b line rest ∙ rw next at p.left);
          few = omega (arith, p.few, l.few, ap length next ∙ length-append line rest);
        }

    pub show_all : i ≡ max_tasks → PutsWithin entries_room a (entry_lines m 0 max_tasks) b
    show_all h =
        let z : max_tasks - i ≡ 0 = omega arith in
        let e : entry_lines m i (max_tasks - i) ≡ [] = rw z (no_entries m i) in
        record { whole = rw (e, put_nothing b) at p.left; few = omega (arith, p.few, ap length e) }

  -- the whole machine: its first line, those of its entries, and that of what it holds
  pub machine_put :
      {a b c d e : Output N} (m : Machine) → m.table.count < 2 ^ 64 → m.cores < 2 ^ 32 → b ≡ put a machine_word
      → c ≡ put b (numbers_line (m.table.count ∷ m.cores ∷ [])) → PutsWithin entries_room c (entry_lines m 0 max_tasks) d
      → PutsWithin held_room d (held_line m.held) e → PutsWithin machine_room a (machine_lines m) e
  unfolding machine_lines
  machine_put m h k p q entries held =
      let n = numbers_line (m.table.count ∷ m.cores ∷ []) in
      let first =
      within_then (length machine_word) 32 machine_word n (record { whole = p; few = omega arith })
      (record { whole = q; few = first_few m.table.count m.cores h k })
      in
      within_then (length machine_word + 32 + entries_room) held_room _ _ (within_then (length machine_word + 32) entries_room _ _ first entries) held
