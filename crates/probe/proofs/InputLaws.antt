-- What the first line of a text says, by what was found of it. Others cite, of the machine's line: `no_word`, `no_pair` and `machine_read`; of an entry's:
-- `no_eight`, `no_flag` and `entry_read`; of what is held: `none_read`, `no_held_word`, `no_held_task` and `held_read`; of the call's: `no_call`, `more_follows`
-- and `call_read`; and of a line that is not ended: `machine_unended`, `entry_unended`, `held_unended` and `call_unended`.
use Rattle.std.proofs.Common.{ℕ, ◌+◌, ◌-◌, ◌≤◌, ◌<◌, ◌≡◌, arith, Bool, true, false, eqb, leb, List, length, get_or, drop, length-drop, replicate, Some, None, Ok, Err}
use Rattle.text.specs.Lines.{line_end, after, first_is, field}
use Rattle.text.specs.Words.{same_bytes, begins_with}
use Rattle.text.specs.Number.{decimal}
use Rattle.text.specs.Fields.{are_numbers, FilledFromLine}
use Rattle.text.proofs.Split.{here}
use Rattle.text.proofs.LineLaws.{no_bytes, some_bytes}
use Rattle.text.proofs.FilledFromLine.{entry_is}
use Rattle.script.specs.Numbers.{max_digits, max_number}
use Rattle.script.specs.Calls.{fields_task, task_fields, call_of}
use Rattle.script.proofs.TaskLaws.{task_bad, task_read}
use Rattle.tasks.specs.declared.task.Task.{Task}
use Rattle.machine.specs.declared.call.Call.{Call}
use Rattle.probe.specs.Words.{machine_word, none_word, held_word}
use Rattle.probe.specs.Input.{NotEnded, FirstLineIs, is_machine_line, count_of, cores_of, is_entry_line, entry_job, entry_core, is_held_line, held_of, first_line, entry_from, held_from, call_number, only_call, last_line}

module _ (s : List ℕ) where
  module _ (no : NotEnded s) where
    pub machine_unended : None ≡ first_line s
    unfolding first_line first_is
    machine_unended = rw no.none

    pub entry_unended : None ≡ entry_from s
    unfolding entry_from first_is
    entry_unended = rw no.none

    pub held_unended : None ≡ held_from s
    unfolding held_from first_is
    held_unended = rw no.none

    pub call_unended : Err call_number ≡ last_line s
    unfolding last_line
    call_unended = rw no.none

  module _ (l : List ℕ) (line : FirstLineIs s l) where
    pub no_word : begins_with machine_word l ≡ false → None ≡ first_line s
    unfolding first_line first_is is_machine_line
    no_word w = rw (line.ended, ← line.is, w)

    module _ (w : begins_with machine_word l ≡ true) (f : List ℕ) (f_is : f ≡ drop (length machine_word) l) where
      pub no_pair : are_numbers max_digits max_number 2 f ≡ false → None ≡ first_line s
      unfolding first_line first_is is_machine_line
      no_pair n = rw (line.ended, ← line.is, w, ← f_is, n)

      pub machine_read :
          (a : List ℕ) → FilledFromLine max_digits max_number f (replicate 2 0) a true
          → Some (record { count = get_or a 0 0; cores = get_or a 1 0; length = length l + 1 }) ≡ first_line s
      unfolding first_line first_is is_machine_line count_of cores_of
      machine_read a n =
          let is = entry_is max_digits max_number f (replicate 2 0) a n in
          rw (line.ended, ← line.is, w, ← f_is, ← n.is, ← is 0 (omega arith), ← is 1 (omega arith))

    pub no_eight : are_numbers max_digits max_number 8 l ≡ false → None ≡ entry_from s
    unfolding entry_from first_is is_entry_line
    no_eight n = rw (line.ended, ← line.is, n)

    module _ (a : List ℕ) (n : FilledFromLine max_digits max_number l (replicate 8 0) a true) where
      number_at : (i : ℕ) → i < 8 → get_or a i 0 ≡ decimal (field i l)
      number_at i h = entry_is max_digits max_number l (replicate 8 0) a n i h

      pub no_flag : leb (get_or a 3 0) 1 ≡ false → None ≡ entry_from s
      unfolding entry_from first_is is_entry_line
      no_flag o = rw (line.ended, ← line.is, ← n.is, ← number_at 3 (omega arith), o)

      pub entry_read :
          (o : Bool) → leb (get_or a 3 0) 1 ≡ true → eqb (get_or a 3 0) 1 ≡ o
          → Some (record {
            task = record { period = get_or a 0 0; budget = get_or a 1 0; deadline = get_or a 2 0 };
            job = record { «open» = o; left = get_or a 4 0; budget = get_or a 5 0; gap = get_or a 6 0 };
            core = get_or a 7 0;
            length = length l + 1;
          })
          ≡ entry_from s
      unfolding entry_from first_is is_entry_line fields_task entry_job entry_core
      entry_read o some e =
          let is = number_at in
          rw (line.ended, ← line.is, ← n.is, ← is 3 (omega arith), some, e)
          (rw (← is 0 (omega arith), ← is 1 (omega arith), ← is 2 (omega arith), ← is 4 (omega arith), ← is 5 (omega arith), ← is 6 (omega arith), ← is 7 (omega arith)))

    pub none_read : same_bytes l none_word ≡ true → Some (record { held = None; length = length l + 1 }) ≡ held_from s
    unfolding held_from first_is is_held_line held_of
    none_read w = rw (line.ended, ← line.is, w)

    -- the line is not `NONE`
    module _ (other : same_bytes l none_word ≡ false) where
      pub no_held_word : begins_with held_word l ≡ false → None ≡ held_from s
      unfolding held_from first_is is_held_line
      no_held_word w = rw (line.ended, ← line.is, other, w)

      module _ (w : begins_with held_word l ≡ true) (f : List ℕ) (f_is : f ≡ drop (length held_word) l) where
        pub no_held_task : task_fields f ≡ None → None ≡ held_from s
        unfolding held_from first_is is_held_line
        no_held_task b = rw (line.ended, ← line.is, other, w, ← f_is, task_bad f b)

        pub held_read : (t : Task) → task_fields f ≡ Some t → Some (record { held = Some t; length = length l + 1 }) ≡ held_from s
        unfolding held_from first_is is_held_line held_of
        held_read t b =
            let r = task_read f t b in
            rw (line.ended, ← line.is, other, w, ← f_is, r.numbers, r.task_is)

    pub no_call : call_of l ≡ None → Err call_number ≡ last_line s
    unfolding last_line only_call
    no_call c = rw (line.ended, ← line.is, c)

    -- what follows the line
    follows : length (after line_end s) ≡ length s - (length l + 1)
    follows = rw (line.is, ← (here line_end s line.ended).rest) (length-drop _ s)

    module _ (call : Call) (c : call_of l ≡ Some call) where
      pub more_follows : length l + 1 < length s → Err (call_number + 1) ≡ last_line s
      unfolding last_line only_call
      more_follows m = rw (line.ended, ← line.is, c, some_bytes (after line_end s) (omega (arith, follows)))

      pub call_read : length s ≤ length l + 1 → Ok call ≡ last_line s
      unfolding last_line only_call
      call_read m = rw (line.ended, ← line.is, c, no_bytes (after line_end s) (omega (arith, follows)))
