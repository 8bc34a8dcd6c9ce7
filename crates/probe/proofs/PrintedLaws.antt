-- What is printed for a text, by what its first line says: as the machine's `no_machine`, and `machine_is` with `MachineIs`; as an entry's `no_entry`, and
-- `entry_is` with `EntryIs`; as that of what is held `no_held`, and `held_is` with `HeldIs`.
use Rattle.std.proofs.Common.{ℕ, suc, ◌+◌, ◌-◌, ◌≤◌, ◌<◌, ◌≡◌, subst, arith, add-one, List, length, Some, None}
use Rattle.std.proofs.lemmas.Option.{cond_some}
use Rattle.laws.proofs.Parts.{from, from_drop}
use Rattle.text.specs.Lines.{line_end, before, first_is}
use Rattle.text.proofs.Split.{here}
use Rattle.text.proofs.FirstLine.{is_ended}
use Rattle.tasks.specs.Limits.{max_tasks}
use Rattle.machine.specs.Machine.{holding}
use Rattle.machine.specs.declared.machine.Machine.{Machine}
use Rattle.script.specs.Output.{bad_line}
use Rattle.probe.proofs.Missing.{cond_none}
use Rattle.probe.specs.Input.{is_machine_line, zero_entries, is_entry_line, with_entry, is_held_line, first_line, entry_from, held_from, held_number, last_line}
use Rattle.probe.specs.Printed.{printed_asked, printed_held, printed_from, printed}
use Rattle.probe.specs.declared.input.FirstLine.{FirstLine}
use Rattle.probe.specs.declared.input.EntryLine.{EntryLine}
use Rattle.probe.specs.declared.input.HeldLine.{HeldLine}

module _ (s : List ℕ) where
  pub no_machine : first_line s ≡ None → printed s ≡ bad_line 1
  unfolding printed first_line
  no_machine e = rw (cond_none (first_is is_machine_line s) _ e)

  -- the first line lies within the text, which goes on after it
  pub record MachineIs (first : FirstLine) : Type 0 where
    pub within : first.length ≤ length s
    pub is : printed s ≡ printed_from (zero_entries first.count first.cores) 0 max_tasks (from s first.length)

  pub machine_is : (first : FirstLine) → first_line s ≡ Some first → MachineIs first
  unfolding printed first_line
  machine_is first e =
      let (b, q) = cond_some (first_is is_machine_line s) _ first e in
      let h = here line_end s (is_ended is_machine_line s b) in
      subst MachineIs q (record { within = omega (arith, h.within); is = rw (b, from_drop s (length (before line_end s) + 1), h.rest) })

  module _ (m : Machine) where
    pub no_held : held_from s ≡ None → printed_held m s ≡ bad_line held_number
    unfolding printed_held held_from
    no_held e = rw (cond_none (first_is is_held_line s) _ e)

    -- the line lies within the text, and that of the call follows it
    pub record HeldIs (line : HeldLine) : Type 0 where
      pub within : line.length ≤ length s
      pub is : printed_held m s ≡ printed_asked (holding m line.held) (last_line (from s line.length))

    pub held_is : (line : HeldLine) → held_from s ≡ Some line → HeldIs line
    unfolding printed_held held_from
    held_is line e =
        let (b, q) = cond_some (first_is is_held_line s) _ line e in
        let h = here line_end s (is_ended is_held_line s b) in
        subst HeldIs q (record { within = omega (arith, h.within); is = rw (b, from_drop s (length (before line_end s) + 1), h.rest) })

    -- the entry at an index is still to be read
    module _ (i : ℕ) (h : i < max_tasks) where
      another : max_tasks - i ≡ suc (max_tasks - (i + 1))
      another = omega arith

      pub no_entry : entry_from s ≡ None → printed_from m i (max_tasks - i) s ≡ bad_line (i + 2)
      unfolding printed_from entry_from
      no_entry e = rw (another, cond_none (first_is is_entry_line s) _ e)

      -- its line lies within the text, and the other lines follow it
      pub record EntryIs (entry : EntryLine) : Type 0 where
        pub within : entry.length ≤ length s
        pub is :
            printed_from m i (max_tasks - i) s
            ≡ printed_from (with_entry m i entry.task entry.job entry.core) (i + 1) (max_tasks - (i + 1)) (from s entry.length)

      pub entry_is : (entry : EntryLine) → entry_from s ≡ Some entry → EntryIs entry
      unfolding printed_from entry_from
      entry_is entry e =
          let (b, q) = cond_some (first_is is_entry_line s) _ entry e in
          let l = here line_end s (is_ended is_entry_line s b) in
          subst EntryIs q
          (record { within = omega (arith, l.within); is = rw (another, b, from_drop s (length (before line_end s) + 1), l.rest, add-one i) })
