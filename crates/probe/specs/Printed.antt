-- What is printed for a text (docs/HANDBOOK.md, "Probing one call").
use Rattle.std.specs.Prelude.{ℕ, zero, suc, ◌+◌, List, ◌++◌, cond, Result, Ok, Err}
use Rattle.text.specs.Lines.{line_end, before, after, first_is}
use Rattle.tasks.specs.Limits.{max_tasks}
use Rattle.machine.specs.Machine.{holding}
use Rattle.machine.specs.Calls.{step}
use Rattle.machine.specs.declared.machine.Machine.{Machine}
use Rattle.machine.specs.declared.call.Call.{Call}
use Rattle.script.specs.Calls.{fields_task}
use Rattle.script.specs.Output.{bad_line, answer_line, answer_room}
use Rattle.probe.specs.Input.{is_machine_line, count_of, cores_of, zero_entries, is_entry_line, entry_job, entry_core, with_entry, is_held_line, held_of, held_number, last_line}
use Rattle.probe.specs.Output.{machine_lines, machine_room}
use Rattle.probe.specs.declared.input.Input.{Input}

-- "the line of the call's answer as replay does .., and then the machine after the call in the same 34 lines"
unfoldable pub shown : Machine → Call → List ℕ
shown m call = answer_line call (step m call) ++ machine_lines (step m call).machine

-- what is printed once the machine is read, by the call's line: "Anything else prints `BAD LINE n` alone"
unfoldable pub printed_asked : Machine → Result Call ℕ → List ℕ
printed_asked m (Ok call) = shown m call
printed_asked m (Err n) = bad_line n

-- what is printed once the entries are read, by the line of what is held and by the call's
unfoldable pub printed_held : Machine → List ℕ → List ℕ
printed_held m s =
    cond (first_is is_held_line s) (printed_asked (holding m (held_of (before line_end s))) (last_line (after line_end s))) (bad_line held_number)

-- what is printed where so many entries of the machine, from the index i on, are still to be read from a text, whose first line has the number i + 2
unfoldable pub printed_from : Machine → (i more : ℕ) → List ℕ → List ℕ
printed_from m i zero s = printed_held m s
printed_from m i (suc more) s =
    let l = before line_end s in
    cond (first_is is_entry_line s) (printed_from (with_entry m i (fields_task l) (entry_job l) (entry_core l)) (suc i) more (after line_end s)) (bad_line (i + 2))

-- what is printed for a text: "n, counted from 1, is the first line that is not what it must be, is not ended, or is missing"
unfoldable pub printed : List ℕ → List ℕ
printed s =
    let l = before line_end s in
    cond (first_is is_machine_line s) (printed_from (zero_entries (count_of l) (cores_of l)) 0 max_tasks (after line_end s)) (bad_line 1)

-- what is printed for an input that was read, or for its first bad line: for the contracts of private functions
unfoldable pub printed_input : Result Input ℕ → List ℕ
printed_input (Ok input) = shown input.machine input.call
printed_input (Err n) = bad_line n

-- bytes that are enough for what is printed: those for the line of an answer and for a machine's lines
abbrev pub room : ℕ
room = answer_room + machine_room
