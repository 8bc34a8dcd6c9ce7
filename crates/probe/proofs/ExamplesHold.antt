-- The examples hold: antt computes what is printed for them.
use mathlib.Core.Path.{◌≡◌, refl}
use mathlib.Core.Bool.{Bool, true}
use Rattle.text.specs.Lines.{has, before, after, first_is, is_empty, field_count, field}
use Rattle.text.specs.Words.{same_bytes, begins_with}
use Rattle.text.specs.Number.{is_digit, all_digits, leading_zero, well_formed, decimal_from, decimal, is_number, number_of, number_after, digits_of, decimal_text}
use Rattle.text.specs.Fields.{each_number, are_numbers}
use Rattle.text.specs.Output.{further_numbers, numbers_line, refused_line}
use Rattle.machine.specs.Machine.{core_at}
use Rattle.machine.proofs.Computing.{computing}
use Rattle.script.specs.Calls.{release_of, fields_task, task_fields, offer_of, call_with, call_of}
use Rattle.script.specs.Output.{bad_line, accepted_line, outcome_line, answer_line}
use Rattle.probe.specs.Input.{is_machine_line, count_of, cores_of, zero_entries, is_entry_line, entry_job, entry_core, with_entry, is_held_line, held_of, only_call, last_line}
use Rattle.probe.specs.Output.{entry_line, entry_lines, held_line, machine_lines}
use Rattle.probe.specs.Printed.{shown, printed_asked, printed_held, printed_from, printed}
use Rattle.probe.specs.Examples.{example_text, example_output, zero_lines, closed_task, none_held, one_held, release_text, release_output, refused_text, refused_output, offer_text, offer_output, commit_text, commit_output, short_text, short_output}

pub example_holds : printed example_text ≡ example_output
unfolding
    has before after field_count field begins_with
    is_digit all_digits leading_zero well_formed decimal_from decimal is_number digits_of decimal_text
    each_number are_numbers further_numbers numbers_line bad_line
    first_is is_machine_line is_entry_line printed_from printed
    example_text example_output
example_holds = refl

-- what the texts of whole machines look through
unfoldable computing_lines : Bool
unfolding
    has before after is_empty field_count field same_bytes begins_with
    is_digit all_digits leading_zero well_formed decimal_from decimal is_number number_of number_after digits_of decimal_text
    each_number are_numbers further_numbers numbers_line refused_line bad_line core_at computing
    release_of task_fields offer_of call_with call_of accepted_line outcome_line answer_line
    first_is is_machine_line count_of cores_of zero_entries is_entry_line fields_task entry_job entry_core with_entry is_held_line held_of only_call last_line
    entry_line entry_lines held_line machine_lines shown printed_asked printed_held printed_from printed
    zero_lines closed_task none_held one_held
computing_lines = true

pub needs_hold : (printed release_text ≡ release_output) × (printed refused_text ≡ refused_output)
unfolding computing_lines release_text release_output refused_text refused_output
needs_hold = (refl, refl)

pub offers_hold : (printed offer_text ≡ offer_output) × (printed commit_text ≡ commit_output) × (printed short_text ≡ short_output)
unfolding computing_lines offer_text offer_output commit_text commit_output short_text short_output
offers_hold = (refl, refl, refl)
