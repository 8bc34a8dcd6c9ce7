-- The example holds: antt computes what is printed for it.
use mathlib.Core.Path.{◌≡◌, refl}
use Rattle.text.specs.Lines.{has, before, after, first_is, in_first, lines, unended, field_count, field, is_empty}
use Rattle.text.specs.Words.{same_bytes, begins_with}
use Rattle.text.specs.Number.{is_digit, all_digits, leading_zero, well_formed, decimal_from, decimal, is_number, number_of, number_after, digits_of, decimal_text}
use Rattle.text.specs.Fields.{each_number, are_numbers}
use Rattle.text.specs.Output.{further_numbers, numbers_line, refused_line}
use Rattle.reader.specs.Value.{is_value}
use Rattle.reader.specs.Names.{column_in, columns_in, each_named, columns_of, three_names, begins_with_names}
use Rattle.reader.specs.Reading.{refused, three_values, begins_with_values, task_of, ended, value_lines, reading}
use Rattle.machine.proofs.Computing.{computing}
use Rattle.script.specs.Calls.{release_of, fields_task, task_fields, offer_of, call_with, call_of}
use Rattle.script.specs.Output.{bad_line, runner_cores, report_line, accepted_line, outcome_line, answer_line}
use Rattle.tasks.specs.Outcome.{first_refusal}
use Rattle.script.specs.WordLine.{word_line_from, word_line}
use Rattle.replay.specs.Script.{on_call, answer_lines, printed_after_start, if_done, started, printed_for, printed_after_cores, printed_after_first, printed}
use Rattle.replay.specs.Examples.{example_script, example_output}

pub example_holds : printed example_script ≡ example_output
unfolding
    has before after in_first lines unended field_count field same_bytes begins_with
    is_digit all_digits leading_zero well_formed decimal_from decimal is_number number_of number_after digits_of decimal_text
    each_number are_numbers further_numbers numbers_line refused_line
    first_is is_value column_in columns_in each_named columns_of three_names begins_with_names
    refused three_values begins_with_values task_of ended is_empty value_lines reading computing
    release_of fields_task task_fields offer_of call_with call_of word_line_from word_line
    bad_line runner_cores report_line accepted_line outcome_line answer_line on_call answer_lines
    printed_after_start if_done started first_refusal printed_for printed_after_cores printed_after_first printed
    example_script example_output
example_holds = refl
