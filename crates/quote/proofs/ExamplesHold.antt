-- The examples of texts all hold: antt computes every entry of the list.
use mathlib.Core.Path.{◌≡◌, refl}
use mathlib.Core.Bool.{true}
use Rattle.laws.specs.Examples.{same_numbers, all_true}
use Rattle.text.specs.Lines.{has, before, after, first_is, is_empty, field_count, field}
use Rattle.text.specs.Words.{same_bytes}
use Rattle.text.specs.Number.{is_digit, all_digits, leading_zero, well_formed, decimal_from, decimal, digits_of, decimal_text}
use Rattle.text.specs.Output.{further_numbers, numbers_line, refused_line}
use Rattle.lines.specs.Printed.{lines_up_to}
use Rattle.reader.specs.Value.{is_value}
use Rattle.judge.specs.SlackExamples.{is_refusal}
use Rattle.ranges.proofs.Computing.{computing_ranges}
use Rattle.quote.specs.Reading.{is_names, five_values, ranged_task_of, ended, or_refused, range_lines, reading}
use Rattle.quote.specs.Printed.{header, answer_word, quote_line, printed_after, printed}
use Rattle.quote.specs.Examples.{ranges_text, handbook_values, handbook_output, five_then_sixteen, sixteen_before_five, other_order, plain_lines, second_out_of_order, second_out_of_range, second_of_four, second_unended, outcome_of, read_outcome, reading_refused, text_examples}

pub text_examples_hold : all_true text_examples ≡ true
unfolding
    computing_ranges all_true same_numbers is_refusal
    has before after first_is is_empty field_count field same_bytes
    is_digit all_digits leading_zero well_formed decimal_from decimal digits_of decimal_text further_numbers numbers_line refused_line lines_up_to is_value
    is_names five_values ranged_task_of ended or_refused range_lines reading header answer_word quote_line printed_after printed
    ranges_text handbook_values handbook_output five_then_sixteen sixteen_before_five other_order
    plain_lines second_out_of_order second_out_of_range second_of_four second_unended outcome_of read_outcome reading_refused text_examples
text_examples_hold = refl
