-- The examples of audits hold: antt computes what each gives (`audits_hold`), and that task 2 is late in line 5 of one (`late_in_line_5`).
use mathlib.Core.Path.{◌≡◌, refl}
use mathlib.Core.Bool.{Bool, true}
use Rattle.text.specs.Lines.{has, before, after, first_is, in_first, lines, unended, field_count, field, is_empty}
use Rattle.text.specs.Words.{same_bytes}
use Rattle.text.specs.Number.{is_digit, all_digits, leading_zero, well_formed, decimal_from, decimal, is_number, digits_of, decimal_text}
use Rattle.text.specs.Fields.{each_number, are_numbers}
use Rattle.text.specs.Output.{further_numbers, numbers_line}
use Rattle.tasks.specs.Flags.{flags_from, flags_of}
use Rattle.job.specs.Precedence.{job_beats}
use Rattle.machine.specs.Calls.{slot_with}
use Rattle.machine.specs.Play.{machine_after}
use Rattle.machine.proofs.Computing.{computing}
use Rattle.auditing.specs.Log.{is_names_line, is_value_line, values_of}
use Rattle.auditing.specs.Line.{release_at, finish_at, calls_from, line_calls, all_taken, is_open_at, ran_open, unbeaten, none_beaten, legal_run}
use Rattle.auditing.specs.Line.{before_running, running_of, line_taken, after_line}
use Rattle.auditing.specs.Audit.{accepted_log, offending_log, refused_log, audited_lines, audited_log, audited_after, audited}
use Rattle.auditing.specs.OwnLog.{line_text, lines_text}
use Rattle.auditing.specs.InTimeLog.{after_lines}
use Rattle.conformance.specs.AuditExamples.{all_give, all_must, case_j, case_k, values, log_with, takes, offends, broken, nameless}
use Rattle.conformance.specs.AuditExamples.{two_values, leading_zero_line, too_large, eleven_digits, not_ended, late_lines, audit_examples, late_in_line5}

unfoldable auditing : Bool
unfolding
    has before after first_is in_first lines unended field_count field is_empty same_bytes
    is_digit all_digits leading_zero well_formed decimal_from decimal is_number digits_of decimal_text each_number are_numbers further_numbers numbers_line
    flags_from flags_of job_beats slot_with machine_after computing
    is_names_line is_value_line values_of release_at finish_at calls_from line_calls all_taken is_open_at ran_open unbeaten none_beaten legal_run
    before_running running_of line_taken after_line accepted_log offending_log refused_log audited_lines audited_log audited_after audited
    line_text lines_text after_lines
    all_give all_must case_j case_k values log_with takes offends broken nameless
    two_values leading_zero_line too_large eleven_digits not_ended late_lines audit_examples late_in_line5
auditing = true

pub audits_hold : all_give audit_examples ≡ all_must audit_examples
unfolding auditing
audits_hold = refl

pub late_in_line_5 : late_in_line5 ≡ true
unfolding auditing
late_in_line_5 = refl
