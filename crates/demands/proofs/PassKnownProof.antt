-- The known results on pass transistors (specs/PassResults), by computation on the definitions. Assumes nothing.
use mathlib.Core.Path.{refl}
use Rattle.words.specs.Bits.{first_to}
use Rattle.words.specs.Rows.{mark_at, marks_of, first_mark_of}
use Rattle.print_lines.specs.Decimal.{digits_of, length_in, decimal}
use Rattle.print_lines.specs.Lines.{refusal_line}
use Rattle.grading.specs.Codes.{kind_of, first_end, second_end, code_of}
use Rattle.print_report.specs.Lines.{first_line, kind_letter, digits_of_marks, row_line, rounds_line}
use Rattle.demands.specs.Calls.{cell_at}
use Rattle.print_report.specs.Report.{line_of, row_lines, counts_line, report_lines, report_of}
use Rattle.demands.specs.Claims.{marks_from, marks_in, floats_under, floats_of, floats_in, Holds, AllHold, no_more, ◌and◌}
use Rattle.demands.specs.PassResults.{pass_results, pass_refusals, PassesKnown}
use Rattle.demands.proofs.Computing.{computing}

pass-results : AllHold pass_results
unfolding computing kind_of first_end second_end code_of cell_at marks_from marks_in floats_under floats_of floats_in Holds
    first_to mark_at marks_of first_mark_of digits_of length_in decimal first_line kind_letter digits_of_marks row_line rounds_line refusal_line
    line_of row_lines counts_line report_lines report_of
pass-results =
    refl and refl and refl and refl and refl and refl and refl and refl and refl and refl and refl and refl and refl and refl and refl and refl and no_more

pass-refusals : AllHold pass_refusals
unfolding computing Holds
pass-refusals =
    refl and refl and refl and refl and refl and refl and refl and refl and refl and refl and refl and refl and refl and refl and refl and refl and refl and no_more

pub passes_known : PassesKnown
passes_known = record { results = pass-results; refusals = pass-refusals }
