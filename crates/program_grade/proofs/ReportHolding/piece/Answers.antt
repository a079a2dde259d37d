-- What `program_grade` holds of a file gives pieces of its report. Assumes nothing.
use Rattle.print_report.proofs.HeldIsReport.{rows_are_held}
use Rattle.program_grade.proofs.HandingLaws.{piece_of_file, moves}
use Rattle.program_grade.proofs.ReportHolding.piece.Goals as goal

pub invariant_of-held : goal.invariant_of-held
invariant_of-held c = record { rows_held = rows_are_held _ _ _ _ _ _ c.requires.1.outcome }

pub returns : goal.returns
returns c = λ file held.
    let given = piece_of_file held c.report_piece.ensures in
    record { given = given; moves = moves file given }
