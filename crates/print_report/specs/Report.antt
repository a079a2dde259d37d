-- What a whole report is (01, "The report"): one first line, then a line for each row, and the rounds last (02, "How many rounds joining
-- takes"); a refusal prints only its own line. Lines are numbered from 0; row r, from 0, is line r + 1.
use Rattle.std.specs.Prelude.{ℕ, List, [], ◌∷◌, ◌++◌, length}
use Rattle.print_lines.specs.Lines.{refusal_line}
use Rattle.print_lines.specs.Pieces.{line_in}
use Rattle.circuit.specs.Circuit.{Circuit, join_lists}
use Rattle.grading.specs.Rows.{Row, rows_of, row_words}
use Rattle.grading.specs.Codes.{kind_of, first_end, second_end}
use Rattle.grading.specs.Classes.{classes_of}
use Rattle.grading.specs.Grading.{Grading, graded, refused, Counts, counts_of_circuit}
use Rattle.print_report.specs.Lines.{first_line, row_line, rounds_line}

unfoldable pub line_of : Circuit → Row → ℕ → List ℕ
line_of c row class =
    let b = row.bridge in row_line row.number (kind_of b) (first_end b) (second_end b) class (length c.vectors) (row_words c row)

-- each row with its class
unfoldable pub row_lines : Circuit → List Row → List ℕ → List (List ℕ)
row_lines c [] classes = []
row_lines c (row ∷ rows) [] = []
row_lines c (row ∷ rows) (class ∷ classes) = line_of c row class ∷ row_lines c rows classes

unfoldable pub counts_line : Counts → List ℕ
counts_line counts = first_line counts.vectors counts.faults counts.classes counts.found

unfoldable pub report_lines : Grading → List (List ℕ)
report_lines (graded c) =
    let counts = counts_of_circuit c in
    counts_line counts ∷ row_lines c (rows_of c) (classes_of (rows_of c)) ++ (rounds_line counts.rounds ∷ [])
report_lines (refused number place) = refusal_line number place ∷ []

unfoldable pub report_line : Grading → ℕ → List ℕ
report_line grading = line_in (report_lines grading)

unfoldable pub line_count : Grading → ℕ
line_count grading = length (report_lines grading)

unfoldable pub report_of : Grading → List ℕ
report_of grading = join_lists (report_lines grading)
