-- No line of a report is empty, and none is longer than 512 bytes; a refusal's line is in print_lines/proofs/LineSizes. Assumes nothing.
use Prim.Native.Nat.{ℕ, ◌+◌, ◌≤◌}
use mathlib.Core.List.{List, [], ◌∷◌, ◌++◌}
use native.Mathlib.Omega.{arith}
use mathlib.Core.Path.{◌≡◌}
use lib.ListN.{length}
use Rattle.words.specs.Rows.{mark_at, marks_of, first_mark_of}
use Rattle.print_lines.specs.Decimal.{decimal}
use Rattle.print_lines.specs.Lines.{space}
use Rattle.print_lines.proofs.LineSizes.{AtMost, number, bytes, ◌then◌, Sized, sized}
use Rattle.grading.specs.Grading.{Counts}
use Rattle.print_report.specs.Lines.{vectors_word, faults_word, classes_word, found_word, rounds_word}
use Rattle.print_report.specs.Lines.{first_line, kind_letter, digits_of_marks, row_line, rounds_line}
use Rattle.print_report.specs.Report.{counts_line}
use Rattle.words.proofs.Tables.{length-table}

pub length-marks : (vectors : ℕ) (row : List ℕ) → length (digits_of_marks vectors row) ≡ vectors
unfolding digits_of_marks
length-marks vectors row = length-table vectors (λ (v : ℕ). 48 + mark_at row v)

pub counts_sized : (counts : Counts) → Sized (counts_line counts)
unfolding counts_line first_line
counts_sized counts =
    sized (vectors_word ++ decimal counts.vectors ++ space ++ faults_word ++ decimal counts.faults ++ space ++ classes_word
    ++ decimal counts.classes ++ space ++ found_word ++ decimal counts.found)
    (bytes vectors_word then number counts.vectors then bytes space then bytes faults_word then number counts.faults
    then bytes space then bytes classes_word then number counts.classes then bytes space then bytes found_word then number counts.found)
    (omega arith)

pub row_sized : (instance kind first second class vectors : ℕ) (row : List ℕ) → vectors ≤ 256
    → Sized (row_line instance kind first second class vectors row)
unfolding row_line
row_sized instance kind first second class vectors row few =
    sized (decimal instance ++ space ++ (kind_letter kind ∷ []) ++ space ++ decimal first ++ space ++ decimal second ++ space
    ++ decimal class ++ space ++ digits_of_marks vectors row ++ space ++ decimal (marks_of row) ++ space ++ decimal (first_mark_of row))
    (number instance then bytes space then bytes (kind_letter kind ∷ []) then bytes space then number first then bytes space
    then number second then bytes space then number class then bytes space then marks
    then bytes space then number (marks_of row) then bytes space then number (first_mark_of row))
    (omega arith)
  where
    marks : AtMost 256 (digits_of_marks vectors row)
    marks = record { few = omega (arith, length-marks vectors row, few) }

pub rounds_sized : (rounds : ℕ) → Sized (rounds_line rounds)
unfolding rounds_line
rounds_sized rounds = sized (rounds_word ++ decimal rounds) (bytes rounds_word then number rounds) (omega arith)
