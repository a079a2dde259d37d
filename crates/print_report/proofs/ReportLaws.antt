-- The report's lines: one by one, all together, and how long they are. Assumes nothing.
use Prim.Native.Nat.{ℕ, zero, suc, ◌*◌, ◌≤◌, ◌<◌}
use mathlib.Core.Path.{◌≡◌, refl, ap}
use mathlib.Core.Bool.{Bool, true, false, cond}
use mathlib.Core.List.{List, [], ◌∷◌}
use native.Mathlib.Omega.{arith}
use lib.Dec.{ltb}
use lib.ListN.{length, get_or}
use Rattle.print_lines.proofs.LineList.{EachLine, each_at, each_append}
use Rattle.print_lines.proofs.LineSizes.{Sized, refusal_sized}
use Rattle.print_lines.proofs.PieceLaws.{text_of_list}
use Rattle.circuit.specs.Circuit.{Circuit, join_lists}
use Rattle.circuit.specs.Reading.{Reading, accepted, refusal, reading_of}
use Rattle.circuit.proofs.CircuitLaws.{accepted-is-good, refusal-is-good}
use Rattle.grading.specs.Buffers.{Room}
use Rattle.grading.specs.Rows.{Row, no_row, rows_of, row_words}
use Rattle.grading.specs.Classes.{classes_of}
use Rattle.grading.specs.Grading.{Grading, graded, refused, counts_of_circuit, grading_of_circuit, after_reading, grading_of}
use Rattle.grading.specs.Codes.{kind_of, first_end, second_end}
use Rattle.print_report.specs.Lines.{rounds_line}
use Rattle.print_report.specs.Report.{line_of, row_lines, report_lines, report_line, line_count, report_of}
use Rattle.print_report.specs.Promise.{ReportIsLines, LinesFit}
use Rattle.print_report.proofs.LineSizes.{counts_sized, row_sized, rounds_sized}

-- ---- the report's lines, one by one

pub length_lines : (c : Circuit) (rows : List Row) (classes : List ℕ) → length classes ≡ length rows
    → length (row_lines c rows classes) ≡ length rows
unfolding row_lines
length_lines c [] classes e = refl
length_lines c (row ∷ rows) [] e = e
length_lines c (row ∷ rows) (class ∷ classes) e = ap suc (length_lines c rows classes (omega (arith, e)))

pub line_at : (c : Circuit) (rows : List Row) (classes : List ℕ) (r : ℕ) → length classes ≡ length rows → r < length rows
    → get_or (row_lines c rows classes) r [] ≡ line_of c (get_or rows r no_row) (get_or classes r 0)
unfolding row_lines
line_at c [] classes r e h = absurd (omega arith)
line_at c (row ∷ rows) [] r e h = absurd (omega (arith, e))
line_at c (row ∷ rows) (class ∷ classes) zero e h = refl
line_at c (row ∷ rows) (class ∷ classes) (suc r) e h = line_at c rows classes r (omega (arith, e)) (omega arith)

pub report_is_lines : ReportIsLines
unfolding report_of report_line line_count join_lists
report_is_lines grading = text_of_list join_lists refl (λ l ls. refl) (report_lines grading)

-- ---- how long they are

-- a graded file was read, and a refusal has a number
unfoldable pub GradingSound : List ℕ → Grading → Type 0
GradingSound file (graded c) = reading_of file ≡ accepted c
GradingSound file (refused number place) = 1 ≤ number

pub grading-sound : (file : List ℕ) (room : Room) → GradingSound file (grading_of file room)
unfolding grading_of after_reading grading_of_circuit GradingSound
grading-sound file room = go (reading_of file) refl
  where
    by : (c : Circuit) → reading_of file ≡ accepted c → (a b : Bool)
        → GradingSound file (cond a (refused 15 (4 * length (rows_of c))) (cond b (refused 22 (length (rows_of c))) (graded c)))
    by c e true b = omega arith
    by c e false true = omega arith
    by c e false false = e

    go : (r : Reading) → reading_of file ≡ r → GradingSound file (after_reading r room)
    go (accepted c) e = by c e (ltb room.words (4 * length (rows_of c))) (ltb room.entries (length (rows_of c)))
    go (refusal number place) e = (refusal-is-good true file number place e).low

rows_sized : (c : Circuit) → length c.vectors ≤ 256 → (rows : List Row) (classes : List ℕ) → EachLine Sized (row_lines c rows classes)
unfolding row_lines line_of
rows_sized c few [] classes = tt
rows_sized c few (row ∷ rows) [] = tt
rows_sized c few (row ∷ rows) (class ∷ classes) =
    let b = row.bridge in (
      row_sized row.number (kind_of b) (first_end b) (second_end b) class (length c.vectors) (row_words c row) few,
      rows_sized c few rows classes,
    )

lines_sized : (file : List ℕ) (g : Grading) → GradingSound file g → EachLine Sized (report_lines g)
unfolding GradingSound report_lines
lines_sized file (graded c) reads =
    let counts = counts_of_circuit c in
    let rows = row_lines c (rows_of c) (classes_of (rows_of c)) in (
      counts_sized counts,
      each_append Sized rows (rounds_line counts.rounds ∷ []) (rows_sized c (accepted-is-good true file c reads).few_vectors (rows_of c)
          (classes_of (rows_of c)))
          (rounds_sized counts.rounds, tt),
    )
lines_sized file (refused number place) low = (refusal_sized number place, tt)

pub lines_fit : LinesFit
unfolding report_line line_count
lines_fit file room n h =
    let g : Grading = grading_of file room in each_at Sized (report_lines g) n (lines_sized file g (grading-sound file room)) h
