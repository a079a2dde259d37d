-- A file's report as it is handed over: what the program holds gives pieces of it, none of which is empty before the last line. Assumes
-- nothing.
use Prim.Native.Nat.{ℕ, ◌≤◌, ◌<◌}
use mathlib.Core.Path.{◌≡◌, subst}
use mathlib.Core.List.{List}
use native.Mathlib.Omega.{arith}
use lib.ListN.{length}
use Rattle.print_lines.specs.declared.Piece.{Piece}
use Rattle.print_lines.proofs.PieceLaws.{piece-some}
use Rattle.grading.specs.Buffers.{Room, room_for_all}
use Rattle.grading.specs.Grading.{grading_of}
use Rattle.grading.specs.Promise.{Answer}
use Rattle.print_report.specs.Report.{report_line, line_count}
use Rattle.print_report.specs.Promise.{PieceOfReport, ReportPiece}
use Rattle.print_report.proofs.ReportLaws.{lines_fit}
use Rattle.program_grade.specs.Handing.{grading_of_file}
use Rattle.program_grade.specs.Held.{FileHeld}

-- a piece of the file's report
abbrev pub PieceOfFile : List ℕ → ℕ → List ℕ → Piece → List ℕ → Type 0
PieceOfFile file from buffer piece after = PieceOfReport (grading_of_file file) from buffer piece after

module _ {from : ℕ} {buffer : List ℕ} {piece : Piece} {after : List ℕ} where
  pub piece_of_file : {file : List ℕ} {answer : Answer} {codes matrix classes : List ℕ} → FileHeld file answer codes matrix classes
      → ReportPiece answer codes matrix classes from buffer piece after → PieceOfFile file from buffer piece after
  piece_of_file {file} held given =
      subst (λ (room : Room). PieceOfReport (grading_of file room) from buffer piece after) held.room
      (given.of_report file held.before held.outcome)

  -- 512 bytes are room for each line, so that a piece is empty only past the last
  pub moves : (file : List ℕ) → PieceOfFile file from buffer piece after → from < line_count (grading_of_file file) → 512 ≤ length buffer
      → 0 < piece.count
  moves file given more room =
      let fits = lines_fit file room_for_all from more in
      piece-some (report_line (grading_of_file file)) (line_count (grading_of_file file)) from buffer piece after given more fits.0
      (omega (arith, fits.1, room))
