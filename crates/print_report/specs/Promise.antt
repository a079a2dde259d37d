-- The promise of `report_piece`: it is the piece of the report of every file of which what is held is the outcome.
use Rattle.std.specs.Prelude.{ℕ, ◌≤◌, ◌<◌, ◌≡◌, List, length}
use Rattle.print_lines.specs.Pieces.{text_from, PieceGiven}
use Rattle.print_lines.specs.declared.Piece.{Piece}
use Rattle.circuit.specs.Circuit.{Circuit}
use Rattle.circuit.specs.Records.{padded}
use Rattle.circuit.specs.Reading.{accepted, reading_of}
use Rattle.grading.specs.Buffers.{Buffers, Room, room_of}
use Rattle.grading.specs.Rows.{rows_of}
use Rattle.grading.specs.Grading.{Grading, grading_of}
use Rattle.grading.specs.Promise.{Answer, Promise}
use Rattle.grading.specs.Codes.{codes_of}
use Rattle.print_report.specs.Report.{report_line, line_count, report_of}
use Rattle.print_report.specs.Held.{held_line, held_count, RowsHeld}

-- the outcome of a file and lent buffers: the answer and the buffers as grading promises them, of these the matrix and the classes, and the
-- circuit's rows as numbers
pub record OutcomeOf (file : List ℕ) (before : Buffers) (answer : Answer) (codes matrix classes : List ℕ) : Type 0 where
  pub after : Buffers
  pub promised : Promise file before answer after
  pub matrix_is : matrix ≡ after.matrix
  pub classes_are : classes ≡ after.classes
  pub listed : (c : Circuit) → reading_of file ≡ accepted c → codes ≡ padded 2048 0 (codes_of (rows_of c))

-- a piece of the report of a grading
abbrev pub PieceOfReport : Grading → ℕ → List ℕ → Piece → List ℕ → Type 0
PieceOfReport grading from buffer piece after = PieceGiven (report_line grading) (line_count grading) from buffer piece after

pub record ReportPiece
    (answer : Answer) (codes matrix classes : List ℕ) (from : ℕ) (out : List ℕ) (piece : Piece) (out' : List ℕ) : Type 0 where
  -- whatever is held, the piece of its lines
  pub of_held : PieceGiven (held_line answer codes matrix classes) (held_count answer) from out piece out'
  pub of_report : (file : List ℕ) (before : Buffers) → OutcomeOf file before answer codes matrix classes
      → PieceOfReport (grading_of file (room_of before)) from out piece out'

-- ---- theorems

-- all lines, one behind the other, are the report
abbrev pub ReportIsLines : Type 0
ReportIsLines = (grading : Grading) → report_of grading ≡ text_from (report_line grading) 0 (line_count grading)

-- no line is empty, and each has room in 512 bytes, so that a piece of them brings progress
abbrev pub LinesFit : Type 0
LinesFit =
    (file : List ℕ) (room : Room) (n : ℕ) → n < line_count (grading_of file room)
    → (0 < length (report_line (grading_of file room) n)) × (length (report_line (grading_of file room) n) ≤ 512)

-- an outcome has the rows that `report_piece` asks for
abbrev pub RowsAreHeld : Type 0
RowsAreHeld =
    (file : List ℕ) (before : Buffers) (answer : Answer) (codes matrix classes : List ℕ)
    → OutcomeOf file before answer codes matrix classes → RowsHeld answer codes matrix classes
