-- What the program hands over of a file's report: lines one behind the other, each the report's, from the first to the last.
use Rattle.std.specs.Prelude.{ℕ, ◌≡◌, List, length, Option}
use Rattle.print_lines.specs.Handing.{TextHandsOn, TextHanded}
use Rattle.print_lines.specs.declared.Piece.{Piece}
use Rattle.program_io.specs.Outputs.{TextPut}
use Rattle.program_io.specs.Telling.{InputPut, AllPut}
use Rattle.program_io.specs.declared.output.Output.{Output}
use Rattle.circuit.specs.Circuit.{Circuit}
use Rattle.circuit.specs.Records.{padded}
use Rattle.circuit.specs.Reading.{accepted, reading_of}
use Rattle.circuit.specs.Answers.{Tells}
use Rattle.circuit.specs.declared.Reading.{Reading as ReadingRecord}
use Rattle.grading.specs.Buffers.{room_for_all}
use Rattle.grading.specs.Rows.{rows_of}
use Rattle.grading.specs.Grading.{Grading, grading_of}
use Rattle.grading.specs.Codes.{codes_of}
use Rattle.print_report.specs.Report.{report_line, line_count, report_of}

-- a file's grading: the buffers are long enough for every file, so that 15 and 22 never come
abbrev pub grading_of_file : List ℕ → Grading
grading_of_file file = grading_of file room_for_all

-- the lines of a file's report by their numbers, and how many they are
abbrev pub line_of_file : List ℕ → ℕ → List ℕ
line_of_file file = report_line (grading_of_file file)

abbrev pub lines_of_file : List ℕ → ℕ
lines_of_file file = line_count (grading_of_file file)

-- the front of a buffer is exactly the lines of a file's report from one on, up to the piece's end
abbrev pub HandsOn : List ℕ → ℕ → Piece → List ℕ → Type 0
HandsOn file lines piece out = TextHandsOn (line_of_file file) lines piece out

-- so many lines are all of the report
abbrev pub AllHanded : List ℕ → ℕ → Type 0
AllHanded file lines = TextHanded (lines_of_file file) lines

-- the report, byte by byte
abbrev pub report_of_file : List ℕ → List ℕ
report_of_file file = report_of (grading_of_file file)

-- in a writer that says its bytes the report stands behind what stood
abbrev pub ReportPut : List ℕ → Output → Output → Option (List ℕ) → Option (List ℕ) → Type 0
ReportPut file before after old new = TextPut before after old new (report_of_file file)

-- and of an input nothing, or a heading and the report of some bytes
abbrev pub InputReported : Output → Output → Option (List ℕ) → Option (List ℕ) → Type 0
InputReported = InputPut ReportPut

-- and of one input or more that of each, one behind the other
abbrev pub InputsReported : Output → Output → Option (List ℕ) → Option (List ℕ) → Type 0
InputsReported = AllPut InputReported

-- the rows, as numbers, of the circuit that was read
pub record RowsRead (reading : ReadingRecord) (codes : List ℕ) : Type 0 where
  pub many : length codes ≡ 2048
  pub listed : (file : List ℕ) (c : Circuit) → Tells (reading_of file) reading → reading_of file ≡ accepted c
      → codes ≡ padded 2048 0 (codes_of (rows_of c))
