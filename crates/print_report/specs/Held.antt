-- What the code computes: the report's lines from what a grading leaves in memory.
-- That is the answer, the rows as numbers, the matrix and the classes.
use Rattle.std.specs.Prelude.{ℕ, suc, ◌+◌, ◌*◌, ◌≤◌, min, List, [], ◌∷◌, ◌++◌, Ok, Err, length, get_or}
use Rattle.words.specs.Tables.{table}
use Rattle.print_lines.specs.Lines.{refusal_line}
use Rattle.print_lines.specs.Pieces.{line_in}
use Rattle.grading.specs.Codes.{instance_in, kind_in, first_in, second_in}
use Rattle.grading.specs.Grading.{Counts}
use Rattle.grading.specs.Promise.{Answer, number_why, place_why, counts_meant, counts_of}
use Rattle.print_report.specs.Lines.{row_line, rounds_line}
use Rattle.print_report.specs.Report.{counts_line}
use Rattle.print_report.specs.declared.RowHead.{RowHead}

-- a row but for its marks, from the number that it is kept as
abbrev pub head_of : ℕ → ℕ → RowHead
head_of code class = record {
  instance = instance_in code;
  kind = kind_in code;
  first = first_in code;
  second = second_in code;
  class = class;
}

-- the four words of the row at a place
abbrev pub words_at : List ℕ → ℕ → List ℕ
words_at matrix r = get_or matrix (4 * r) 0 ∷ get_or matrix (4 * r + 1) 0 ∷ get_or matrix (4 * r + 2) 0 ∷ get_or matrix (4 * r + 3) 0 ∷ []

abbrev pub head_line : RowHead → ℕ → List ℕ → List ℕ
head_line head vectors row = row_line head.instance head.kind head.first head.second head.class (min vectors 256) row

-- the line of the row at a place
unfoldable pub held_row : Counts → List ℕ → List ℕ → List ℕ → ℕ → List ℕ
held_row counts codes matrix classes r = head_line (head_of (get_or codes r 0) (get_or classes r 0)) counts.vectors (words_at matrix r)

-- the lines of a graded file, in the order of `report_lines`
unfoldable pub graded_lines : Counts → List ℕ → List ℕ → List ℕ → List (List ℕ)
graded_lines counts codes matrix classes =
    counts_line counts ∷ table counts.faults (held_row counts codes matrix classes) ++ (rounds_line counts.rounds ∷ [])

-- of an answer; of a refusal only its own
unfoldable pub held_lines : Answer → List ℕ → List ℕ → List ℕ → List (List ℕ)
held_lines (Ok counts) codes matrix classes = graded_lines (counts_meant counts) codes matrix classes
held_lines (Err why) codes matrix classes = refusal_line (number_why why) (place_why why) ∷ []

-- the line at a number
unfoldable pub held_line : Answer → List ℕ → List ℕ → List ℕ → ℕ → List ℕ
held_line answer codes matrix classes = line_in (held_lines answer codes matrix classes)

-- how many lines there are, which the answer alone tells
abbrev pub held_count : Answer → ℕ
held_count (Ok counts) = suc (suc counts.faults)
held_count (Err why) = 1

-- the rows are there
pub record RowsHeld (answer : Answer) (codes matrix classes : List ℕ) : Type 0 where
  pub codes_held : (counts_of answer).faults ≤ length codes
  pub words_held : 4 * (counts_of answer).faults ≤ length matrix
  pub classes_held : (counts_of answer).faults ≤ length classes
