-- What grading a circuit leaves: its rows marked and keyed, then the counts, and both buffers.
use Rattle.std.specs.Prelude.{ℕ, ◌≡◌, List, map, length, take}
use Rattle.circuit.specs.Circuit.{Circuit}
use Rattle.grading.specs.Rows.{Row, rows_of, matrix_of}
use Rattle.grading.specs.Wires.{one_end, other_end, wire_of}
use Rattle.grading.specs.Classes.{classes_of}
use Rattle.grading.specs.Rounds.{rounds_of}
use Rattle.grading.specs.Grading.{counts_of_circuit, over}
use Rattle.grading.specs.Promise.{counts_meant}
use Rattle.grading.specs.declared.Counts.{Counts as CountsRecord}
use Rattle.grade_classes.specs.Model.{wire_number, pair_key}

-- the key of a row: the numbers of the two wires that its bridge joins
abbrev pub row_key : Row → ℕ
row_key r = pair_key (wire_number (wire_of r one_end)) (wire_number (wire_of r other_end))

-- a circuit's rows marked: the matrix at the front of its buffer, the key of each row at the front of the 2,048 codes, and the rounds
pub record RowsMarked (c : Circuit) (matrix matrix' codes' : List ℕ) (rounds : ℕ) : Type 0 where
  pub matrix_is : matrix' ≡ over (matrix_of c) matrix
  pub codes_long : length codes' ≡ 2048
  pub keys_are : take (length (rows_of c)) codes' ≡ map row_key (rows_of c)
  pub rounds_are : rounds ≡ rounds_of c

-- a circuit graded: the counts, and both buffers
pub record Graded (c : Circuit) (counts : CountsRecord) (matrix classes matrix' classes' : List ℕ) : Type 0 where
  pub counts_are : counts_meant counts ≡ counts_of_circuit c
  pub matrix_is : matrix' ≡ over (matrix_of c) matrix
  pub classes_are : classes' ≡ over (classes_of (rows_of c)) classes
