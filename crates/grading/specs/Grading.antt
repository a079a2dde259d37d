-- The answer for given bytes and given room. 01, "Refusal numbers": the table's refusals, then 15, then 22; a refusal leaves the
-- matrix and the class buffer unwritten and the counts at 0. Words past the last row, and class entries past the last, keep their
-- contents.
use Rattle.std.specs.Prelude.{ℕ, ◌*◌, Bool, true, false, cond, List, ◌++◌, ltb, length, drop}
use Rattle.circuit.specs.Circuit.{Circuit}
use Rattle.circuit.specs.Reading.{Reading, accepted, refusal, reading_of}
use Rattle.grading.specs.Buffers.{Buffers, Room}
use Rattle.grading.specs.Rows.{rows_of, matrix_of}
use Rattle.grading.specs.Classes.{classes_of, class_count, found_count}
use Rattle.grading.specs.Rounds.{rounds_of}

-- 01's four counts, and 02's rounds
pub record Counts : Type 0 where
  pub vectors : ℕ
  pub faults : ℕ
  pub classes : ℕ
  pub found : ℕ
  pub rounds : ℕ

abbrev pub no_counts : Counts
no_counts = record { vectors = 0; faults = 0; classes = 0; found = 0; rounds = 0 }

unfoldable pub counts_of_circuit : Circuit → Counts
counts_of_circuit c = record {
  vectors = length c.vectors;
  faults = length (rows_of c);
  classes = class_count c;
  found = found_count c;
  rounds = rounds_of c;
}

pub data Grading : Type 0 where
  graded : Circuit → Grading
  refused : ℕ → ℕ → Grading

-- matrix shorter than 4 times the faults: 15, words needed; class buffer shorter than the faults: 22, faults
unfoldable pub grading_of_circuit : Circuit → Room → Grading
grading_of_circuit c room =
    let faults = length (rows_of c) in
    cond (ltb room.words (4 * faults)) (refused 15 (4 * faults)) (cond (ltb room.entries faults) (refused 22 faults) (graded c))

unfoldable pub after_reading : Reading → Room → Grading
after_reading (refusal number place) room = refused number place
after_reading (accepted c) room = grading_of_circuit c room

unfoldable pub grading_of : List ℕ → Room → Grading
grading_of file room = after_reading (reading_of file) room

-- ---- what the answer and the buffers are

unfoldable pub is_graded_in : Grading → Bool
is_graded_in (graded c) = true
is_graded_in (refused number place) = false

unfoldable pub counts_in : Grading → Counts
counts_in (graded c) = counts_of_circuit c
counts_in (refused number place) = no_counts

-- number and place of the refusal, 0 and 0 where there is none
unfoldable pub number_in : Grading → ℕ
number_in (graded c) = 0
number_in (refused number place) = number

unfoldable pub place_in : Grading → ℕ
place_in (graded c) = 0
place_in (refused number place) = place

-- a buffer after the answer: the answer's list, then what stood there
unfoldable pub over : List ℕ → List ℕ → List ℕ
over answer buffer = answer ++ drop (length answer) buffer

unfoldable pub buffers_after : Grading → Buffers → Buffers
buffers_after (graded c) before =
    record { matrix = over (matrix_of c) before.matrix; classes = over (classes_of (rows_of c)) before.classes }
buffers_after (refused number place) before = before
