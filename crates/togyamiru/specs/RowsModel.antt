-- What the code that lists rows computes: the same of its answer, of which the count of faults alone is looked at.
use Rattle.std.specs.Prelude.{ℕ, ◌≡◌, List, length}
use Rattle.circuit.specs.Reading.{reading_of}
use Rattle.circuit.specs.Answers.{Tells}
use Rattle.circuit.specs.declared.Reading.{Reading as ReadingRecord}
use Rattle.grading.specs.Grading.{Grading, counts_in, number_in, place_in}
use Rattle.grading.specs.Promise.{Answer, number_of, place_of, counts_of}
use Rattle.togyamiru.specs.RowsEntry.{rows_after_reading, rows_buffer_after}

pub record RowsAnswered (g : Grading) (answer : Answer) (rows rows' : List ℕ) : Type 0 where
  pub number : number_of answer ≡ number_in g
  pub place : place_of answer ≡ place_in g
  pub faults : (counts_of answer).faults ≡ (counts_in g).faults
  pub rows_at_exit : rows' ≡ rows_buffer_after g rows

-- of `file`, a row buffer as it was, the answer, and the buffer as it is then
abbrev pub RowsAnswer : List ℕ → List ℕ → Answer → List ℕ → Type 0
RowsAnswer file rows answer rows' = RowsAnswered (rows_after_reading (reading_of file) (length rows)) answer rows rows'

-- of a reading in place of the file: of every file of which it tells
abbrev pub RowsAnswerOfRead : ReadingRecord → List ℕ → Answer → List ℕ → Type 0
RowsAnswerOfRead reading rows answer rows' = (file : List ℕ) → Tells (reading_of file) reading → RowsAnswer file rows answer rows'
