-- What the entry for rows promises, for any bytes and any row buffer: three numbers in a fixed order, and the buffer at exit.
use Rattle.std.specs.Prelude.{ℕ, ◌≡◌, cond, List, [], ◌∷◌, ltb, length}
use Rattle.circuit.specs.Reading.{Reading, accepted, refusal, reading_of}
use Rattle.grading.specs.Rows.{rows_of}
use Rattle.grading.specs.Grading.{Grading, graded, refused, counts_in, number_in, place_in, over}
use Rattle.grading.specs.Codes.{codes_of}

-- 01, "Refusal numbers": the table's refusals first; then a row buffer shorter than the faults, as a class buffer is refused: 22, faults
unfoldable pub rows_after_reading : Reading → ℕ → Grading
rows_after_reading (refusal number place) entries = refused number place
rows_after_reading (accepted c) entries = let faults = length (rows_of c) in cond (ltb entries faults) (refused 22 faults) (graded c)

-- number, place, faults
unfoldable pub three_numbers : Grading → List ℕ
three_numbers g = number_in g ∷ place_in g ∷ (counts_in g).faults ∷ []

-- instance, kind and ends of each row, as one number each, then what stood there; after a refusal all as it was
unfoldable pub rows_buffer_after : Grading → List ℕ → List ℕ
rows_buffer_after (graded c) rows = over (codes_of (rows_of c)) rows
rows_buffer_after (refused number place) rows = rows

pub record RowsMeets (g : Grading) (rows answer' rows' : List ℕ) : Type 0 where
  pub answer_at_exit : answer' ≡ three_numbers g
  pub rows_at_exit : rows' ≡ rows_buffer_after g rows

-- of `file`, a row buffer as it was, the answer, and the buffer as it is then
abbrev pub RowsPromise : List ℕ → List ℕ → List ℕ → List ℕ → Type 0
RowsPromise file rows answer' rows' = RowsMeets (rows_after_reading (reading_of file) (length rows)) rows answer' rows'
