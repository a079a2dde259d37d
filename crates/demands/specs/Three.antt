-- Demand 3. Refine vectors (fill X's, add vectors at the end) and every mark stands, and the found count does not fall.
use Rattle.std.specs.Prelude.{ℕ, ◌≤◌, ◌<◌, ◌≡◌, ◌⊎◌, List, [], length, get_or}
use Rattle.switch.specs.Conduction.{Value, at_x}
use Rattle.circuit.specs.Circuit.{Circuit}
use Rattle.grading.specs.Rows.{CellMarked}
use Rattle.grading.specs.Promise.{counts_of}
use Rattle.demands.specs.Calls.{Call, GradedAs}
use Rattle.demands.specs.Two.{MatrixCell, row_of_cell, vector_of_cell, mark_in, AlikeButVectors}

-- what a vector gives a primary input, both counted from 0
unfoldable pub given : List (List Value) → ℕ → ℕ → Value
given vectors v i = get_or (get_or vectors v []) i at_x

-- the second vectors agree wherever the first have 0 or 1; perhaps there are more at the end
pub record Refined (vectors finer : List (List Value)) : Type 0 where
  pub no_fewer : length vectors ≤ length finer
  pub agree : (v i : ℕ) → v < length vectors → (given vectors v i ≡ at_x) ⊎ (given finer v i ≡ given vectors v i)

-- each mark stands in the same row and column, and the found count is no smaller
pub record Three (one finer : Call) (c : Circuit) : Type 0 where
  pub marks : (cell : MatrixCell c) → mark_in one cell ≡ 1 → mark_in finer cell ≡ 1
  pub found : (counts_of one.answer).found ≤ (counts_of finer.answer).found

abbrev pub ThreeHolds : Type 0
ThreeHolds =
    (one finer : Call) (c d : Circuit) → GradedAs one c → GradedAs finer d → AlikeButVectors c d → Refined c.vectors d.vectors
    → Three one finer c

-- so a mark that was made with X holds under every filling of its vector
abbrev pub MarksHoldUnderEveryFilling : Type 0
MarksHoldUnderEveryFilling =
    (call : Call) (c : Circuit) → GradedAs call c → (cell : MatrixCell c) → mark_in call cell ≡ 1
    → (filling : List Value) → length filling ≡ c.inputs
    → ((i : ℕ) → (get_or (vector_of_cell cell) i at_x ≡ at_x) ⊎ (get_or filling i at_x ≡ get_or (vector_of_cell cell) i at_x))
    → CellMarked c filling (row_of_cell cell)
