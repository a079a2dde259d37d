-- Demand 2, columns: the cells of a column are told by types, bridges, instances and the column's own vector.
use Prim.Native.Nat.{ℕ}
use mathlib.Core.Path.{◌≡◌, sym, ap, ap₂, ◌∙◌}
use mathlib.Core.List.{List}
use lib.ListN.{get_or}
use Rattle.words.specs.Bits.{of_bool}
use Rattle.switch.specs.Conduction.{Value}
use Rattle.circuit.specs.Circuit.{Circuit}
use Rattle.grading.specs.Rows as rows
use Rattle.grading.specs.Rows.{Row, no_row, rows_of, row_values, mark_of}
use Rattle.demands.specs.Calls.{Call}
use Rattle.demands.specs.Two.{MatrixCell, row_of_cell, vector_of_cell, mark_in, AlikeButVectors, ColumnIsOfItsVector}
use Rattle.demands.proofs.Gave.{Gave, gave}
use Rattle.demands.proofs.Cells.{mark_is}

module _ (c d : Circuit) (alike : AlikeButVectors c d) where
  pub same_rows : rows_of c ≡ rows_of d
  unfolding rows_of
  same_rows = rw (alike.types, alike.bridges, alike.instances)

  pub same_cell : (vector : List Value) (row : Row) → rows.cell c vector row ≡ rows.cell d vector row
  unfolding rows.cell row_values
  same_cell vector row = rw (alike.types, alike.instances)

pub same-column : (one other : Call) (c d : Circuit) → Gave one c → Gave other d → AlikeButVectors c d
    → (cell : MatrixCell c) (its : MatrixCell d) → cell.row ≡ its.row → vector_of_cell cell ≡ vector_of_cell its → mark_in one cell ≡ mark_in other its
unfolding mark_of
same-column one other c d here here' alike cell its same_row same-vector =
    mark_is one c here cell.row cell.vector cell.is_row cell.is_vector
    ∙ ap of_bool (same_cell c d alike (vector_of_cell cell) (row_of_cell cell) ∙ ap₂ (rows.cell d) same-vector row_is)
    ∙ sym (mark_is other d here' its.row its.vector its.is_row its.is_vector)
  where
    row_is : row_of_cell cell ≡ row_of_cell its
    row_is = ap₂ (λ (rs : List Row) (r : ℕ). get_or rs r no_row) (same_rows c d alike) same_row

pub column_is_of_its_vector : ColumnIsOfItsVector
column_is_of_its_vector one other c d given given' = same-column one other c d (gave one c given) (gave other d given')
