-- Demand 2, cells: the cell of a row and a vector is the mark of the row's bridge under the vector, by a path or by the bridge's ends, and
-- past the last vector it is 0. The rails of a row's instance are apart, since reading accepts complementary types only.
use Prim.Native.Nat.{ℕ, ◌/◌, ◌≤◌, ◌<◌}
use mathlib.Core.Path.{◌≡◌, refl, sym, ◌∙◌}
use mathlib.Core.Bool.{Bool, true, false}
use mathlib.Core.Logic.{◌↔◌}
use mathlib.Core.List.{List}
use native.Mathlib.Omega.{arith}
use lib.Dec.{T}
use lib.ListN.{length, drop}
use Rattle.words.specs.Bits.{of_bool}
use Rattle.words.specs.Tables.{up_to}
use Rattle.words.specs.Rows.{mark_at}
use Rattle.words.proofs.Laws.{of_bool_le_one, set-bit, bit-set}
use Rattle.words.proofs.Tables.{up-below, up-past}
use Rattle.words.proofs.Rows.{row-mark}
use Rattle.switch.specs.Conduction.{Value}
use Rattle.switch.specs.Bridges.{MarkedByEnds}
use Rattle.switch.specs.Statements.{Accepted}
use Rattle.switch.proofs.Apart.{rails-apart}
use Rattle.switch.proofs.Deciding.{mark_decides}
use Rattle.switch.proofs.Marks.{closed_path_is_ends}
use Rattle.circuit.specs.Circuit.{Circuit}
use Rattle.circuit.specs.Laws.{CircuitGood}
use Rattle.grading.specs.Rows as rows
use Rattle.grading.specs.Rows.{Row, no_row, rows_of, row_values, CellMarked, mark_of, row_words, matrix_of}
use Rattle.grading.specs.Grading.{over}
use Rattle.grade_classes.proofs.FoundMeaning.{words_are}
use Rattle.grading.proofs.WireLevels.{row_accepted as type-accepted}
use Rattle.demands.specs.Calls.{Call, cell_at}
use Rattle.demands.specs.Two.{row_at, vector_of, MatrixCell, row_of_cell, vector_of_cell, mark_in, values_in, CellsTell, CellIsPath}
use Rattle.demands.proofs.Gave.{Gave, gave}
use Rattle.demands.proofs.RowFaults.{row_of_lem}

module _ (call : Call) (c : Circuit) (here : Gave call c) (r v : ℕ) (h : r < length (rows_of c)) where
  pub marks : v < 256 → cell_at call.after.matrix r v ≡ up_to (length c.vectors) (mark_of c (row_at c r)) v
  unfolding cell_at matrix_of over row_words mark_at mark_of
  marks k =
      rw (here.matrix_is, words_are c (rows_of c) (drop (length (matrix_of c)) call.before.matrix) r (v / 64) no_row h (omega arith))
      (row-mark (length c.vectors) (mark_of c (row_at c r)) (λ u. of_bool_le_one (rows.cell c (vector_of c u) (row_at c r))) v k)

  pub mark_is : v < length c.vectors → cell_at call.after.matrix r v ≡ mark_of c (row_at c r) v
  mark_is k =
      let few = here.good.few_vectors in
      marks (omega arith) ∙ up-below (length c.vectors) (mark_of c (row_at c r)) v k

  cell_past : length c.vectors ≤ v → v < 256 → cell_at call.after.matrix r v ≡ 0
  cell_past k l = marks l ∙ up-past (length c.vectors) (mark_of c (row_at c r)) v k

-- a bit that tells a test which decides a fact
module _ {A : Type 0} (b : Bool) (decides : A ↔ T b) (n : ℕ) (is : n ≡ of_bool b) where
  pub says : (n ≡ 1) ↔ A
  says = (λ e. decides.1 (set-bit b (sym is ∙ e)), λ a. is ∙ bit-set b (decides.0 a))

  denies : (n ≡ 0) ↔ (A → ⊥)
  denies = (λ e a. not_one (sym (says.1 a) ∙ e), λ f. is ∙ none b (λ t. f (decides.1 t)))
    where
      not_one : ◌≡◌ {A = ℕ} 1 0 → ⊥
      not_one e = omega arith

      none : (d : Bool) → (T d → ⊥) → of_bool d ≡ 0
      none true f = absurd (f tt)
      none false f = refl

pub cell_decides : (c : Circuit) (vector : List Value) (row : Row) → CellMarked c vector row ↔ T (rows.cell c vector row)
unfolding CellMarked rows.cell
cell_decides c vector row = mark_decides row.type (row_values c vector row) row.bridge

-- the type of a row of a good circuit
row_accepted : (c : Circuit) → CircuitGood c → (r : ℕ) → r < length (rows_of c) → Accepted (row_at c r).type
row_accepted c good r h = type-accepted c good (row_at c r) (row_of_lem c r h)

module _ (call : Call) (c : Circuit) (here : Gave call c) (cell : MatrixCell c) where
  is_mark : mark_in call cell ≡ mark_of c (row_of_cell cell) cell.vector
  is_mark = mark_is call c here cell.row cell.vector cell.is_row cell.is_vector

  decided : CellMarked c (vector_of_cell cell) (row_of_cell cell) ↔ T (rows.cell c (vector_of_cell cell) (row_of_cell cell))
  decided = cell_decides c (vector_of_cell cell) (row_of_cell cell)

  pub cell_marked : (mark_in call cell ≡ 1) ↔ CellMarked c (vector_of_cell cell) (row_of_cell cell)
  unfolding mark_of
  cell_marked = says (rows.cell c (vector_of_cell cell) (row_of_cell cell)) decided (mark_in call cell) is_mark

  cell_not_marked : (mark_in call cell ≡ 0) ↔ (CellMarked c (vector_of_cell cell) (row_of_cell cell) → ⊥)
  unfolding mark_of
  cell_not_marked = denies (rows.cell c (vector_of_cell cell) (row_of_cell cell)) decided (mark_in call cell) is_mark

  accepted : Accepted (row_of_cell cell).type
  accepted = row_accepted c here.good cell.row cell.is_row

  cell_by_ends : (mark_in call cell ≡ 1) ↔ MarkedByEnds (row_of_cell cell).type (values_in cell) (row_of_cell cell).bridge
  unfolding CellMarked
  cell_by_ends =
      let ends = closed_path_is_ends (row_of_cell cell).type accepted (values_in cell) (row_of_cell cell).bridge in
      (λ e. ends.0 (cell_marked.0 e), λ m. cell_marked.1 (ends.1 m))

pub cells_tell : (call : Call) (c : Circuit) → Gave call c → CellsTell call c
cells_tell call c here = record {
  marked = cell_marked call c here;
  not_marked = cell_not_marked call c here;
  by_ends = cell_by_ends call c here;
  not_without_the_bridge = λ cell. rails-apart.rails (row_of_cell cell).type (accepted call c here cell) (values_in cell);
  past_the_last_vector = cell_past call c here;
}

pub cell_is_path : CellIsPath
cell_is_path call c given = cells_tell call c (gave call c given)
