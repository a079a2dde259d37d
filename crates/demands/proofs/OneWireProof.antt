-- Proves OneWireOneLevel, MarksAreOfWires, OneShortOneMark and RowsOfOneClassAreEqual. An end of a row is at the level of its wire, and a cell is a
-- symmetric function of the levels of its two wires.
use Prim.Native.Nat.{ℕ, ◌<◌}
use mathlib.Core.Path.{◌≡◌, sym, ap, subst, ◌∙◌}
use mathlib.Core.Bool.{Bool, true, cond}
use mathlib.Core.Logic.{◌↔◌}
use mathlib.Core.List.{List, []}
use lib.Dec.{T, ltb}
use lib.ListN.{length, get_or}
use Rattle.words.specs.Bits.{of_bool}
use Rattle.words.specs.Tables.{up_to}
use Rattle.switch.specs.Conduction.{Value}
use Rattle.switch.specs.Modules.{links_of, LevelIs}
use Rattle.switch.specs.Bridges.{Bridge, nodes, input}
use Rattle.switch.proofs.Refinement.{level-is-one}
use Rattle.circuit.specs.Circuit.{Circuit}
use Rattle.circuit.specs.Laws.{CircuitGood}
use Rattle.circuit.proofs.CircuitLaws.{accepted-is-good}
use Rattle.grading.specs.Rows.{Row, rows_of, row_values, cell, mark_of}
use Rattle.grading.specs.Wires.{End, one_end, other_end, node_wire, wire_at, wire_of, carried, leaks}
use Rattle.grading.specs.Classes.{same_class}
use Rattle.grading.specs.Statements.{RowOf}
use Rattle.grading.proofs.WireLevels.{leaks_opposed, opposed_leaks, row_node, row_label, row_accepted, cells_are_of_wires}
use Rattle.grading.proofs.SameClass.{classes_have_equal_marks}
use Rattle.demands.specs.Two.{row_at, row_of_cell, vector_of_cell, mark_in}
use Rattle.demands.specs.OneWire.{EndIs, OneWireOneLevel, MarksAreOfWires, OneShortOneMark, RowsOfOneClassAreEqual}
use Rattle.demands.proofs.Gave.{gave}
use Rattle.demands.proofs.RowFaults.{row_of_lem}
use Rattle.demands.proofs.OneClass.{one-class-is-tested}
use Rattle.demands.proofs.Cells.{says, marks, mark_is, cell_decides}
use Rattle.demands.proofs.ClassCounts.{classes_count_once}

-- ---- levels

module _ (c : Circuit) (good : CircuitGood c) (row : Row) (is_row : RowOf c row) (vector : List Value) where
  abbrev Level : ℕ → Value → Type 0
  Level m = LevelIs (links_of row.type (row_values c vector row)) m

  node_is : (m : ℕ) (level : Value) → Level m level ↔ (carried c vector (node_wire row.number row.type.output m) ≡ level)
  node_is m level =
      let its = row_node c good row is_row vector m in (
        λ is. its ∙ sym (level-is-one.only row.type (row_accepted c good row is_row) (row_values c vector row) m level is),
        λ e. subst (Level m) (sym its ∙ e) (level-is-one.given (links_of row.type (row_values c vector row)) m),
      )

  end_is : (end : End) (level : Value) → EndIs c vector row row.bridge end level ↔ (carried c vector (wire_of row end) ≡ level)
  unfolding EndIs wire_at
  end_is end level = go row.bridge end
    where
      go : (b : Bridge) (end : End) → EndIs c vector row b end level ↔ (carried c vector (wire_at row b end) ≡ level)
      go (nodes a b) one_end = node_is a level
      go (nodes a b) other_end = node_is b level
      go (input m l) one_end = node_is m level
      go (input m l) other_end =
          let its = row_label c good row is_row vector l in (λ e. its ∙ e, λ e. sym its ∙ e)

pub one_wire_one_level : OneWireOneLevel
one_wire_one_level file c accepts r h vector end level = end_is c (accepted-is-good true file c accepts) (row_at c r) (row_of_lem c r h) vector end level

-- ---- marks

pub marks_are_of_wires : MarksAreOfWires
unfolding mark_of
marks_are_of_wires call c given at =
    let here = gave call c given in
    let row = row_of_cell at in
    let vector = vector_of_cell at in
    let one : Value = carried c vector (wire_of row one_end) in
    let other : Value = carried c vector (wire_of row other_end) in
    let is : cell c vector row ≡ leaks one other = cells_are_of_wires.cell_is c here.good row (row_of_lem c at.row at.is_row) vector in
    says (cell c vector row)
    (λ o. subst T (sym is) (opposed_leaks one other o), λ t. leaks_opposed one other (subst T is t))
    (mark_in call at)
    (mark_is call c here at.row at.vector at.is_row at.is_vector)

-- ---- rows of one class

cell_same : (c : Circuit) → CircuitGood c → (r s : ℕ) → r < length (rows_of c) → s < length (rows_of c) → T (same_class (row_at c r) (row_at c s))
    → (vector : List Value) → cell c vector (row_at c r) ≡ cell c vector (row_at c s)
cell_same c good r s h k t = classes_have_equal_marks c good (row_at c r) (row_at c s) (row_of_lem c r h) (row_of_lem c s k) t

pub one_short_one_mark : OneShortOneMark
one_short_one_mark file c accepts r s h k one vector =
    let same = cell_same c (accepted-is-good true file c accepts) r s h k ((one-class-is-tested (row_at c r) (row_at c s)).0 one) vector in
    let its = cell_decides c vector (row_at c r) in
    let others = cell_decides c vector (row_at c s) in
    (λ p. others.1 (subst T same (its.0 p)), λ p. its.1 (subst T (sym same) (others.0 p)))

pub rows_of_one_class_are_equal : RowsOfOneClassAreEqual
unfolding mark_of up_to
rows_of_one_class_are_equal call c given r s h k one v few =
    let here = gave call c given in
    let tested = (one-class-is-tested (row_at c r) (row_at c s)).0 (((classes_count_once call c given).same r s h k).0 one) in
    let same = cell_same c here.good r s h k tested (get_or c.vectors v []) in
    marks call c here r v h few
    ∙ ap (λ (b : Bool). cond (ltb v (length c.vectors)) (of_bool b) 0) same
    ∙ sym (marks call c here s v k few)
