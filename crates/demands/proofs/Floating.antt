-- Demand 2, floating nodes: a bridge with an end that floats, or whose label is X, is not marked, since a mark needs both ends.
use Prim.Native.Nat.{ℕ}
use mathlib.Core.Path.{◌≡◌, sym, ◌∙◌}
use mathlib.Core.Logic.{⊎_elim}
use Rattle.switch.specs.Conduction.{at_x}
use Rattle.switch.specs.Bridges.{Bridge, nodes, input, MarkedByEnds}
use Rattle.switch.proofs.Marks.{at_x≢at0, at_x≢at1}
use Rattle.circuit.specs.Circuit.{Circuit}
use Rattle.demands.specs.Calls.{Call, GradedAs}
use Rattle.demands.specs.Two.{MatrixCell, row_of_cell, mark_in, values_in, Floats, FloatingNeverMarks}
use Rattle.demands.proofs.Cells.{cell_is_path}

module _ (call : Call) (c : Circuit) (given : GradedAs call c) (cell : MatrixCell c) where
  -- a cell is 0 where the ends do not mark
  no_ends : (b : Bridge) → (row_of_cell cell).bridge ≡ b → (MarkedByEnds (row_of_cell cell).type (values_in cell) b → ⊥)
      → mark_in call cell ≡ 0
  no_ends b e never =
      let tells = cell_is_path call c given in
      (tells.not_marked cell).1 (λ m. never (rw e at ((tells.by_ends cell).0 ((tells.marked cell).1 m))))

  first_floats : (a b : ℕ) → (row_of_cell cell).bridge ≡ nodes a b → Floats cell a → mark_in call cell ≡ 0
  unfolding MarkedByEnds
  first_floats a b e floats = no_ends (nodes a b) e (⊎_elim (λ p. floats.not_to_supply p.0) (λ p. floats.not_to_ground p.0))

  second_floats : (a b : ℕ) → (row_of_cell cell).bridge ≡ nodes a b → Floats cell b → mark_in call cell ≡ 0
  unfolding MarkedByEnds
  second_floats a b e floats = no_ends (nodes a b) e (⊎_elim (λ p. floats.not_to_ground p.1) (λ p. floats.not_to_supply p.1))

  node_floats : (m l : ℕ) → (row_of_cell cell).bridge ≡ input m l → Floats cell m → mark_in call cell ≡ 0
  unfolding MarkedByEnds
  node_floats m l e floats = no_ends (input m l) e (⊎_elim (λ p. floats.not_to_ground p.1) (λ p. floats.not_to_supply p.1))

  label_unknown : (m l : ℕ) → (row_of_cell cell).bridge ≡ input m l → values_in cell l ≡ at_x → mark_in call cell ≡ 0
  unfolding MarkedByEnds
  label_unknown m l e x = no_ends (input m l) e (⊎_elim (λ p. at_x≢at1 (sym x ∙ p.0)) (λ p. at_x≢at0 (sym x ∙ p.0)))

pub floating_never_marks : FloatingNeverMarks
floating_never_marks call c given = record {
  first = first_floats call c given;
  second = second_floats call c given;
  node = node_floats call c given;
  label = label_unknown call c given;
}
