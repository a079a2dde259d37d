-- Demand 3 has no converse. 01, "Known results": an inverter from input a, then a NAND of a and the inverter's output: X for a does not
-- mark the NAND's 0-2, although both fillings do. That is right. The proof is in proofs/NoConverseProof.
use Rattle.std.specs.Prelude.{ℕ, ◌<◌, ◌≡◌, ◌⊎◌, List, length, get_or}
use Rattle.switch.specs.Conduction.{Value, at_x}
use Rattle.circuit.specs.Circuit.{Circuit}
use Rattle.grading.specs.Rows.{CellMarked}
use Rattle.demands.specs.Calls.{Call, GradedAs}
use Rattle.demands.specs.Two.{MatrixCell, row_of_cell, vector_of_cell, mark_in}

-- a filling of a vector: it keeps each 0 and 1, and has no X
pub record Filling (inputs : ℕ) (vector filling : List Value) : Type 0 where
  pub long : length filling ≡ inputs
  pub keeps : (i : ℕ) → (get_or vector i at_x ≡ at_x) ⊎ (get_or filling i at_x ≡ get_or vector i at_x)
  pub no_x : (i : ℕ) → i < inputs → get_or filling i at_x ≡ at_x → ⊥

-- the converse of `MarksHoldUnderEveryFilling`: a cell that every filling of its vector marks is marked with X
abbrev pub Converse : Type 0
Converse =
    (call : Call) (c : Circuit) → GradedAs call c → (cell : MatrixCell c)
    → ((filling : List Value) → Filling c.inputs (vector_of_cell cell) filling → CellMarked c filling (row_of_cell cell))
    → mark_in call cell ≡ 1

abbrev pub NoConverse : Type 0
NoConverse = Converse → ⊥
