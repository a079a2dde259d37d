-- The converse of demand 3 fails on one inverter and a NAND behind it (specs/NoConverse): X does not mark 0-2, and each of the two fillings
-- does.
use Prim.Native.Nat.{ℕ}
use mathlib.Core.Path.{◌≡◌, refl, sym, ◌∙◌}
use mathlib.Core.List.{List, [], ◌∷◌}
use native.Mathlib.Omega.{arith}
use lib.Dec.{T}
use lib.ListN.{length}
use Rattle.switch.specs.Conduction.{by_position, Value, at0, at1, at_x, Edge, Channel, channel_p, channel_n}
use Rattle.switch.specs.Modules.{ModuleType}
use Rattle.circuit.specs.Circuit.{Circuit, Instance, primary, output_of, exhaustive, no_faults}
use Rattle.circuit.specs.Reading.{accepted, reading_of}
use Rattle.grading.specs.Rows.{rows_of, CellMarked, cell}
use Rattle.grading.specs.Promise.{is_graded}
use Rattle.demands.specs.Calls.{Call, GradedAs, cell_at}
use Rattle.demands.specs.Two.{MatrixCell, row_at, mark_in}
use Rattle.demands.specs.Files.{inverter_then_nand}
use Rattle.demands.specs.Graders.{called, rightly}
use Rattle.demands.specs.NoConverse.{Filling, NoConverse}
use Rattle.demands.proofs.Cells.{cell_decides}
use Rattle.demands.proofs.Computing.{grader_computing, blank}
use Rattle.demands.proofs.RightProof.{rightly_is_right}

-- ---- the circuit

abbrev edge : ℕ → ℕ → Channel → ℕ → Edge
edge a b channel label = record { first = a; second = b; channel = channel; label = label; tag = by_position }

abbrev two_types : List ModuleType
two_types =
    record { highest = 2; output = 2; labels = 1; edges = edge 1 2 channel_p 0 ∷ edge 0 2 channel_n 0 ∷ [] }
    ∷ record { highest = 3; output = 2; labels = 2; edges = edge 1 2 channel_p 0 ∷ edge 1 2 channel_p 1 ∷ edge 2 3 channel_n 0 ∷ edge 3 0 channel_n 1 ∷ [] }
    ∷ []

abbrev two_instances : List Instance
two_instances =
    record { type = 1; choice = no_faults; references = primary 1 ∷ [] }
    ∷ record { type = 2; choice = exhaustive; references = primary 1 ∷ output_of 1 ∷ [] }
    ∷ []

abbrev under_x : Circuit
under_x = record { inputs = 1; types = two_types; bridges = []; instances = two_instances; vectors = (at_x ∷ []) ∷ [] }

abbrev with_x : Call
with_x = called rightly (inverter_then_nand ("X" ∷ [])) blank

-- ---- what is computed: row 1 is 0-2

record Computed : Type 0 where
  accepts : reading_of (inverter_then_nand ("X" ∷ [])) ≡ accepted under_x
  graded : T (is_graded with_x.answer)
  rows : length (rows_of under_x) ≡ 14
  not_marked : cell_at with_x.after.matrix 1 0 ≡ 0
  marked_by_0 : T (cell under_x (at0 ∷ []) (row_at under_x 1))
  marked_by_1 : T (cell under_x (at1 ∷ []) (row_at under_x 1))

computed : Computed
unfolding grader_computing cell_at
computed = record { accepts = refl; graded = tt; rows = refl; not_marked = refl; marked_by_0 = tt; marked_by_1 = tt }

-- ---- a filling is 0 or 1

every_filling : (filling : List Value) → Filling 1 (at_x ∷ []) filling → CellMarked under_x filling (row_at under_x 1)
every_filling [] f = absurd (omega (arith, f.long))
every_filling (a ∷ b ∷ values) f = absurd (omega (arith, f.long))
every_filling (at0 ∷ []) f = (cell_decides under_x (at0 ∷ []) (row_at under_x 1)).1 computed.marked_by_0
every_filling (at1 ∷ []) f = (cell_decides under_x (at1 ∷ []) (row_at under_x 1)).1 computed.marked_by_1
every_filling (at_x ∷ []) f = absurd (f.no_x 0 (omega arith) refl)

zero_two : MatrixCell under_x
zero_two = record { row = 1; vector = 0; is_row = omega (arith, computed.rows); is_vector = omega arith }

pub no_converse : NoConverse
unfolding zero_two
no_converse converse =
    let whole : GradedAs with_x under_x = record { kept = rightly_is_right _ _; accepts = computed.accepts; graded = computed.graded } in
    let marked : mark_in with_x zero_two ≡ 1 = converse with_x under_x whole zero_two every_filling in
    let zero-is-one : ◌≡◌ {A = ℕ} 0 1 = sym computed.not_marked ∙ marked in
    omega arith
