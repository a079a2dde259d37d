-- Demand 3: refined vectors give refined outputs, instance by instance, so every mark stands and no fewer classes are found.
use Prim.Native.Nat.{ℕ, zero, suc, ◌≤◌, ◌<◌}
use mathlib.Core.Path.{◌≡◌, refl, sym, ap}
use mathlib.Core.Logic.{◌⊎◌, inl}
use mathlib.Core.List.{List, [], ◌∷◌, ◌++◌}
use native.Mathlib.Omega.{arith}
use lib.Dec.{T}
use lib.ListN.{length, get_or}
use Rattle.words.specs.Bits.{of_bool}
use Rattle.words.proofs.Laws.{of_bool_le_one, of_bool_le}
use Rattle.switch.specs.Conduction.{Value, at_x}
use Rattle.switch.specs.Modules.{ModuleType}
use Rattle.switch.specs.Statements.{Accepted, Refines}
use Rattle.switch.proofs.Refinement.{refinement_keeps, mark_stays}
use Rattle.circuit.specs.Circuit.{Circuit, Reference, primary, output_of, Instance, numbered, type_of_instance}
use Rattle.circuit.specs.Laws.{CircuitGood}
use Rattle.grading.specs.Values.{value_at, label_values, outputs_after, outputs_of}
use Rattle.grading.specs.Rows.{Row, no_row, row_values, CellMarked, cell, mark_of}
use Rattle.grading.specs.Classes.{found_count}
use Rattle.grading.specs.Grading as grading
use Rattle.grading.proofs.ValueLaws.{label_value, type_good, type-accepted}
use Rattle.demands.specs.Calls.{Call}
use Rattle.demands.specs.Two.{vector_of, MatrixCell, row_of_cell, vector_of_cell, mark_in, AlikeButVectors}
use Rattle.demands.specs.Three.{given, Refined, Three, ThreeHolds, MarksHoldUnderEveryFilling}
use Rattle.demands.proofs.Gave.{Gave, gave}
use Rattle.demands.proofs.Cells.{mark_is, cell_decides, cell_marked}
use Rattle.demands.proofs.Columns.{same_rows, same_cell}
use Rattle.demands.proofs.ClassesCarried.{carries-within, found_carried}

-- ---- values

abbrev Finer : List Value → List Value → Type 0
Finer values finer = (i : ℕ) → (get_or values i at_x ≡ at_x) ⊎ (get_or finer i at_x ≡ get_or values i at_x)

-- lists of one length, the second finer at each place
AllFiner : List Value → List Value → Type 0
AllFiner [] [] = Unit {0}
AllFiner [] (y ∷ ys) = ⊥
AllFiner (x ∷ xs) [] = ⊥
AllFiner (x ∷ xs) (y ∷ ys) = ((x ≡ at_x) ⊎ (y ≡ x)) × AllFiner xs ys

finer-at : (xs ys : List Value) → AllFiner xs ys → Finer xs ys
unfolding AllFiner
finer-at [] [] a i = inl refl
finer-at [] (y ∷ ys) a i = absurd a
finer-at (x ∷ xs) [] a i = absurd a
finer-at (x ∷ xs) (y ∷ ys) a zero = a.0
finer-at (x ∷ xs) (y ∷ ys) a (suc i) = finer-at xs ys a.1 i

finer_snoc : (xs ys : List Value) (x y : Value) → AllFiner xs ys → (x ≡ at_x) ⊎ (y ≡ x) → AllFiner (xs ++ (x ∷ [])) (ys ++ (y ∷ []))
unfolding AllFiner
finer_snoc [] [] x y a e = (e, tt)
finer_snoc [] (y' ∷ ys) x y a e = absurd a
finer_snoc (x' ∷ xs) [] x y a e = absurd a
finer_snoc (x' ∷ xs) (y' ∷ ys) x y a e = (a.0, finer_snoc xs ys x y a.1 e)

-- ---- labels and outputs

module _ (vector finer : List Value) (refines : Finer vector finer) where
  value_refines : (outputs outputs' : List Value) → AllFiner outputs outputs' → (r : Reference)
      → (value_at vector outputs r ≡ at_x) ⊎ (value_at finer outputs' r ≡ value_at vector outputs r)
  unfolding value_at numbered
  value_refines outputs outputs' a (primary zero) = inl refl
  value_refines outputs outputs' a (primary (suc n)) = refines n
  value_refines outputs outputs' a (output_of zero) = inl refl
  value_refines outputs outputs' a (output_of (suc i)) = finer-at outputs outputs' a i

  labels_refine : (outputs outputs' : List Value) → AllFiner outputs outputs' → (i : Instance)
      → Refines (label_values vector outputs i) (label_values finer outputs' i)
  labels_refine outputs outputs' a i l =
      rw (label_value vector outputs i l, label_value finer outputs' i l)
      (value_refines outputs outputs' a (get_or i.references l (primary 0)))

  outputs_refine : (types : List ModuleType) (is : List Instance)
      → ((j : ℕ) (none : Instance) → j < length is → Accepted (type_of_instance types (get_or is j none)))
      → (outputs outputs' : List Value) → AllFiner outputs outputs'
      → AllFiner (outputs_after types vector outputs is) (outputs_after types finer outputs' is)
  unfolding outputs_after
  outputs_refine types [] accepted outputs outputs' a = a
  outputs_refine types (i ∷ is) accepted outputs outputs' a =
      let kept =
      refinement_keeps (type_of_instance types i) (accepted 0 i (omega arith)) (label_values vector outputs i) (label_values finer outputs' i)
      (labels_refine outputs outputs' a i) in
      outputs_refine types is (λ j none h. accepted (suc j) none (omega arith)) _ _ (finer_snoc outputs outputs' _ _ a kept.output)

  module _ (c : Circuit) (good : CircuitGood c) (row : Row) where
    values_refine : Refines (row_values c vector row) (row_values c finer row)
    unfolding row_values outputs_of AllFiner
    values_refine =
        labels_refine _ _
        (outputs_refine c.types c.instances
        (λ j none h. type-accepted _ (type_good c good j h none (get_or c.instances j none) refl)) [] [] tt)
        row.instance

    pub path_stays : CellMarked c vector row → CellMarked c finer row
    unfolding CellMarked
    path_stays = mark_stays (row_values c vector row) (row_values c finer row) values_refine row.type row.bridge

    cell_stays : T (cell c vector row) → T (cell c finer row)
    cell_stays t = (cell_decides c finer row).0 (path_stays ((cell_decides c vector row).1 t))

-- ---- marks

module _ (c d : Circuit) (good : CircuitGood c) (alike : AlikeButVectors c d) (refined : Refined c.vectors d.vectors) where
  pub mark_stands : (row : Row) (v : ℕ) → v < length c.vectors → mark_of c row v ≤ mark_of d row v
  unfolding mark_of given
  mark_stands row v h =
      of_bool_le (cell c (vector_of c v) row) (cell d (vector_of d v) row)
      (λ t.
      rw (sym (same_cell c d alike (vector_of d v) row))
      (cell_stays (vector_of c v) (vector_of d v) (λ i. refined.agree v i h) c good row t))

  found_stands : CircuitGood d → found_count c ≤ found_count d
  unfolding mark_of
  found_stands good' =
      found_carried c d
      (carries-within c d good' (λ row m. rw (same_rows c d alike) at m) refined.no_fewer
      (λ row v m h e. omega (arith, mark_stands row v h, of_bool_le_one (cell d (vector_of d v) row))))

-- ---- the demand

module _ (one finer : Call) (c d : Circuit) (graded : Gave one c) (graded' : Gave finer d) (alike : AlikeButVectors c d)
    (refined : Refined c.vectors d.vectors) where
  pub marks_stand : (at : MatrixCell c) → mark_in one at ≡ 1 → mark_in finer at ≡ 1
  unfolding mark_of
  marks_stand at e =
      let rows = same_rows c d alike in
      let r = at.row in
      let v = at.vector in
      omega (
        arith,
        mark_is one c graded r v at.is_row at.is_vector,
        mark_is finer d graded' r v (omega (arith, ap length rows, at.is_row)) (omega (arith, at.is_vector, refined.no_fewer)),
        ap (λ (rs : List Row). of_bool (cell d (vector_of d v) (get_or rs r no_row))) rows,
        mark_stands c d graded.good alike refined (row_of_cell at) v at.is_vector,
        of_bool_le_one (cell d (vector_of d v) (row_of_cell at)),
      )

  pub three_stands : Three one finer c
  unfolding grading.counts_of_circuit
  three_stands = record {
    marks = marks_stand;
    found = rw (graded.counts_are, graded'.counts_are) (found_stands c d graded.good alike refined graded'.good);
  }

pub three_holds : ThreeHolds
three_holds one finer c d graded graded' = three_stands one finer c d (gave one c graded) (gave finer d graded')

-- of the filling nothing is used but that it keeps each 0 and 1
pub marks_hold_under_every_filling : MarksHoldUnderEveryFilling
marks_hold_under_every_filling call c graded at mark filling long refines =
    path_stays (vector_of_cell at) filling refines c (gave call c graded).good (row_of_cell at) ((cell_marked call c (gave call c graded) at).0 mark)
