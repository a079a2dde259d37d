-- Each wrong grader breaks the demand that specs/Breaks names, on a small file. Cells, classes and counts are computed; a cell is a path
-- by `cell_decides`.
use Prim.Native.Nat.{ℕ, zero, suc, ◌≤◌, ◌<◌}
use Prim.Native.String.{String}
use mathlib.Core.Path.{◌≡◌, refl, sym, ap, subst, ◌∙◌}
use mathlib.Core.Bool.{Bool, true, false, not}
use mathlib.Core.Logic.{◌↔◌, ◌⊎◌, inl, inr}
use mathlib.Core.List.{List, [], ◌∷◌}
use native.Mathlib.Omega.{arith}
use native.Mathlib.Decide.{ℕ_discrete}
use native.Mathlib.Nat.{add-zero}
use lib.Dec.{T, leb, ltb, leb→le}
use lib.ListN.{length, get_or}
use Rattle.words.specs.Bits.{of_bool, sum_to}
use Rattle.switch.specs.Conduction.{Value, at1, at_x}
use Rattle.switch.specs.Bridges.{nodes, input}
use Rattle.circuit.specs.Circuit.{Circuit}
use Rattle.circuit.specs.Reading.{accepted, reading_of}
use Rattle.grading.specs.Buffers.{Buffers}
use Rattle.grading.specs.Rows.{rows_of, cell}
use Rattle.grading.specs.Promise.{is_graded, counts_of}
use Rattle.demands.specs.Calls.{Call, Refuses, cell_at, class_at}
use Rattle.demands.specs.One.{buffer_tests, tests_from, table_of, passed}
use Rattle.demands.specs.Two.{vector_of, row_at, MatrixCell, AlikeButVectors, OneClass, Found}
use Rattle.demands.specs.Three.{given, Refined}
use Rattle.demands.specs.Files.{inverter, inverter_under, inverter_listed, nand_listed, nand_of_one, one_listed, nand3_fields, split_rails, driver_and_input, two_nands, twin_nands}
use Rattle.demands.specs.Graders.{Grader, called}
use Rattle.demands.specs.Wrong.{marks_all, marks_never, leaves_matrix, first_word_only, invents_found, sweeps_once, one_plane}
use Rattle.demands.specs.Wrong.{marks_floating, counts_rows, spills, wraps, goes_on}
use Rattle.demands.specs.Wrong.{is_one, watches_outputs, holds_levels, counts_twice, counts_labels, reads_x_as_zero, keeps_apart, mixes_inner, splits_inputs}
use Rattle.demands.specs.Breaks.{MeetsCells, MeetsClasses, MeetsThree, MeetsThreeByPaths, MeetsFillings}
use Rattle.demands.specs.Breaks.{BreakDemandOne, BreakDemandTwo, BreakDemandThree}
use Rattle.demands.proofs.Cells.{cell_decides}
use Rattle.demands.proofs.OneClass.{one-class-is-tested}
use Rattle.demands.proofs.Computing.{told_by, circuit_of, blank}
use Rattle.demands.proofs.WrongProof.{wrong_computing, many, last_only, listed_twice, ones, Differ, apart}

-- ---- the call of a grader for a file

abbrev call_for : Grader → List ℕ → Call
call_for grader file = called grader file blank

-- ---- demand 1: graded exactly when no test of the table applies, and what a call leaves as it was

-- the word at a place of a list
abbrev word_at : ℕ → List ℕ → ℕ
word_at i words = get_or words i 0

pub break_demand_one : BreakDemandOne
unfolding wrong_computing told_by buffer_tests tests_from table_of passed Refuses
break_demand_one = record {
  refuses_every_lem = λ meets. (meets inverter blank).graded_when_none_applies.1 tt;
  skips_nine = λ meets. (meets split_rails blank).graded_when_none_applies.0 tt;
  skips_fourteen = λ meets. (meets (inverter_under []) blank).graded_when_none_applies.0 tt;
  clears_first_lem = λ meets. apart 0 1 refl (ap (λ (buffers : Buffers). word_at 0 buffers.matrix) ((meets [] ones).refusal_keeps_the_buffers 14 0 (refl, refl)));
  writes_past_lem = λ meets. apart 0 1 refl (ap (word_at 0) (meets inverter ones (circuit_of inverter) refl tt).words);
}

-- ---- demand 2

-- the file is accepted and the grader grades it
abbrev Grades : Grader → List ℕ → Type 0
Grades grader file = (reading_of file ≡ accepted (circuit_of file)) × T (is_graded (call_for grader file).answer)

-- the grader's cell is the opposite of what it should be
abbrev CellWrong : Grader → List ℕ → ℕ → ℕ → Type 0
CellWrong grader file r v =
    Grades grader file × T (ltb r (length (rows_of (circuit_of file)))) × T (ltb v (length (circuit_of file).vectors))
    × (cell_at (call_for grader file).after.matrix r v
    ≡ of_bool (not (cell (circuit_of file) (vector_of (circuit_of file) v) (row_at (circuit_of file) r))))

opposite : (n : ℕ) (b : Bool) → n ≡ of_bool (not b) → (n ≡ 1) ↔ T b → ⊥
opposite n true e iff = let one = iff.1 tt in omega arith
opposite n false e iff = iff.0 e

by-cell : (grader : Grader) (file : List ℕ) (r v : ℕ) → CellWrong grader file r v → MeetsCells grader → ⊥
by-cell grader file r v (grades, is_row, is_vector, differs) meets =
    let c = circuit_of file in
    let at : MatrixCell c = record { row = r; vector = v; is_row = leb→le _ _ is_row; is_vector = leb→le _ _ is_vector } in
    let tells = (meets file blank c grades.0 grades.1).marked at in
    let decides = cell_decides c (vector_of c v) (row_at c r) in
    opposite _ (cell c (vector_of c v) (row_at c r)) differs (λ e. decides.0 (tells.0 e), λ t. tells.1 (decides.1 t))

-- a mark past the last vector
abbrev MarkPast : Grader → List ℕ → ℕ → ℕ → Type 0
MarkPast grader file r v =
    Grades grader file × T (ltb r (length (rows_of (circuit_of file)))) × T (leb (length (circuit_of file).vectors) v) × T (ltb v 256)
    × (cell_at (call_for grader file).after.matrix r v ≡ 1)

by-past : (grader : Grader) (file : List ℕ) (r v : ℕ) → MarkPast grader file r v → MeetsCells grader → ⊥
by-past grader file r v (grades, is_row, past, inside, mark) meets =
    let tells = meets file blank (circuit_of file) grades.0 grades.1 in
    let none = tells.past_the_last_vector r v (leb→le _ _ is_row) (leb→le _ _ past) (leb→le _ _ inside) in
    omega arith

-- two rows that are one class have two numbers
abbrev ClassWrong : Grader → List ℕ → ℕ → ℕ → Type 0
ClassWrong grader file r s =
    Grades grader file × T (ltb r (length (rows_of (circuit_of file)))) × T (ltb s (length (rows_of (circuit_of file))))
    × OneClass (row_at (circuit_of file) r) (row_at (circuit_of file) s)
    × Differ (class_at (call_for grader file).after.classes r) (class_at (call_for grader file).after.classes s)

by-class : (grader : Grader) (file : List ℕ) (r s : ℕ) → ClassWrong grader file r s → MeetsClasses grader → ⊥
by-class grader file r s (grades, is_row, is-row-too, one, differ) meets =
    let tells = meets file blank (circuit_of file) grades.0 grades.1 in
    apart _ _ differ ((tells.same r s (leb→le _ _ is_row) (leb→le _ _ is-row-too)).1 one)

-- two rows that are not one class have one number
abbrev ClassesMixed : Grader → List ℕ → ℕ → ℕ → Type 0
ClassesMixed grader file r s =
    Grades grader file × T (ltb r (length (rows_of (circuit_of file)))) × T (ltb s (length (rows_of (circuit_of file))))
    × (OneClass (row_at (circuit_of file) r) (row_at (circuit_of file) s) → ⊥)
    × (class_at (call_for grader file).after.classes r ≡ class_at (call_for grader file).after.classes s)

by-mixed : (grader : Grader) (file : List ℕ) (r s : ℕ) → ClassesMixed grader file r s → MeetsClasses grader → ⊥
by-mixed grader file r s (grades, is_row, is-row-too, two, same) meets =
    let tells = meets file blank (circuit_of file) grades.0 grades.1 in
    two ((tells.same r s (leb→le _ _ is_row) (leb→le _ _ is-row-too)).0 same)

-- ---- found counts, on one short whose rows, all of class 1, are marked or not

-- under one vector, each row is of class 1, and is marked or not as `found` says; the found count is not that
abbrev EachRow : Grader → List ℕ → Bool → Type 0
EachRow grader file found =
    (r : ℕ) → r < length (rows_of (circuit_of file))
    → (class_at (call_for grader file).after.classes r ≡ 1) × (cell_at (call_for grader file).after.matrix r 0 ≡ of_bool found)

record FoundWrong (grader : Grader) (file : List ℕ) (found : Bool) : Type 0 where
  grades : Grades grader file
  rows : EachRow grader file found
  some : 1 ≤ length (rows_of (circuit_of file))
  one_vector : length (circuit_of file).vectors ≡ 1
  one_class : (counts_of (call_for grader file).answer).classes ≡ 1
  differs : Differ (counts_of (call_for grader file).answer).found (of_bool found)

module _ (grader : Grader) (file : List ℕ) (found : Bool) (w : FoundWrong grader file found) where
  abbrev HereFound : Type 0
  HereFound = Found (call_for grader file) (circuit_of file) 1

  -- class 1 is found where its first row is marked
  is_found_lem : of_bool found ≡ 1 → HereFound
  is_found_lem e = record {
    cell = record { row = 0; vector = 0; is_row = w.some; is_vector = omega (arith, w.one_vector) };
    of_class = (w.rows 0 w.some).0;
    mark = (w.rows 0 w.some).1 ∙ e;
  }

  -- and only there
  found_is : HereFound → of_bool found ≡ 1
  found_is f =
      let at = f.cell in
      let first : at.vector ≡ 0 = omega (arith, at.is_vector, w.one_vector) in
      sym (w.rows at.row at.is_row).1
      ∙ subst (λ (v : ℕ). cell_at (call_for grader file).after.matrix at.row v ≡ 1) first f.mark

  -- so what counts class 1 is what it should be
  counted : (n : ℕ) → n ≤ 1 → (n ≡ 1) ↔ HereFound → n ≡ of_bool found
  counted n few iff = go (ℕ_discrete n 1)
    where
      go : Dec (n ≡ 1) → n ≡ of_bool found
      go (yes e) = e ∙ sym (found_is (iff.0 e))
      go (no e) = none found refl
        where
          none : (b : Bool) → found ≡ b → n ≡ of_bool b
          none true q = absurd (e (iff.1 (is_found_lem (ap of_bool q))))
          none false q = omega arith

  by_found : MeetsClasses grader → ⊥
  unfolding sum_to
  by_found meets =
      let tells = (meets file blank (circuit_of file) w.grades.0 w.grades.1).found in
      let f : ℕ → ℕ = tells.0 in
      apart _ _ w.differs
      (tells.3 ∙ ap (λ (n : ℕ). sum_to n f) w.one_class ∙ add-zero (f 0) ∙ counted (f 0) (tells.1 0) (tells.2 0))

-- ---- what is computed

record Cells : Type 0 where
  marks_all_lem : CellWrong marks_all inverter 1 1
  marks_never_lem : CellWrong marks_never inverter 0 0
  leaves_matrix_lem : CellWrong leaves_matrix inverter 0 0
  first_word_only_lem : CellWrong first_word_only many 0 64
  sweeps_once_lem : CellWrong sweeps_once (one_listed 3 nand3_fields (nodes 1 2 ∷ []) ("111" ∷ [])) 0 0
  one_plane_lem : CellWrong one_plane inverter 4 2
  marks_floating_lem : CellWrong marks_floating (nand_listed (nodes 2 3 ∷ []) ("00" ∷ [])) 0 0
  spills_63 : CellWrong spills many 0 63
  wraps_65 : CellWrong wraps last_only 0 0
  goes_on_lem : MarkPast goes_on inverter 0 3
  watches_outputs_lem : CellWrong watches_outputs (nand_listed (nodes 1 3 ∷ []) ("01" ∷ [])) 0 0
  holds_levels_lem : CellWrong holds_levels (nand_listed (nodes 2 3 ∷ []) ("01" ∷ "00" ∷ [])) 0 1
  reads_x_as_zero_lem : CellWrong reads_x_as_zero inverter 1 2
  counts_twice_lem : ClassWrong counts_twice listed_twice 0 1
  counts_labels_lem : ClassWrong counts_labels (nand_of_one ("0" ∷ [])) 6 7
  keeps_apart_lem : ClassWrong keeps_apart (driver_and_input ("0" ∷ [])) 0 1
  mixes_inner_lem : ClassesMixed mixes_inner (two_nands ("00" ∷ [])) 0 1
  splits_inputs_lem : ClassWrong splits_inputs (twin_nands ("00" ∷ [])) 2 5

cells : Cells
unfolding wrong_computing told_by cell_at class_at OneClass
cells = record {
  marks_all_lem = ((refl, tt), tt, tt, refl);
  marks_never_lem = ((refl, tt), tt, tt, refl);
  leaves_matrix_lem = ((refl, tt), tt, tt, refl);
  first_word_only_lem = ((refl, tt), tt, tt, refl);
  sweeps_once_lem = ((refl, tt), tt, tt, refl);
  one_plane_lem = ((refl, tt), tt, tt, refl);
  marks_floating_lem = ((refl, tt), tt, tt, refl);
  spills_63 = ((refl, tt), tt, tt, refl);
  wraps_65 = ((refl, tt), tt, tt, refl);
  goes_on_lem = ((refl, tt), tt, tt, tt, refl);
  watches_outputs_lem = ((refl, tt), tt, tt, refl);
  holds_levels_lem = ((refl, tt), tt, tt, refl);
  reads_x_as_zero_lem = ((refl, tt), tt, tt, refl);
  counts_twice_lem = ((refl, tt), tt, tt, inr (refl, refl), refl);
  counts_labels_lem = ((refl, tt), tt, tt, inl (refl, refl), refl);
  keeps_apart_lem = ((refl, tt), tt, tt, inl (refl, refl), refl);
  mixes_inner_lem = ((refl, tt), tt, tt, λ one. (one-class-is-tested (row_at (circuit_of (two_nands ("00" ∷ []))) 0) (row_at (circuit_of (two_nands ("00" ∷ []))) 1)).0 one, refl);
  splits_inputs_lem = ((refl, tt), tt, tt, inl (refl, refl), refl);
}

-- one row that X does not mark
abbrev unmarked : List ℕ
unmarked = inverter_listed (nodes 0 2 ∷ []) ("X" ∷ [])

row-unmarked : EachRow invents_found unmarked false
unfolding wrong_computing told_by cell_at class_at
row-unmarked zero h = (refl, refl)
row-unmarked (suc r) h = absurd (omega arith)

rows-twice : EachRow counts_rows listed_twice true
unfolding wrong_computing told_by cell_at class_at
rows-twice zero h = (refl, refl)
rows-twice (suc zero) h = (refl, refl)
rows-twice (suc (suc r)) h = absurd (omega arith)

found_invented : FoundWrong invents_found unmarked false
unfolding wrong_computing told_by cell_at class_at
found_invented = record {
  grades = (refl, tt);
  rows = row-unmarked;
  some = omega arith;
  one_vector = refl;
  one_class = refl;
  differs = refl;
}

found_rows : FoundWrong counts_rows listed_twice true
unfolding wrong_computing told_by cell_at class_at
found_rows = record { grades = (refl, tt); rows = rows-twice; some = omega arith; one_vector = refl; one_class = refl; differs = refl }

pub break_demand_two : BreakDemandTwo
break_demand_two = record {
  marks_all_lem = by-cell _ _ _ _ cells.marks_all_lem;
  marks_never_lem = by-cell _ _ _ _ cells.marks_never_lem;
  leaves_matrix_lem = by-cell _ _ _ _ cells.leaves_matrix_lem;
  first_word_only_lem = by-cell _ _ _ _ cells.first_word_only_lem;
  sweeps_once_lem = by-cell _ _ _ _ cells.sweeps_once_lem;
  one_plane_lem = by-cell _ _ _ _ cells.one_plane_lem;
  marks_floating_lem = by-cell _ _ _ _ cells.marks_floating_lem;
  spills = by-cell _ _ _ _ cells.spills_63;
  wraps = by-cell _ _ _ _ cells.wraps_65;
  goes_on_lem = by-past _ _ _ _ cells.goes_on_lem;
  watches_outputs_lem = by-cell _ _ _ _ cells.watches_outputs_lem;
  holds_levels_lem = by-cell _ _ _ _ cells.holds_levels_lem;
  reads_x_as_zero_lem = by-cell _ _ _ _ cells.reads_x_as_zero_lem;
  invents_found_lem = by_found _ _ _ found_invented;
  counts_rows_lem = by_found _ _ _ found_rows;
  counts_twice_lem = by-class _ _ _ _ cells.counts_twice_lem;
  counts_labels_lem = by-class _ _ _ _ cells.counts_labels_lem;
  keeps_apart_lem = by-class _ _ _ _ cells.keeps_apart_lem;
  mixes_inner_lem = by-mixed _ _ _ _ cells.mixes_inner_lem;
  splits_inputs_lem = by-class _ _ _ _ cells.splits_inputs_lem;
}

-- ---- demand 3

-- over the definition: a cell that a path marks and the grader does not, in a file that refines itself
alike-itself : (c : Circuit) → AlikeButVectors c c
alike-itself c = record { inputs = refl; types = refl; bridges = refl; instances = refl }

refined-itself : (vectors : List (List Value)) → Refined vectors vectors
refined-itself vectors = record { no_fewer = omega arith; agree = λ v i h. inr refl }

by-path : (grader : Grader) (file : List ℕ) (r v : ℕ) → CellWrong grader file r v
    → T (cell (circuit_of file) (vector_of (circuit_of file) v) (row_at (circuit_of file) r)) → MeetsThreeByPaths grader → ⊥
by-path grader file r v (grades, is_row, is_vector, differs) path meets =
    let c = circuit_of file in
    let stands = meets file file blank c c grades.0 grades.0 grades.1 (alike-itself c) (refined-itself c.vectors) in
    let decides = cell_decides c (vector_of c v) (row_at c r) in
    opposite _ (cell c (vector_of c v) (row_at c r)) differs (
      λ e. path,
      λ t. stands.marks (record { row = r; vector = v; is_row = leb→le _ _ is_row; is_vector = leb→le _ _ is_vector }) (decides.1 t),
    )

-- over its own marks: a mark that the refined file takes back
record TakenBack (grader : Grader) (file finer : List ℕ) (r v : ℕ) : Type 0 where
  grades : Grades grader file
  grades' : Grades grader finer
  alike : AlikeButVectors (circuit_of file) (circuit_of finer)
  refined : Refined (circuit_of file).vectors (circuit_of finer).vectors
  is_row : T (ltb r (length (rows_of (circuit_of file))))
  is_vector : T (ltb v (length (circuit_of file).vectors))
  mark : cell_at (call_for grader file).after.matrix r v ≡ 1
  none : cell_at (call_for grader finer).after.matrix r v ≡ 0

by-mark : (grader : Grader) (file finer : List ℕ) (r v : ℕ) → TakenBack grader file finer r v → MeetsThree grader → ⊥
by-mark grader file finer r v w meets =
    let three =
    meets file blank finer blank (circuit_of file) (circuit_of finer) w.grades.0 w.grades.1 w.grades'.0 w.grades'.1
    w.alike w.refined in
    omega (arith, w.none, three.marks (record { row = r; vector = v; is_row = leb→le _ _ w.is_row; is_vector = leb→le _ _ w.is_vector }) w.mark)

-- an inverter's 0-2, and node 1 with the label: under X, and under its filling 1, which marks neither
abbrev inverter_at : String → List ℕ
inverter_at vector = inverter_listed (nodes 0 2 ∷ input 1 0 ∷ []) (vector ∷ [])

filled : (i : ℕ) → (get_or (at_x ∷ []) i at_x ≡ at_x) ⊎ (get_or (at1 ∷ []) i at_x ≡ get_or (at_x ∷ []) i at_x)
filled zero = inl refl
filled (suc i) = inl refl

filled-vectors : Refined ((at_x ∷ []) ∷ []) ((at1 ∷ []) ∷ [])
unfolding given
filled-vectors = record { no_fewer = omega arith; agree = agrees }
  where
    agrees : (v i : ℕ) → v < 1 → (get_or (get_or ((at_x ∷ []) ∷ []) v []) i at_x ≡ at_x) ⊎ (get_or (get_or ((at1 ∷ []) ∷ []) v []) i at_x ≡ get_or (get_or ((at_x ∷ []) ∷ []) v []) i at_x)
    agrees zero i h = filled i
    agrees (suc v) i h = absurd (omega arith)

-- a grader that marks a row under the X and not under the 1
taken_back : (grader : Grader) (r : ℕ) → T (is_graded (call_for grader (inverter_at "X")).answer) → T (is_graded (call_for grader (inverter_at "1")).answer)
    → T (ltb r (length (rows_of (circuit_of (inverter_at "X")))))
    → cell_at (call_for grader (inverter_at "X")).after.matrix r 0 ≡ 1 → cell_at (call_for grader (inverter_at "1")).after.matrix r 0 ≡ 0
    → TakenBack grader (inverter_at "X") (inverter_at "1") r 0
unfolding wrong_computing told_by
taken_back grader r graded graded' is_row mark none = record {
  grades = (refl, graded);
  grades' = (refl, graded');
  alike = record { inputs = refl; types = refl; bridges = refl; instances = refl };
  refined = filled-vectors;
  is_row = is_row;
  is_vector = tt;
  mark = mark;
  none = none;
}

plane-taken-back : TakenBack one_plane (inverter_at "X") (inverter_at "1") 1 0
unfolding wrong_computing told_by cell_at
plane-taken-back = taken_back one_plane 1 tt tt tt refl refl

zero-taken-back : TakenBack reads_x_as_zero (inverter_at "X") (inverter_at "1") 0 0
unfolding wrong_computing told_by cell_at
zero-taken-back = taken_back reads_x_as_zero 0 tt tt tt refl refl

is_one_lem : at1 ≡ at_x → ⊥
unfolding is_one
is_one_lem e = subst (λ (value : Value). T (is_one value)) e tt

all_under_x : MeetsFillings marks_all → ⊥
unfolding wrong_computing told_by cell_at
all_under_x meets =
    let c = circuit_of (inverter_at "X") in
    let path = meets (inverter_at "X") blank c refl tt
    (record { row = 0; vector = 0; is_row = omega arith; is_vector = omega arith }) refl (at1 ∷ [])
    (record { long = refl; keeps = filled; no_x = no_x }) in
    (cell_decides c (at1 ∷ []) (row_at c 0)).0 path
  where
    no_x : (i : ℕ) → i < 1 → get_or (at1 ∷ []) i at_x ≡ at_x → ⊥
    no_x zero h e = is_one_lem e
    no_x (suc i) h e = absurd (omega arith)

record MarkedByPath : Type 0 where
  inverter_0_1 : T (cell (circuit_of inverter) (vector_of (circuit_of inverter) 0) (row_at (circuit_of inverter) 0))
  many_65 : T (cell (circuit_of many) (vector_of (circuit_of many) 64) (row_at (circuit_of many) 0))

paths : MarkedByPath
unfolding wrong_computing told_by
paths = record { inverter_0_1 = tt; many_65 = tt }

pub break_demand_three : BreakDemandThree
break_demand_three = record {
  one_plane_lem = by-mark _ _ _ _ _ plane-taken-back;
  reads_x_as_zero_lem = by-mark _ _ _ _ _ zero-taken-back;
  marks_never_lem = by-path _ _ _ _ cells.marks_never_lem paths.inverter_0_1;
  first_word_only_lem = by-path _ _ _ _ cells.first_word_only_lem paths.many_65;
  marks_all_lem = all_under_x;
}
