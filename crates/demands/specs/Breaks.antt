-- Which demand each wrong grader breaks (specs/Wrong), held against the demands themselves, and which it meets. 01, last paragraph: to
-- refuse every file, or to grade one that the table refuses, breaks demand 1; wrong marks break demand 2 and not demand 1; an invented
-- found count breaks the class clause of demand 2. One that marks all, or never, meets part of demand 3 but breaks demand 2. One that
-- grades the first 64 vectors and writes zeros for the rest breaks demand 2, and demand 3 is read over that same definition. The proofs are
-- in proofs/BreaksProof and proofs/MeetsProof.
use Rattle.std.specs.Prelude.{ℕ, ◌≤◌, ◌<◌, ◌≡◌, List, T, length}
use Rattle.switch.specs.Conduction.{Value}
use Rattle.circuit.specs.Circuit.{Circuit}
use Rattle.grading.specs.Buffers.{Buffers}
use Rattle.grading.specs.Rows.{Row, CellMarked}
use Rattle.grading.specs.Classes.{found_count}
use Rattle.grading.specs.Promise.{is_graded, counts_of}
use Rattle.demands.specs.Calls.{Call, Accepts}
use Rattle.demands.specs.One.{One, RestKept}
use Rattle.demands.specs.Two.{MatrixCell, row_of_cell, vector_of_cell, mark_in, CellsTell, ClassesTell, AlikeButVectors}
use Rattle.demands.specs.Three.{Refined, Three}
use Rattle.demands.specs.Rounds.{RoundsTold}
use Rattle.demands.specs.NoConverse.{Filling}
use Rattle.demands.specs.Graders.{Grader, called, Work, grades_by, rightly}
use Rattle.demands.specs.Wrong.{marking, refuses_every, skips, marks_all, marks_never, leaves_matrix, first_word_only, invents_found}
use Rattle.demands.specs.Wrong.{sweeps_once, one_plane, marks_floating, counts_rows, spills, wraps, goes_on}
use Rattle.demands.specs.Wrong.{watches_outputs, holds_levels, counts_twice, counts_labels, reads_x_as_zero, keeps_apart, mixes_inner}
use Rattle.demands.specs.Wrong.{splits_inputs, writes_past, clears_first}

-- demand 1 holds of every call
abbrev pub MeetsOne : Grader → Type 0
MeetsOne grader = (file : List ℕ) (before : Buffers) → One (called grader file before)

-- what is asked of a call and its circuit holds of every call that graded
abbrev pub MeetsWhereGraded : (Call → Circuit → Type 0) → Grader → Type 0
MeetsWhereGraded Asked grader =
    (file : List ℕ) (before : Buffers) (c : Circuit) → Accepts file c → T (is_graded (grader file before).answer)
    → Asked (called grader file before) c

-- `GradingKeepsTheRest`, which stands beside demand 1: past the answer the buffers are as they were
abbrev pub MeetsRest : Grader → Type 0
MeetsRest = MeetsWhereGraded RestKept

-- demand 2, its cells and its classes
abbrev pub MeetsCells : Grader → Type 0
MeetsCells = MeetsWhereGraded CellsTell

abbrev pub MeetsClasses : Grader → Type 0
MeetsClasses = MeetsWhereGraded ClassesTell

-- and 02's rounds
abbrev pub MeetsRounds : Grader → Type 0
MeetsRounds = MeetsWhereGraded RoundsTold

-- demand 3, over what the grader itself marks: of two files that it grades, alike but for their vectors, and these refined in the second
abbrev pub MeetsThree : Grader → Type 0
MeetsThree grader =
    (file : List ℕ) (before : Buffers) (file' : List ℕ) (before' : Buffers) (c d : Circuit)
    → Accepts file c → T (is_graded (grader file before).answer)
    → Accepts file' d → T (is_graded (grader file' before').answer)
    → AlikeButVectors c d → Refined c.vectors d.vectors
    → Three (called grader file before) (called grader file' before') c

-- demand 3 read over the definition of demand 2: where a path marks a cell of the first file, the grader marks that of the refined one, and
-- it finds no fewer classes than the definition does in the first
pub record ThreeByPaths (finer : Call) (c : Circuit) : Type 0 where
  pub marks : (cell : MatrixCell c) → CellMarked c (vector_of_cell cell) (row_of_cell cell) → mark_in finer cell ≡ 1
  pub found : found_count c ≤ (counts_of finer.answer).found

abbrev pub MeetsThreeByPaths : Grader → Type 0
MeetsThreeByPaths grader =
    (first file : List ℕ) (before : Buffers) (c d : Circuit)
    → Accepts first c → Accepts file d → T (is_graded (grader file before).answer)
    → AlikeButVectors c d → Refined c.vectors d.vectors
    → ThreeByPaths (called grader file before) c

-- and what follows from both demands: a mark that was made with X holds under every filling of its vector
abbrev pub MeetsFillings : Grader → Type 0
MeetsFillings grader =
    (file : List ℕ) (before : Buffers) (c : Circuit) → Accepts file c → T (is_graded (grader file before).answer)
    → (cell : MatrixCell c) → mark_in (called grader file before) cell ≡ 1
    → (filling : List Value) → Filling c.inputs (vector_of_cell cell) filling → CellMarked c filling (row_of_cell cell)

-- the right grader meets all of them
pub record RightlyMeetsAll : Type 0 where
  pub one : MeetsOne rightly
  pub rest : MeetsRest rightly
  pub cells : MeetsCells rightly
  pub classes : MeetsClasses rightly
  pub rounds : MeetsRounds rightly
  pub three : MeetsThree rightly
  pub three_by_paths : MeetsThreeByPaths rightly
  pub fillings : MeetsFillings rightly

-- whatever a grader works out and writes, it meets demand 1 if it refuses by the table; so do those that mark all or never, which break
-- demand 2
pub record MeetDemandOne : Type 0 where
  pub by_any_work : (work : Circuit → Work) → MeetsOne (grades_by work)
  pub marks_all_lem : MeetsOne marks_all
  pub marks_never_lem : MeetsOne marks_never

-- those that break the class clause of demand 2 meet its clause on cells
pub record MeetCellClause : Type 0 where
  pub invents_found_lem : MeetsCells invents_found
  pub counts_rows_lem : MeetsCells counts_rows
  pub counts_twice_lem : MeetsCells counts_twice
  pub counts_labels_lem : MeetsCells counts_labels
  pub keeps_apart_lem : MeetsCells keeps_apart
  pub mixes_inner_lem : MeetsCells mixes_inner
  pub splits_inputs_lem : MeetsCells splits_inputs

-- marks of rows, 0 or 1 each, that stand where the vectors of an accepted file are refined
pub record MarksThatStand (marks : Circuit → Row → ℕ → ℕ) : Type 0 where
  pub bits : (c : Circuit) (row : Row) (v : ℕ) → marks c row v ≤ 1
  pub stand : (file : List ℕ) (c d : Circuit) → Accepts file c → AlikeButVectors c d → Refined c.vectors d.vectors
      → (row : Row) (v : ℕ) → v < length c.vectors → marks c row v ≤ marks d row v

-- the part of demand 3 that is met: over its own marks, by a grader with any marks that stand, as all, none, and those of the first 64
-- vectors do; over the definition, by one that marks all; under fillings, by those that mark only what a path marks
pub record MeetDemandThree : Type 0 where
  pub by_marks_that_stand : (marks : Circuit → Row → ℕ → ℕ) → MarksThatStand marks → MeetsThree (marking marks)
  pub marks_all_lem : MeetsThree marks_all
  pub marks_never_lem : MeetsThree marks_never
  pub first_word_only_lem : MeetsThree first_word_only
  pub marks_all_by_paths : MeetsThreeByPaths marks_all
  pub marks_never_fillings : MeetsFillings marks_never
  pub first_word_only_fillings : MeetsFillings first_word_only

pub record BreakDemandOne : Type 0 where
  pub refuses_every_lem : MeetsOne refuses_every → ⊥
  pub skips_nine : MeetsOne (skips 9) → ⊥
  pub skips_fourteen : MeetsOne (skips 14) → ⊥
  pub clears_first_lem : MeetsOne clears_first → ⊥
  pub writes_past_lem : MeetsRest writes_past → ⊥

pub record BreakDemandTwo : Type 0 where
  pub marks_all_lem : MeetsCells marks_all → ⊥
  pub marks_never_lem : MeetsCells marks_never → ⊥
  pub leaves_matrix_lem : MeetsCells leaves_matrix → ⊥
  pub first_word_only_lem : MeetsCells first_word_only → ⊥
  pub sweeps_once_lem : MeetsCells sweeps_once → ⊥
  pub one_plane_lem : MeetsCells one_plane → ⊥
  pub marks_floating_lem : MeetsCells marks_floating → ⊥
  pub spills : MeetsCells spills → ⊥
  pub wraps : MeetsCells wraps → ⊥
  pub goes_on_lem : MeetsCells goes_on → ⊥
  pub watches_outputs_lem : MeetsCells watches_outputs → ⊥
  pub holds_levels_lem : MeetsCells holds_levels → ⊥
  pub reads_x_as_zero_lem : MeetsCells reads_x_as_zero → ⊥
  pub invents_found_lem : MeetsClasses invents_found → ⊥
  pub counts_rows_lem : MeetsClasses counts_rows → ⊥
  pub counts_twice_lem : MeetsClasses counts_twice → ⊥
  pub counts_labels_lem : MeetsClasses counts_labels → ⊥
  pub keeps_apart_lem : MeetsClasses keeps_apart → ⊥
  pub mixes_inner_lem : MeetsClasses mixes_inner → ⊥
  pub splits_inputs_lem : MeetsClasses splits_inputs → ⊥

-- the part that is broken: over its own marks, by graders that mark with X what a filling takes back; over the definition, by those that
-- leave marks out; under fillings, by one that marks all
pub record BreakDemandThree : Type 0 where
  pub one_plane_lem : MeetsThree one_plane → ⊥
  pub reads_x_as_zero_lem : MeetsThree reads_x_as_zero → ⊥
  pub marks_never_lem : MeetsThreeByPaths marks_never → ⊥
  pub first_word_only_lem : MeetsThreeByPaths first_word_only → ⊥
  pub marks_all_lem : MeetsFillings marks_all → ⊥
