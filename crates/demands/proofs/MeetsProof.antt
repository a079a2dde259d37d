-- The right grader meets all demands; every grader that refuses by the table meets demand 1, whatever it works out of a circuit, one that
-- works out the right words meets the cells of demand 2, and what of demand 3 those meet that mark all, never, or under the first 64
-- vectors.
use Prim.Native.Nat.{ℕ, ◌≤◌}
use mathlib.Core.Path.{◌≡◌, refl, sym, ap, ◌∙◌}
use mathlib.Core.Bool.{Bool, true, false, cond}
use mathlib.Core.List.{List}
use native.Mathlib.Omega.{arith}
use lib.Dec.{T, ltb}
use Rattle.words.specs.Tables.{up_to}
use Rattle.words.proofs.Rows.{up_to_le_one}
use Rattle.circuit.specs.Circuit.{Circuit}
use Rattle.circuit.specs.Table.{refused_at}
use Rattle.circuit.proofs.CircuitLaws.{accepted-is-good}
use Rattle.circuit.proofs.Tested.{never-passes}
use Rattle.grading.specs.Buffers.{Buffers, room_of}
use Rattle.grading.specs.Rows.{Row, mark_of}
use Rattle.grading.specs.Grading.{Grading, graded, grading_of, over}
use Rattle.grading.specs.Grading.{refused}
use Rattle.grading.specs.Promise.{is_graded}
use Rattle.demands.specs.Calls.{Call, Accepts, GradedAs}
use Rattle.demands.specs.Two.{CellsTell}
use Rattle.demands.specs.Graders.{Work, outcome_of, grades_by, work_by, right_work, rightly, called}
use Rattle.demands.specs.Wrong.{marks_all, marks_never, first_word_only, invents_found, counts_rows, counts_twice, counts_labels, keeps_apart, mixes_inner, splits_inputs}
use Rattle.demands.specs.Breaks.{MeetsOne, MeetsCells, RightlyMeetsAll, MeetDemandOne, MeetCellClause, MeetDemandThree}
use Rattle.demands.proofs.Gave.{gave, rounds_given_lem}
use Rattle.demands.proofs.GradingVerdicts.{answered, answer-is}
use Rattle.demands.proofs.OneProof.{one_by_the_table, one_holds, grading_keeps_the_rest}
use Rattle.demands.proofs.Cells.{cell_is_path}
use Rattle.grading.proofs.FoundLaws.{mark_le_one}
use Rattle.demands.proofs.ClassCounts.{classes_count_once}
use Rattle.demands.proofs.Refining.{mark_stands, three_holds}
use Rattle.demands.proofs.RefinedMarks.{by_marks_that_stand, marks_above, marks_below}
use Rattle.demands.proofs.RightProof.{rightly_is_right}

-- ---- the right grader

right_as : (file : List ℕ) (before : Buffers) (c : Circuit) → Accepts file c → T (is_graded (rightly file before).answer)
    → GradedAs (called rightly file before) c
right_as file before c accepts is_graded_lem =
    record { kept = rightly_is_right file before; accepts = accepts; graded = is_graded_lem }

pub rightly_meets_all : RightlyMeetsAll
unfolding rightly right_work
rightly_meets_all = record {
  one = λ file before. one_holds (called rightly file before) (rightly_is_right file before);
  rest = λ file before c e g. grading_keeps_the_rest (called rightly file before) c (right_as file before c e g);
  cells = λ file before c e g. cell_is_path (called rightly file before) c (right_as file before c e g);
  classes = λ file before c e g. classes_count_once (called rightly file before) c (right_as file before c e g);
  rounds = λ file before c e g. rounds_given_lem (called rightly file before) c (gave _ c (right_as file before c e g));
  three = λ file before file' before' c d e g e' g'.
      three_holds (called rightly file before) (called rightly file' before') c d
      (right_as file before c e g) (right_as file' before' d e' g');
  three_by_paths = marks_above mark_of mark_le_one (λ file c d e. mark_stands c d (accepted-is-good true file c e));
  fillings = marks_below mark_of mark_le_one (λ c row v. omega arith);
}

-- ---- any work

module _ (work : Circuit → Work) (before : Buffers) where
  -- its verdict is the right grader's
  same_verdict : (g : Grading)
      → answered (outcome_of work g before).answer ≡ answered (outcome_of right_work g before).answer
  unfolding outcome_of answered
  same_verdict (graded c) = refl
  same_verdict (refused n p) = refl

  refusal_keeps : (g : Grading) (number place : ℕ) → answered (outcome_of work g before).answer ≡ refused_at number place
      → (outcome_of work g before).after ≡ before
  unfolding outcome_of answered
  refusal_keeps (graded c) number place e = absurd (never-passes (sym e))
  refusal_keeps (refused n p) number place e = refl

by_any_work : (work : Circuit → Work) → MeetsOne (grades_by work)
unfolding grades_by rightly
by_any_work work file before =
    let g = grading_of file (room_of before) in
    one_by_the_table (called (grades_by work) file before) (record {
      verdict = same_verdict work before g ∙ answer-is (called rightly file before) (rightly_is_right file before);
      keeps = refusal_keeps work before g;
    })

pub meet_demand_one : MeetDemandOne
unfolding marks_all marks_never
meet_demand_one = record { by_any_work = by_any_work; marks_all_lem = by_any_work _; marks_never_lem = by_any_work _ }

-- ---- the right words

-- the clause on cells speaks of the matrix alone
cells-carried : (one other : Call) (c : Circuit) → other.after.matrix ≡ one.after.matrix → CellsTell one c → CellsTell other c
cells-carried one other c e tells = record {
  marked = λ cell. rw e (tells.marked cell);
  not_marked = λ cell. rw e (tells.not_marked cell);
  by_ends = λ cell. rw e (tells.by_ends cell);
  not_without_the_bridge = tells.not_without_the_bridge;
  past_the_last_vector = λ r v h k l. rw e (tells.past_the_last_vector r v h k l);
}

module _ (work : Circuit → Work) (same : (c : Circuit) → (work c).words ≡ (right_work c).words) where
  same_matrix : (g : Grading) (before : Buffers)
      → (outcome_of work g before).after.matrix ≡ (outcome_of right_work g before).after.matrix
  unfolding outcome_of
  same_matrix (graded c) before = ap (λ (words : List ℕ). over words before.matrix) (same c)
  same_matrix (refused n p) before = refl

  pub graded_too : (g : Grading) (before : Buffers) → T (is_graded (outcome_of work g before).answer)
      → T (is_graded (outcome_of right_work g before).answer)
  unfolding outcome_of
  graded_too (graded c) before t = tt
  graded_too (refused n p) before t = t

  pub by_right_words : MeetsCells (grades_by work)
  unfolding grades_by rightly
  by_right_words file before c e is_graded_lem =
      let g = grading_of file (room_of before) in
      cells-carried (called rightly file before) (called (grades_by work) file before) c (same_matrix g before)
      (rightly_meets_all.cells file before c e (graded_too g before is_graded_lem))

pub meet_cell_clause : MeetCellClause
unfolding invents_found counts_rows counts_twice counts_labels keeps_apart mixes_inner splits_inputs right_work work_by
meet_cell_clause = record {
  invents_found_lem = by_right_words _ (λ c. refl);
  counts_rows_lem = by_right_words _ (λ c. refl);
  counts_twice_lem = by_right_words _ (λ c. refl);
  counts_labels_lem = by_right_words _ (λ c. refl);
  keeps_apart_lem = by_right_words _ (λ c. refl);
  mixes_inner_lem = by_right_words _ (λ c. refl);
  splits_inputs_lem = by_right_words _ (λ c. refl);
}

-- ---- demand 3

-- a number, or 0 in its place
cut_grows : (b : Bool) (x y : ℕ) → x ≤ y → cond b x 0 ≤ cond b y 0
cut_grows true x y h = h
cut_grows false x y h = omega arith

cut_below : (b : Bool) (x : ℕ) → cond b x 0 ≤ x
cut_below true x = omega arith
cut_below false x = omega arith

first_le_one : (c : Circuit) (row : Row) (v : ℕ) → up_to 64 (mark_of c row) v ≤ 1
first_le_one c row v = up_to_le_one 64 (mark_of c row) (mark_le_one c row) v

pub meet_demand_three : MeetDemandThree
unfolding marks_all marks_never first_word_only up_to
meet_demand_three = record {
  by_marks_that_stand = by_marks_that_stand;
  marks_all_lem = by_marks_that_stand _ (record { bits = λ c row v. omega arith; stand = λ file c d e alike refined row v h. omega arith });
  marks_never_lem = by_marks_that_stand _ (record { bits = λ c row v. omega arith; stand = λ file c d e alike refined row v h. omega arith });
  first_word_only_lem = by_marks_that_stand _ (record {
    bits = first_le_one;
    stand = λ file c d e alike refined row v h.
        cut_grows (ltb v 64) (mark_of c row v) (mark_of d row v) (mark_stands c d (accepted-is-good true file c e) alike refined row v h);
  });
  marks_all_by_paths = marks_above _ (λ c row v. omega arith) (λ file c d e alike refined row v h. mark_le_one c row v);
  marks_never_fillings = marks_below _ (λ c row v. omega arith) (λ c row v. omega arith);
  first_word_only_fillings = marks_below _ first_le_one (λ c row v. cut_below (ltb v 64) (mark_of c row v));
}
