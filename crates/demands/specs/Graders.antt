-- Graders as functions, to try against the promise of `grade`: what they answer and leave in the buffers, a right one, and where a wrong
-- one may differ.
use Rattle.std.specs.Prelude.{ℕ, Bool, true, cond, List, [], map, eqb, ltb, length, get_or, Ok, Err}
use Rattle.words.specs.Bits.{of_bool}
use Rattle.words.specs.Rows.{row_of}
use Rattle.switch.specs.Conduction.{Value}
use Rattle.switch.specs.Modules.{ModuleType}
use Rattle.switch.specs.Bridges.{Bridge}
use Rattle.circuit.specs.Limits.{most_bytes}
use Rattle.circuit.specs.Fields.{Field, Cut, clean, broken, field, cut_from}
use Rattle.circuit.specs.Circuit.{Circuit, join_lists}
use Rattle.circuit.specs.Known.{Known, start, known_after}
use Rattle.circuit.specs.Table.{Test, first_of, field_tests, end_tests}
use Rattle.circuit.specs.Reading.{Reading, accepted, refusal, unless}
use Rattle.circuit.specs.declared.refusal.Refusal.{Refusal}
use Rattle.circuit.specs.declared.refusal.Refusal.TheVariants.{TooLong, Broken, UnknownTag, Misplaced, WrongLength, TooMany, OutOfRange}
use Rattle.circuit.specs.declared.refusal.Refusal.TheVariants.{BadEnds, NotComplementary, BadReference, BridgeUnsuited, EmptyList}
use Rattle.circuit.specs.declared.refusal.Refusal.TheVariants.{TooManyFaults, Unfinished}
use Rattle.grading.specs.Buffers.{Buffers, room_of}
use Rattle.grading.specs.Rows.{Row, rows_of, row_values, mark_of}
use Rattle.grading.specs.Classes.{same_class, largest, classes_by, found_by}
use Rattle.grading.specs.Rounds.{rounds_of}
use Rattle.grading.specs.Grading.{Grading, graded, refused, grading_of, after_reading, over}
use Rattle.grading.specs.Promise.{Answer}
use Rattle.grading.specs.declared.Ungraded.TheVariants.{Refused, ShortMatrix, ShortClasses}
use Rattle.demands.specs.Calls.{Call, Kept}

-- ---- graders

-- what a grader answers, and what the buffers hold then
pub record Outcome : Type 0 where
  pub answer : Answer
  pub after : Buffers

-- of a file and lent buffers
abbrev pub Grader : Type 0
Grader = List ℕ → Buffers → Outcome

abbrev pub called : Grader → List ℕ → Buffers → Call
called grader file before =
    let outcome = grader file before in record { file = file; before = before; answer = outcome.answer; after = outcome.after }

-- the promise holds of every call
abbrev pub MeetsPromise : Grader → Type 0
MeetsPromise grader = (file : List ℕ) (before : Buffers) → Kept (called grader file before)

-- ---- the code's answers

-- the refusal of reading with a number and a place
unfoldable pub refusal_of : ℕ → ℕ → Refusal
refusal_of n p =
    cond (eqb n 1) TooLong (cond (eqb n 2) (Broken p) (cond (eqb n 3) (UnknownTag p) (cond (eqb n 4) (Misplaced p)
    (cond (eqb n 5) (WrongLength p) (cond (eqb n 6) (TooMany p) (cond (eqb n 7) (OutOfRange p) (cond (eqb n 8) (BadEnds p)
    (cond (eqb n 9) (NotComplementary p) (cond (eqb n 10) (BadReference p) (cond (eqb n 11) (BridgeUnsuited p)
    (cond (eqb n 12) (EmptyList p) (cond (eqb n 13) (TooManyFaults p) (Unfinished p)))))))))))))

unfoldable pub refusing : ℕ → ℕ → Answer
refusing n p = cond (eqb n 15) (Err (ShortMatrix p)) (cond (eqb n 22) (Err (ShortClasses p)) (Err (Refused (refusal_of n p))))

-- ---- a grader by what it works out of the circuit; it refuses by the table

pub record Work : Type 0 where
  pub words : List ℕ
  pub classes : List ℕ
  pub count_of_classes : ℕ
  pub found : ℕ
  pub rounds : ℕ

unfoldable pub outcome_of : (Circuit → Work) → Grading → Buffers → Outcome
outcome_of work (refused n p) before = record { answer = refusing n p; after = before }
outcome_of work (graded c) before =
    let w = work c in record {
      answer = Ok (record {
        vectors = length c.vectors;
        faults = length (rows_of c);
        classes = w.count_of_classes;
        found = w.found;
        rounds = w.rounds;
      });
      after = record { matrix = over w.words before.matrix; classes = over w.classes before.classes };
    }

unfoldable pub grades_by : (Circuit → Work) → Grader
grades_by work file before = outcome_of work (grading_of file (room_of before)) before

-- ---- work by the marks of rows, their packing into words, and the test for one class; its rounds are right

-- how a row is packed: from the number of vectors and the marks, from 0
abbrev pub Packing : Type 0
Packing = ℕ → (ℕ → ℕ) → List ℕ

unfoldable pub work_by : Packing → (Circuit → Row → ℕ → ℕ) → (Row → Row → Bool) → Circuit → Work
work_by packed marks same c =
    let classes = classes_by same (rows_of c) in record {
      words = join_lists (map (λ (row : Row). packed (length c.vectors) (marks c row)) (rows_of c));
      classes = classes;
      count_of_classes = largest classes;
      found = found_by (length c.vectors) (marks c) (rows_of c) classes (largest classes);
      rounds = rounds_of c;
    }

-- the marks of rows by a test on a type, the values of its labels, and a bridge
unfoldable pub marks_by : (ModuleType → (ℕ → Value) → Bridge → Bool) → Circuit → Row → ℕ → ℕ
marks_by test c row v =
    of_bool (test row.type (row_values c (get_or c.vectors v []) row) row.bridge)

-- ---- the right ones

unfoldable pub right_work : Circuit → Work
right_work c = work_by row_of mark_of same_class c

unfoldable pub rightly : Grader
rightly file before = grades_by right_work file before

-- the promise can be met, and a grader that differs from this one in one place is right in all others
abbrev pub RightlyIsRight : Type 0
RightlyIsRight = MeetsPromise rightly

-- ---- a grader by what it takes from a field, and by the tests that it makes of a field and of the end of a file; it is right in all else

abbrev pub Taking : Type 0
Taking = Known → Field → Known

abbrev pub FieldTesting : Type 0
FieldTesting = Known → Field → List Test

abbrev pub EndTesting : Type 0
EndTesting = Known → ℕ → List Test

unfoldable pub read_taking : Taking → FieldTesting → EndTesting → ℕ → Known → Cut → Reading
read_taking after fields end size known clean = unless (first_of (end known size)) (accepted known.circuit)
read_taking after fields end size known (broken at) = refusal 2 at
read_taking after fields end size known (field f rest) =
    let later = read_taking after fields end size (after known f) rest in unless (first_of (fields known f)) later

unfoldable pub taking_and_testing : Taking → FieldTesting → EndTesting → Grader
taking_and_testing after fields end file before =
    let whole = read_taking after fields end (length file) start (cut_from file 0) in
    outcome_of right_work (after_reading (cond (ltb most_bytes (length file)) (refusal 1 0) whole) (room_of before)) before

abbrev pub testing : FieldTesting → EndTesting → Grader
testing = taking_and_testing known_after

abbrev pub taking : Taking → Grader
taking after = taking_and_testing after field_tests (end_tests true)
