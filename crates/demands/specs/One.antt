-- Demand 1. Every byte string is graded or refused, nothing undefined, nothing expected of the caller. A refusal comes exactly when the
-- table says so, with its number and place, and the caller's buffers keep their contents.
use Rattle.std.specs.Prelude.{ℕ, ◌*◌, ◌≤◌, ◌≡◌, Bool, true, not, ◌⊎◌, ◌↔◌, List, [], ◌∷◌, ◌++◌, T, ltb, length, drop}
use Rattle.switch.specs.Modules.{all_of}
use Rattle.circuit.specs.Limits.{most_bytes}
use Rattle.circuit.specs.Fields.{Cut, clean, broken, field, cut_from}
use Rattle.circuit.specs.Circuit.{Circuit}
use Rattle.circuit.specs.Known.{Known, start, known_after}
use Rattle.circuit.specs.Table.{Test, test, field_tests, end_tests}
use Rattle.grading.specs.Buffers.{Buffers, Room, room_of}
use Rattle.grading.specs.Rows.{rows_of}
use Rattle.grading.specs.Grading.{no_counts}
use Rattle.grading.specs.Promise.{is_graded, counts_of}
use Rattle.demands.specs.Calls.{Call, Kept, Accepts, GradedAs, Refuses}

-- ---- the table as one list: every test that a file and the room in the buffers are put to, in the order in which 01 looks at them

-- last 15, matrix shorter than 4 times the faults, and 22, class buffer shorter than the faults
unfoldable pub buffer_tests : Circuit → Room → List Test
buffer_tests c room =
    let faults = length (rows_of c) in
    test 15 (ltb room.words (4 * faults)) (4 * faults) ∷ test 22 (ltb room.entries faults) faults ∷ []

-- fields in file order, each with its tests; where no whole field stands, number 2, and nothing is looked at after it
unfoldable pub tests_from : ℕ → Room → Known → Cut → List Test
tests_from size room known clean = end_tests true known size ++ buffer_tests known.circuit room
tests_from size room known (broken at) = test 2 true at ∷ []
tests_from size room known (field f rest) = field_tests known f ++ tests_from size room (known_after known f) rest

-- number 1 is looked at first
unfoldable pub table_of : List ℕ → Room → List Test
table_of file room = test 1 (ltb most_bytes (length file)) 0 ∷ tests_from (length file) room start (cut_from file 0)

unfoldable pub passed : Test → Bool
passed t = not t.refuses

-- the first test that applies has this number and this place: none before it applies
pub record FirstApplying (tests : List Test) (number place : ℕ) : Type 0 where
  pub before : List Test
  pub applying : Test
  pub after : List Test
  pub in_order : tests ≡ before ++ (applying ∷ after)
  pub none_before : T (all_of passed before)
  pub applies : T applying.refuses
  pub number_is : applying.number ≡ number
  pub place_is : applying.place ≡ place

abbrev pub table_for : Call → List Test
table_for call = table_of call.file (room_of call.before)

-- room for a circuit's answer
pub record AnswerFits (c : Circuit) (room : Room) : Type 0 where
  pub words : 4 * length (rows_of c) ≤ room.words
  pub entries : length (rows_of c) ≤ room.entries

-- ---- the demand

-- a refusal carries no counts, so that its counts are 0 is said by the answer's own form; that form also gives `never_both`. What is
-- written is demand 2's
pub record One (call : Call) : Type 0 where
  pub graded_or_refused : (T (is_graded call.answer) × T (all_of passed (table_for call)))
      ⊎ ((number : ℕ) × (place : ℕ) × Refuses call.answer number place × FirstApplying (table_for call) number place)
  pub never_both : T (is_graded call.answer) → (number place : ℕ) → Refuses call.answer number place → ⊥
  pub refused_by_the_table : (number place : ℕ) → Refuses call.answer number place ↔ FirstApplying (table_for call) number place
  pub graded_when_none_applies : T (is_graded call.answer) ↔ T (all_of passed (table_for call))
  pub graded_is_accepted : T (is_graded call.answer) → (c : Circuit) × Accepts call.file c × AnswerFits c (room_of call.before)
  pub accepted_is_graded : (c : Circuit) → Accepts call.file c → AnswerFits c (room_of call.before) → T (is_graded call.answer)
  pub refusal_counts_nothing : (number place : ℕ) → Refuses call.answer number place → counts_of call.answer ≡ no_counts
  pub refusal_keeps_the_buffers : (number place : ℕ) → Refuses call.answer number place → call.after ≡ call.before

abbrev pub OneHolds : Type 0
OneHolds = (call : Call) → Kept call → One call

-- for every file and any buffers there is an outcome that keeps the promise, and only one. That the code of `grade` always
-- gives one is `GradeIsKept` (CodeCalls)
pub record CanBeMet (file : List ℕ) (before : Buffers) : Type 0 where
  pub call : Call
  pub of_file : call.file ≡ file
  pub of_buffers : call.before ≡ before
  pub kept : Kept call

abbrev pub PromiseCanBeMet : Type 0
PromiseCanBeMet = (file : List ℕ) (before : Buffers) → CanBeMet file before

pub record SameOutcome (one other : Call) : Type 0 where
  pub answer : one.answer ≡ other.answer
  pub buffers : one.after ≡ other.after

abbrev pub OneOutcomeOnly : Type 0
OneOutcomeOnly =
    (one other : Call) → Kept one → Kept other → one.file ≡ other.file → one.before ≡ other.before → SameOutcome one other

-- after a grading everything past the answer is as it was
pub record RestKept (call : Call) (c : Circuit) : Type 0 where
  pub words : drop (4 * length (rows_of c)) call.after.matrix ≡ drop (4 * length (rows_of c)) call.before.matrix
  pub entries : drop (length (rows_of c)) call.after.classes ≡ drop (length (rows_of c)) call.before.classes
  pub as_long : room_of call.after ≡ room_of call.before

abbrev pub GradingKeepsTheRest : Type 0
GradingKeepsTheRest = (call : Call) (c : Circuit) → GradedAs call c → RestKept call c
