-- The answer to a file, a refusal of reading or what its circuit answers; and that to a circuit, a refusal of the matrix or of the class
-- buffer, or its grading. Each keeps the promise. Assumes nothing.
use Prim.Native.Nat.{ℕ, ◌*◌, ◌<◌, ◌≤◌}
use mathlib.Core.Path.{◌≡◌, refl, ap, subst}
use mathlib.Core.Bool.{true}
use mathlib.Core.List.{List}
use borrow.Author.Tests.{lt-ltb, le-ltb}
use lib.ListN.{length}
use Rattle.std.specs.Prelude.{Some, None, Ok, Err}
use Rattle.circuit.specs.Circuit.{Circuit}
use Rattle.circuit.specs.Table.{refused_at}
use Rattle.circuit.specs.Reading.{Reading, accepted, refusal, reading_of}
use Rattle.circuit.specs.Records.{circuit_record}
use Rattle.circuit.specs.Refusals.{refusal_number, refusal_place, verdict_of}
use Rattle.circuit.specs.declared.refusal.Refusal.{Refusal}
use Rattle.circuit.specs.Answers.{Tells}
use Rattle.circuit.specs.Laws.{CircuitGood}
use Rattle.circuit.specs.declared.Reading.{Reading as ReadingRecord}
use Rattle.circuit.specs.declared.Circuit.{Circuit as CircuitRecord}
use Rattle.circuit.proofs.CircuitLaws.{accepted-is-good}
use Rattle.grading.specs.Rows.{rows_of}
use Rattle.grading.specs.Buffers.{Buffers, Room, room_of}
use Rattle.grading.specs.Grading.{grading_of_circuit, after_reading, is_graded_in, counts_in, number_in, place_in, buffers_after}
use Rattle.grading.specs.Promise.{Answer, AnswersAs, Promise}
use Rattle.grading.specs.CircuitPromise.{PromiseOfCircuit}
use Rattle.grading.specs.Given.{CircuitGiven}
use Rattle.grading.specs.declared.Counts.{Counts}
use Rattle.grading.specs.declared.Ungraded.TheVariants.{Refused, ShortMatrix, ShortClasses}
use Rattle.grading.proofs.PromiseLaws.{circuit-promise-is-files, same_buffers}
use Rattle.grade_file.specs.Model as model
use Rattle.grade_file.proofs.Assembly.{faults_are}

-- ---- what reading answers

pub refused_answers : (read : Reading) (reading : ReadingRecord) (r : Refusal) → reading.refusal ≡ Some r → Tells read reading
    → (room : Room) (buffers : Buffers) → AnswersAs (after_reading read room) (Err (Refused r)) buffers buffers
unfolding Tells after_reading is_graded_in counts_in number_in place_in buffers_after
refused_answers (accepted c) reading r refused tells room buffers = let told = ap verdict_of refused in let passed = tells.0 in cc
refused_answers (refusal n p) reading r refused tells room buffers =
    let told : refused_at (refusal_number r) (refusal_place r) ≡ refused_at n p = rw refused at tells in
    record { is_graded_lem = refl; number = cc; place = cc; counts = refl; buffers_at_exit = refl }

-- the record tells the circuit of a file that is accepted
pub record Accepted (file : List ℕ) (m : CircuitRecord) : Type 0 where
  pub circuit : Circuit
  pub reads : reading_of file ≡ accepted circuit
  pub is : m ≡ circuit_record circuit

pub accepted-here : (file : List ℕ) (reading : ReadingRecord) → reading.refusal ≡ None → Tells (reading_of file) reading
    → Accepted file reading.circuit
unfolding Tells
accepted-here file reading none tells = go (reading_of file) refl tells
  where
    go : (read : Reading) → reading_of file ≡ read → Tells read reading → Accepted file reading.circuit
    go (accepted c) p a = record { circuit = c; reads = p; is = a.1 }
    go (refusal n at) p a = let told = ap verdict_of none in cc

-- ---- a file that is accepted

module _ (file : List ℕ) (m : CircuitRecord) (here : Accepted file m) where
  pub good_here : CircuitGood here.circuit
  good_here = accepted-is-good true file here.circuit here.reads

  pub given : CircuitGiven m
  given = record { circuit = here.circuit; is = here.is; good = good_here }

  pub file_answers : (before after : Buffers) (answer : Answer) → PromiseOfCircuit m before answer after → Promise file before answer after
  file_answers before after answer promise =
      circuit-promise-is-files file here.circuit here.reads before after answer
      (subst (λ (r : CircuitRecord). PromiseOfCircuit r before answer after) here.is promise)

-- ---- a circuit, by its record

module _ (c : Circuit) (m : CircuitRecord) (is : m ≡ circuit_record c) (before : Buffers) where
  same : m.faults ≡ length (rows_of c)
  same = faults_are c m is

  pub short_matrix : length before.matrix < 4 * m.faults
      → AnswersAs (grading_of_circuit c (room_of before)) (Err (ShortMatrix (4 * m.faults))) before before
  unfolding is_graded_in counts_in number_in place_in buffers_after grading_of_circuit
  short_matrix short =
      let test = lt-ltb (length before.matrix) (4 * length (rows_of c)) (rw same at short) in
      rw (same, test) record { is_graded_lem = refl; number = refl; place = refl; counts = refl; buffers_at_exit = refl }

  pub short_classes : 4 * m.faults ≤ length before.matrix → length before.classes < m.faults
      → AnswersAs (grading_of_circuit c (room_of before)) (Err (ShortClasses m.faults)) before before
  unfolding is_graded_in counts_in number_in place_in buffers_after grading_of_circuit
  short_classes fits short =
      let test = le-ltb (length before.matrix) (4 * length (rows_of c)) (rw same at fits) in
      let test-2 = lt-ltb (length before.classes) (length (rows_of c)) (rw same at short) in
      rw (same, test, test-2) record { is_graded_lem = refl; number = refl; place = refl; counts = refl; buffers_at_exit = refl }

  pub graded_answers : 4 * m.faults ≤ length before.matrix → m.faults ≤ length before.classes → (counts : Counts) (after : Buffers)
      → model.Graded c counts before.matrix before.classes after.matrix after.classes
      → AnswersAs (grading_of_circuit c (room_of before)) (Ok counts) before after
  unfolding is_graded_in counts_in number_in place_in buffers_after grading_of_circuit
  graded_answers fits fits-2 counts after graded =
      let test = le-ltb (length before.matrix) (4 * length (rows_of c)) (rw same at fits) in
      let test-2 = le-ltb (length before.classes) (length (rows_of c)) (rw same at fits-2) in
      rw (test, test-2) record {
        is_graded_lem = refl;
        number = refl;
        place = refl;
        counts = graded.counts_are;
        buffers_at_exit = same_buffers after _ graded.matrix_is graded.classes_are;
      }
