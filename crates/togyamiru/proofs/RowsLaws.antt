-- The rows of a file, listed or refused: each keeps the promise of `togyamiru_rows`, and no two outcomes keep it. Assumes nothing.
use Prim.Native.Nat.{ℕ, ◌<◌, ◌≤◌}
use mathlib.Core.Path.{◌≡◌, refl, sym, ap, ◌∙◌}
use mathlib.Core.List.{List, ◌++◌}
use native.Mathlib.Omega.{arith}
use borrow.Author.Tests.{lt-ltb, le-ltb}
use lib.ListN.{length, take, drop}
use lib.Seq.{length-take-le}
use Rattle.std.specs.Prelude.{Some, Ok, Err}
use Rattle.circuit.specs.Reading.{Reading, accepted, refusal}
use Rattle.circuit.specs.Records.{padded}
use Rattle.circuit.specs.Refusals.{verdict_of}
use Rattle.circuit.specs.Answers.{Tells}
use Rattle.circuit.specs.declared.Reading.{Reading as ReadingRecord}
use Rattle.circuit.specs.declared.refusal.Refusal.{Refusal as RefusalOfCode}
use Rattle.circuit.specs.declared.Circuit.{Circuit as CircuitRecord}
use Rattle.circuit.proofs.TypeLaws.{take_padded}
use Rattle.grading.specs.Buffers.{room_for, no_buffers}
use Rattle.grading.specs.Rows.{rows_of}
use Rattle.grading.specs.Grading.{Counts, counts_of_circuit, after_reading, counts_in, number_in, place_in, over}
use Rattle.grading.specs.declared.Counts.{Counts as CountsRecord}
use Rattle.grading.specs.declared.Ungraded.TheVariants.{Refused, ShortClasses}
use Rattle.grading.proofs.CodeLaws.{length-codes}
use Rattle.grading.proofs.RowLaws.{few_rows}
use Rattle.grade_file.proofs.Assembly.{faults_are}
use Rattle.grade_file.proofs.GradingLaws.{refused_answers, Accepted, good_here}
use Rattle.grading.specs.Codes.{codes_of}
use Rattle.togyamiru.specs.RowsEntry.{rows_after_reading, rows_buffer_after, RowsPromise}
use Rattle.togyamiru.specs.RowsModel.{RowsAnswered, RowsAnswer}

-- ---- values put at the front of a buffer

pub put_front : (values buffer : List ℕ) (n : ℕ) → n ≤ length values → take n values ++ drop n buffer ≡ over (take n values) buffer
unfolding over
put_front values buffer n within = ap (λ (k : ℕ). take n values ++ drop k buffer) (sym (length-take-le n values within))

-- ---- the answer of the code

pub refused-rows : (read : Reading) (reading : ReadingRecord) (why : RefusalOfCode) → reading.refusal ≡ Some why → Tells read reading
    → (rows : List ℕ) → RowsAnswered (rows_after_reading read (length rows)) (Err (Refused why)) rows rows
unfolding rows_after_reading rows_buffer_after after_reading number_in place_in counts_in Tells
refused-rows (accepted c) reading why refused tells rows = let told = ap verdict_of refused in let passed = tells.0 in cc
refused-rows (refusal number place) reading why refused tells rows =
    let told = refused_answers (refusal number place) reading why refused tells (room_for 0 0) no_buffers in
    record { number = told.number; place = told.place; faults = ap (λ (counts : Counts). counts.faults) told.counts; rows_at_exit = refl }

module _ (file : List ℕ) (m : CircuitRecord) (here : Accepted file m) where
  same_faults : m.faults ≡ length (rows_of here.circuit)
  same_faults = faults_are here.circuit m here.is

  pub faults_few : m.faults ≤ 2048
  faults_few = omega (arith, same_faults, few_rows here.circuit (good_here _ _ here))

  pub short_rows : (rows : List ℕ) → length rows < m.faults → RowsAnswer file rows (Err (ShortClasses m.faults)) rows
  unfolding rows_after_reading rows_buffer_after number_in place_in counts_in
  short_rows rows short =
      let test = lt-ltb (length rows) (length (rows_of here.circuit)) (rw same_faults at short) in
      rw (here.reads, test, same_faults) record { number = refl; place = refl; faults = refl; rows_at_exit = refl }

  pub rows_listed : (rows : List ℕ) → m.faults ≤ length rows → (codes rows' : List ℕ)
      → codes ≡ padded 2048 0 (codes_of (rows_of here.circuit)) → rows' ≡ over (take m.faults codes) rows
      → (counts : CountsRecord) → counts.faults ≡ m.faults → RowsAnswer file rows (Ok counts) rows'
  unfolding rows_after_reading rows_buffer_after number_in place_in counts_in counts_of_circuit
  rows_listed rows fits codes rows' are put counts told =
      let c = here.circuit in
      let test = le-ltb (length rows) (length (rows_of c)) (rw same_faults at fits) in
      let long : length (codes_of (rows_of c)) ≡ m.faults = length-codes (rows_of c) ∙ sym same_faults in
      let all : take m.faults codes ≡ codes_of (rows_of c)
      = ap (take m.faults) are
      ∙ ap (λ (n : ℕ). take n (padded 2048 0 (codes_of (rows_of c)))) (sym long)
      ∙ take_padded 0 2048 (codes_of (rows_of c)) (omega (arith, long, faults_few)) in
      rw (here.reads, test) record {
        number = refl;
        place = refl;
        faults = told ∙ same_faults;
        rows_at_exit = put ∙ ap (λ (text : List ℕ). over text rows) all;
      }

-- ---- one outcome only

pub rows_once : (file rows answer answer' after after' : List ℕ) → RowsPromise file rows answer after → RowsPromise file rows answer' after'
    → (answer ≡ answer') × (after ≡ after')
rows_once file rows answer answer' after after' p q = (p.answer_at_exit ∙ sym q.answer_at_exit, p.rows_at_exit ∙ sym q.rows_at_exit)
