-- Who meets the `requires` of the public functions that ask for what was read or graded: whatever reading and grading give of any file, so
-- that no file is left out. (`SoleWhereMet` of Unique asks for one example only.) The proofs are in proofs/MetProof.
use Rattle.std.specs.Prelude.{ℕ, ◌≡◌, Bool, List}
use contract.Lifetimes.{Lfts}
use denote.Ref.{Bor}
use denote.Triple.Entry.{Args}
use Rattle.circuit.specs.Circuit.{Circuit}
use Rattle.circuit.specs.Records.{circuit_record}
use Rattle.circuit.specs.Reading.{accepted, reading_with, reading_of}
use Rattle.circuit.specs.Answers.{Tells}
use Rattle.grading.specs.Buffers.{Buffers}
use Rattle.grading.specs.Promise.{Answer}
use Rattle.grade_file.specs.contracts.grade.grade_circuit as grade_circuit
use Rattle.grade_file.proofs.grade.grade_circuit.Reads as grade_circuit_reads
use Rattle.grade_file.specs.contracts.grade.grade_read as grade_read
use Rattle.grade_file.proofs.grade.grade_read.Reads as grade_read_reads
use Rattle.grade_rows.specs.contracts.rows_of as rows_of
use Rattle.grade_rows.proofs.rows_of.Reads as rows_of_reads
use Rattle.print_report.specs.Promise.{OutcomeOf}
use Rattle.print_report.specs.declared.Held.{Held}

pub record MetByEveryFile : Type 0 where
  -- every reading that tells what a file says
  pub grade_read : (κs : Lfts 2) (a : Args grade_read.signature κs) (file : List ℕ) → Tells (reading_of file) a.0
      → grade_read_reads.Asked κs a
  -- the circuit of every file that is accepted, whether or not a vector is wanted of it
  pub grade_circuit : (κs : Lfts 2) (a : Args grade_circuit.signature κs) (wanted : Bool) (file : List ℕ) (c : Circuit)
      → reading_with wanted file ≡ accepted c → a.0 ≡ circuit_record c → grade_circuit_reads.Asked κs a
  pub rows_of : (κs : Lfts 0) (a : Args rows_of.signature κs) (wanted : Bool) (file : List ℕ) (c : Circuit)
      → reading_with wanted file ≡ accepted c → a.0 ≡ circuit_record c → rows_of_reads.Asked κs a
  -- the outcome of every file and any buffers, with its rows, can be held, as `report_piece` wants it
  pub report_piece : (answer : Answer) (codes matrix classes : Bor (List ℕ)) (file : List ℕ) (before : Buffers)
      → OutcomeOf file before answer codes.now matrix.now classes.now
      → (held : Held) × (held.answer ≡ answer) × (held.codes ≡ codes) × (held.matrix ≡ matrix) × (held.classes ≡ classes)
