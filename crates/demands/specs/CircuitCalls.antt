-- Grading a circuit in place of the file that it was read from: calls of `grade_circuit`, their promise on the code, that they answer and
-- leave what a call of `grade` on the file does, and demands 2 and 3 on them, also where there is no file. The proofs are in
-- proofs/CircuitCallsProof.
use Rattle.std.specs.Prelude.{ℕ, ◌≡◌, List, [], T}
use contract.Lifetimes.{Lfts}
use denote.Triple.Entry.{Args}
use denote.Triple.Clauses.{AtExit}
use Rattle.circuit.specs.Circuit.{Circuit}
use Rattle.circuit.specs.Records.{circuit_record}
use Rattle.circuit.specs.Laws.{CircuitGood}
use Rattle.circuit.specs.declared.Circuit.{Circuit as CircuitRecord}
use Rattle.grading.specs.Buffers.{Buffers, buffers_of}
use Rattle.grading.specs.Promise.{Answer, is_graded}
use Rattle.grading.specs.CircuitPromise.{PromiseOfCircuit}
use Rattle.grade_file.specs.contracts.grade.grade_circuit as grade_circuit
use Rattle.grade_file.proofs.grade.grade_circuit.Reads as grade_circuit_reads
use Rattle.demands.specs.Calls.{Call, Kept, Accepts}
use Rattle.demands.specs.One.{RestKept}
use Rattle.demands.specs.Two.{MatrixCell, vector_of_cell, mark_in, CellsTell, ClassesTell, AlikeButVectors}
use Rattle.demands.specs.Three.{Refined, Three}
use Rattle.demands.specs.Rounds.{RoundsTold}

-- a call of `grade_circuit`: the circuit's record and the buffers that it was given; the answer, and the buffers as they are then
pub record CircuitCall : Type 0 where
  pub circuit : CircuitRecord
  pub before : Buffers
  pub answer : Answer
  pub after : Buffers

-- the promise of `grade_circuit` holds of it
abbrev pub CircuitKept : CircuitCall → Type 0
CircuitKept call = PromiseOfCircuit call.circuit call.before call.answer call.after

-- the circuit is the one that this file is read as
pub record CircuitOfFile (file : List ℕ) (call : CircuitCall) : Type 0 where
  pub read_as : Circuit
  pub accepts : Accepts file read_as
  pub is : call.circuit ≡ circuit_record read_as

-- a call of `grade` on the file with the same buffers and the same outcome
abbrev pub on_file : List ℕ → CircuitCall → Call
on_file file call = record { file = file; before = call.before; answer = call.answer; after = call.after }

-- it keeps the promise of `grade`, so that all three demands are on it
abbrev pub CircuitIsGradedAsFile : Type 0
CircuitIsGradedAsFile = (file : List ℕ) (call : CircuitCall) → CircuitOfFile file call → CircuitKept call → Kept (on_file file call)

pub record SameAnswer (one : CircuitCall) (other : Call) : Type 0 where
  pub answer : one.answer ≡ other.answer
  pub buffers : one.after ≡ other.after

-- and every call of `grade` on the file with the same buffers gives just that
abbrev pub CircuitAnswersAsFile : Type 0
CircuitAnswersAsFile =
    (one : CircuitCall) (other : Call) → CircuitKept one → Kept other → CircuitOfFile other.file one → one.before ≡ other.before
    → SameAnswer one other

-- ---- any good circuit, whether or not a file is read as it

-- a call that graded it
pub record CircuitGraded (call : CircuitCall) (c : Circuit) : Type 0 where
  pub good : CircuitGood c
  pub is : call.circuit ≡ circuit_record c
  pub kept : CircuitKept call
  pub graded : T (is_graded call.answer)

-- demand 2, the rounds, and that the rest of the buffers is kept. They do not look at the file of a call, for which none stands
pub record CircuitTold (call : CircuitCall) (c : Circuit) : Type 0 where
  pub cells : CellsTell (on_file [] call) c
  pub classes : ClassesTell (on_file [] call) c
  pub rounds : RoundsTold (on_file [] call) c
  pub rest : RestKept (on_file [] call) c

abbrev pub CircuitsMeetTwo : Type 0
CircuitsMeetTwo = (call : CircuitCall) (c : Circuit) → CircuitGraded call c → CircuitTold call c

abbrev pub CircuitColumnIsOfItsVector : Type 0
CircuitColumnIsOfItsVector =
    (one other : CircuitCall) (c d : Circuit) → CircuitGraded one c → CircuitGraded other d → AlikeButVectors c d
    → (cell : MatrixCell c) (its : MatrixCell d) → cell.row ≡ its.row → vector_of_cell cell ≡ vector_of_cell its
    → mark_in (on_file [] one) cell ≡ mark_in (on_file [] other) its

-- demand 3
abbrev pub CircuitsMeetThree : Type 0
CircuitsMeetThree =
    (one finer : CircuitCall) (c d : Circuit) → CircuitGraded one c → CircuitGraded finer d → AlikeButVectors c d
    → Refined c.vectors d.vectors → Three (on_file [] one) (on_file [] finer) c

-- ---- the code

-- the call with these arguments, this result, and what was lent, at exit
abbrev pub circuit_call_of : (κs : Lfts 2) → Args grade_circuit.signature κs → Answer → AtExit grade_circuit.ended κs → CircuitCall
circuit_call_of κs a r e = record {
  circuit = a.0;
  before = buffers_of a.1.0.now a.1.1.0.now;
  answer = r;
  after = buffers_of e.1.0.now e.1.1.0.now;
}

pub record GradeCircuitIsKept : Type 0 where
  pub keeps : (κs : Lfts 2) (a : Args grade_circuit.signature κs) (r : Answer) (e : AtExit grade_circuit.ended κs)
      → grade_circuit_reads.Learnt κs a r e → CircuitKept (circuit_call_of κs a r e)
