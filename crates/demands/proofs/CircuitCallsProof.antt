-- Grading a circuit gives what grading a file does that is read as it (specs/CircuitCalls): the circuit's promise is the file's. And it
-- meets demands 2 and 3 without a file: what they rest on is what the call gave.
use mathlib.Core.Path.{refl, subst}
use mathlib.Core.List.{[]}
use Rattle.circuit.specs.Circuit.{Circuit}
use Rattle.circuit.specs.declared.Circuit.{Circuit as CircuitRecord}
use Rattle.grading.specs.CircuitPromise.{PromiseOfCircuit}
use Rattle.grading.proofs.PromiseLaws.{circuit-promise-is-files}
use Rattle.demands.specs.CircuitCalls.{CircuitCall, on_file, CircuitGraded, CircuitIsGradedAsFile, CircuitAnswersAsFile, GradeCircuitIsKept}
use Rattle.demands.specs.CircuitCalls.{CircuitsMeetTwo, CircuitColumnIsOfItsVector, CircuitsMeetThree}
use Rattle.demands.proofs.Gave.{Gave, gave_of_circuit, rounds_given_lem}
use Rattle.demands.proofs.OneProof.{rest-kept}
use Rattle.demands.proofs.Cells.{cells_tell}
use Rattle.demands.proofs.Columns.{same-column}
use Rattle.demands.proofs.ClassCounts.{classes_tell}
use Rattle.demands.proofs.Refining.{three_stands}
use Rattle.demands.proofs.Outcomes.{one_outcome_only}

pub circuit_is_graded_as_file : CircuitIsGradedAsFile
circuit_is_graded_as_file file call of kept =
    circuit-promise-is-files file of.read_as of.accepts call.before call.after call.answer
    (subst (λ (m : CircuitRecord). PromiseOfCircuit m call.before call.answer call.after) of.is kept)

pub circuit_answers_as_file : CircuitAnswersAsFile
circuit_answers_as_file one other kept kept' of before =
    let same = one_outcome_only (on_file other.file one) other (circuit_is_graded_as_file other.file one of kept) kept' refl before in
    record { answer = same.answer; buffers = same.buffers }

-- ---- any good circuit

gave_there : (call : CircuitCall) (c : Circuit) → CircuitGraded call c → Gave (on_file [] call) c
gave_there call c given = gave_of_circuit (on_file [] call) c given.good (given.kept c given.is given.good) given.graded

pub circuits_meet_two : CircuitsMeetTwo
circuits_meet_two call c given =
    let here = gave_there call c given in
    record { cells = cells_tell _ c here; classes = classes_tell _ c here; rounds = rounds_given_lem _ c here; rest = rest-kept _ c here }

pub circuit_column_is_of_its_vector : CircuitColumnIsOfItsVector
circuit_column_is_of_its_vector one other c d given given' = same-column _ _ c d (gave_there one c given) (gave_there other d given')

pub circuits_meet_three : CircuitsMeetThree
circuits_meet_three one finer c d given given' = three_stands _ _ c d (gave_there one c given) (gave_there finer d given')

-- ---- the code

pub grade_circuit_is_kept : GradeCircuitIsKept
grade_circuit_is_kept = record { keeps = λ κs a r e kept. kept }
