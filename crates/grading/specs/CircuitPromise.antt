-- The promise of `grade_circuit`: that of `grade` with a circuit in place of the file.
use Rattle.std.specs.Prelude.{◌≡◌}
use Rattle.circuit.specs.Circuit.{Circuit}
use Rattle.circuit.specs.Records.{circuit_record}
use Rattle.circuit.specs.Laws.{CircuitGood}
use Rattle.circuit.specs.declared.Circuit.{Circuit as CircuitRecord}
use Rattle.grading.specs.Buffers.{Buffers, room_of}
use Rattle.grading.specs.Grading.{grading_of_circuit}
use Rattle.grading.specs.Promise.{Answer, AnswersAs}

-- for every good circuit that the record tells
abbrev pub PromiseOfCircuit : CircuitRecord → Buffers → Answer → Buffers → Type 0
PromiseOfCircuit c before answer after =
    (meant : Circuit) → c ≡ circuit_record meant → CircuitGood meant
    → AnswersAs (grading_of_circuit meant (room_of before)) answer before after
