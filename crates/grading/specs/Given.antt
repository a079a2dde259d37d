-- What the functions on a circuit or a reading ask of its record: that it comes from a file.
use Rattle.std.specs.Prelude.{ℕ, ◌≡◌, List}
use Rattle.circuit.specs.Circuit.{Circuit}
use Rattle.circuit.specs.Records.{circuit_record}
use Rattle.circuit.specs.Reading.{reading_of}
use Rattle.circuit.specs.Answers.{Tells}
use Rattle.circuit.specs.Laws.{CircuitGood}
use Rattle.circuit.specs.declared.Circuit.{Circuit as CircuitRecord}
use Rattle.circuit.specs.declared.Reading.{Reading as ReadingRecord}

-- a circuit that reading gives
pub record CircuitGiven (c : CircuitRecord) : Type 0 where
  pub circuit : Circuit
  pub is : c ≡ circuit_record circuit
  pub good : CircuitGood circuit

-- a reading that tells what some file says
pub record Read (reading : ReadingRecord) : Type 0 where
  pub file : List ℕ
  pub tells : Tells (reading_of file) reading
