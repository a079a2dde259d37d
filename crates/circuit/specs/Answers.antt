-- The promises of reading: what an answer of the code tells of a file, and the whole answer.
use Rattle.std.specs.Prelude.{◌≡◌}
use Rattle.circuit.specs.Table.{passes, refused_at}
use Rattle.circuit.specs.Reading.{Reading, accepted, refusal}
use Rattle.circuit.specs.Records.{circuit_record, empty_circuit}
use Rattle.circuit.specs.declared.Reading.{Reading as ReadingRecord}
use Rattle.circuit.specs.Refusals.{verdict_of}

-- what an answer tells: the refusal's number and place, or no refusal and exactly this circuit
unfoldable pub Tells : Reading → ReadingRecord → Type 0
Tells (accepted c) r = (verdict_of r.refusal ≡ passes) × (r.circuit ≡ circuit_record c)
Tells (refusal number place) r = verdict_of r.refusal ≡ refused_at number place

-- the whole answer: what it tells, and an empty circuit beside a refusal
unfoldable pub Answers : Reading → ReadingRecord → Type 0
Answers (accepted c) r = Tells (accepted c) r
Answers (refusal number place) r = Tells (refusal number place) r × (r.circuit ≡ circuit_record empty_circuit)
