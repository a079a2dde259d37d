-- The promise of `read_stages`, of which a vector is wanted or not: what it tells, and beside a refusal what was read before it. Of an
-- accepted file that is its circuit (`BeforeIsCircuit` in the crate `circuit`).
use Rattle.std.specs.Prelude.{ℕ, ◌≡◌, Bool, List}
use Rattle.circuit.specs.Reading.{reading_with}
use Rattle.circuit.specs.Records.{circuit_record}
use Rattle.circuit.specs.Answers.{Tells}
use Rattle.circuit.specs.Before.{read_before}
use Rattle.circuit.specs.declared.Reading.{Reading as ReadingRecord}

pub record ReadByStages (wanted : Bool) (file : List ℕ) (r : ReadingRecord) : Type 0 where
  pub tells : Tells (reading_with wanted file) r
  pub circuit : r.circuit ≡ circuit_record (read_before file)
