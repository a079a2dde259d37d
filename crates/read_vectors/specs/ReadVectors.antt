-- What the function that reads vectors promises: the list that was read, how it stands in the record, and that the stage ended there.
use Rattle.std.specs.Prelude.{ℕ, ◌≤◌, ◌≡◌, List, [], map, length}
use Rattle.switch.specs.Conduction.{Value}
use Rattle.circuit.specs.Limits.{most_vectors}
use Rattle.circuit.specs.Fields.{cut_from}
use Rattle.circuit.specs.Records.{padded, unused_vector, vector_record}
use Rattle.circuit.specs.Refusals.{verdict_of}
use Rattle.circuit.specs.Stages.{stage_of, vector_stage}
use Rattle.read_vectors.specs.declared.Vectors.{Vectors}

-- the vectors from an offset on
pub record VectorsRead (file : List ℕ) (from P : ℕ) (r : Vectors) : Type 0 where
  pub vectors : List (List Value)
  pub stage : vector_stage P [] (cut_from file from) ≡ stage_of (verdict_of r.refusal) vectors (cut_from file r.at)
  pub place : r.at ≤ length file
  pub within : length vectors ≤ most_vectors
  pub count : r.count ≡ length vectors
  pub all : r.all ≡ padded most_vectors unused_vector (map vector_record vectors)
