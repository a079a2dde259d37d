-- How a file begins, and the answer of reading put together from what the stages have read.
use Rattle.std.specs.Prelude.{ℕ, ◌≤◌, ◌≡◌, Bool, List, length, Option}
use Rattle.circuit.specs.Fields.{cut_from}
use Rattle.circuit.specs.Reading.{reading_with, unless}
use Rattle.circuit.specs.Refusals.{verdict_of}
use Rattle.circuit.specs.Stages.{after_inputs, gathered_from, gathered_of}
use Rattle.circuit.specs.declared.Reading.{Reading as ReadingRecord}
use Rattle.circuit.specs.declared.refusal.Refusal.{Refusal}
use Rattle.read_types.specs.declared.types.Types.{Types}
use Rattle.read_bridges.specs.declared.Bridges.{Bridges}
use Rattle.read_instances.specs.declared.Instances.{Instances}
use Rattle.read_file.specs.declared.read.Start.{Start}
use Rattle.read_vectors.specs.declared.Vectors.{Vectors}

-- what a file reads as: the refusal of its start, or, where that passes, what the rest reads as from this place on with this many inputs;
-- and what the stages gather from there
pub record StartRead (wanted : Bool) (file : List ℕ) (r : Start) : Type 0 where
  pub reads : reading_with wanted file
      ≡ unless (verdict_of r.refusal) (after_inputs wanted (length file) r.inputs (cut_from file r.at))
  pub gathered : gathered_of file ≡ gathered_from r.inputs (cut_from file r.at)
  pub place : r.at ≤ length file
  pub few : r.inputs ≤ 64

abbrev pub whole_of : Option Refusal → ℕ → Types → Bridges → Instances → Vectors → ReadingRecord
whole_of why P t b i v = record {
  refusal = why;
  circuit = record {
    inputs = P;
    type_count = t.count;
    types = t.all;
    bridge_count = b.count;
    bridges = b.all;
    instance_count = i.count;
    instances = i.all;
    faults = i.faults;
    vector_count = v.count;
    vectors = v.all;
  };
}
