-- The reading that the code's record of one tells, and its listing. Every record tells one, also a record that no file gives.
use Rattle.std.specs.Prelude.{ℕ, zero, suc, min, cond, ◌≡◌, List, map, eqb, take}
use Rattle.words.specs.Bits.{bit}
use Rattle.words.specs.Tables.{table}
use Rattle.switch.specs.Conduction.{Value}
use Rattle.switch.specs.Modules.{ModuleType}
use Rattle.switch.specs.Bridges.{Bridge, nodes, input}
use Rattle.switch.specs.Records.{type_of, value_of}
use Rattle.circuit.specs.Circuit.{Circuit, Instance, Listed, numbered, no_type}
use Rattle.circuit.specs.Circuit.{Reference, primary, output_of, Choice, exhaustive, no_faults, list}
use Rattle.circuit.specs.Reading.{Reading, accepted, unless, reading_of}
use Rattle.circuit.specs.Records.{circuit_record}
use Rattle.circuit.specs.Refusals.{verdict_of}
use Rattle.circuit.specs.Answers.{Tells}
use Rattle.circuit.specs.Before.{read_before}
use Rattle.circuit.specs.declared.Bridge.{Bridge as BridgeRecord}
use Rattle.circuit.specs.declared.Circuit.{Circuit as CircuitRecord}
use Rattle.circuit.specs.declared.Instance.{Instance as InstanceRecord}
use Rattle.circuit.specs.declared.Reading.{Reading as ReadingRecord}
use Rattle.circuit.specs.declared.Reference.{Reference as ReferenceRecord}
use Rattle.circuit.specs.declared.Reference.TheVariants.{Input, Earlier}
use Rattle.circuit.specs.declared.Vector.{Vector as VectorRecord}
use Rattle.print_circuit.specs.Listing.{listing_of, listing_of_file}

-- kind 0 is between two nodes, any other between a node and a label
unfoldable pub bridge_told : ℕ → ℕ → ℕ → Bridge
bridge_told zero first second = nodes first second
bridge_told (suc kind) first second = input first second

unfoldable pub listed_told : BridgeRecord → Listed
listed_told r = record { list = r.list; bridge = bridge_told r.kind r.first r.second }

-- byte 255 is -1
unfoldable pub choice_told : ℕ → Choice
choice_told zero = no_faults
choice_told (suc n) = cond (eqb (suc n) 255) exhaustive (list (suc n))

unfoldable pub reference_told : ReferenceRecord → Reference
reference_told (Input n) = primary n
reference_told (Earlier i) = output_of i

-- with so many references
unfoldable pub instance_with : ℕ → InstanceRecord → Instance
instance_with count r = record {
  type = r.type_number;
  choice = choice_told r.choice;
  references = map reference_told (take count r.references);
}

-- an instance has as many references as its type has labels
unfoldable pub instance_told : List ModuleType → InstanceRecord → Instance
instance_told types r = instance_with (numbered types r.type_number no_type).labels r

-- a vector has a value for each primary input, of which its record has at most 64
unfoldable pub vector_told : ℕ → VectorRecord → List Value
vector_told inputs r = table (min inputs 64) (λ (i : ℕ). value_of (bit r.ones i) (bit r.zeros i))

-- of each array the first places are used, as many as its count says
unfoldable pub types_told : CircuitRecord → List ModuleType
types_told r = map type_of (take r.type_count r.types)

unfoldable pub circuit_told : CircuitRecord → Circuit
circuit_told r = record {
  inputs = r.inputs;
  types = types_told r;
  bridges = map listed_told (take r.bridge_count r.bridges);
  instances = map (instance_told (types_told r)) (take r.instance_count r.instances);
  vectors = map (vector_told r.inputs) (take r.vector_count r.vectors);
}

unfoldable pub reading_told : ReadingRecord → Reading
reading_told r = unless (verdict_of r.refusal) (accepted (circuit_told r.circuit))

-- the listing of what a record tells
unfoldable pub listing_told : ReadingRecord → List (List ℕ)
listing_told r = listing_of (circuit_told r.circuit) (reading_told r)

-- the record that reading gives of a file tells what the file says
abbrev pub ToldIsReading : Type 0
ToldIsReading = (file : List ℕ) (r : ReadingRecord) → Tells (reading_of file) r → reading_told r ≡ reading_of file

-- and what was read of it, and so its listing
abbrev pub ToldIsListing : Type 0
ToldIsListing =
    (file : List ℕ) (r : ReadingRecord) → Tells (reading_of file) r → r.circuit ≡ circuit_record (read_before file)
    → listing_told r ≡ listing_of_file file
