-- The code's records of a circuit: arrays whose first places are used and whose other places hold a stated default.
use Rattle.std.specs.Prelude.{ℕ, List, [], map, length, get_or, replicate}
use Rattle.words.specs.Bits.{pack}
use Rattle.words.specs.Tables.{table}
use Rattle.switch.specs.Conduction.{Value, at_x}
use Rattle.switch.specs.Modules.{ModuleType, most_edges}
use Rattle.switch.specs.Bridges.{Bridge, nodes, input}
use Rattle.switch.specs.Records.{no_edge, edge_record}
pub use Rattle.switch.specs.Records.{unused_type}
use Rattle.switch.specs.Promises.{is_at0, is_at1}
use Rattle.switch.specs.declared.ModuleType.{ModuleType as TypeRecord}
use Rattle.circuit.specs.Limits.{most_types, most_bridges, most_instances, most_vectors}
use Rattle.circuit.specs.Circuit.{Circuit, Instance, Listed, Reference, primary, output_of, Choice, exhaustive, no_faults, list}
use Rattle.circuit.specs.Circuit.{fault_count}
use Rattle.circuit.specs.declared.Bridge.{Bridge as BridgeRecord}
use Rattle.circuit.specs.declared.Reference.{Reference as ReferenceRecord}
use Rattle.circuit.specs.declared.Reference.TheVariants.{Input, Earlier}
use Rattle.circuit.specs.declared.Instance.{Instance as InstanceRecord}
use Rattle.circuit.specs.declared.Vector.{Vector as VectorRecord}
use Rattle.circuit.specs.declared.Circuit.{Circuit as CircuitRecord}

-- a list in n places, the others at a default
unfoldable pub padded : {A : Type 0} → ℕ → A → List A → List A
padded n none as' = table n (λ (i : ℕ). get_or as' i none)

unfoldable pub type_record : ModuleType → TypeRecord
type_record t = record {
  highest = t.highest;
  output = t.output;
  labels = t.labels;
  count = length t.edges;
  edges = padded most_edges no_edge (map edge_record t.edges);
}

abbrev pub unused_bridge : BridgeRecord
unused_bridge = record { list = 0; kind = 0; first = 0; second = 0 }

unfoldable pub bridge_record_in : ℕ → Bridge → BridgeRecord
bridge_record_in list_number (nodes a b) = record { list = list_number; kind = 0; first = a; second = b }
bridge_record_in list_number (input m l) = record { list = list_number; kind = 1; first = m; second = l }

unfoldable pub bridge_record : Listed → BridgeRecord
bridge_record b = bridge_record_in b.list b.bridge

abbrev pub unused_reference : ReferenceRecord
unused_reference = Input 0

unfoldable pub reference_record : Reference → ReferenceRecord
reference_record (primary n) = Input n
reference_record (output_of i) = Earlier i

-- the number that a reference tells, of an input or of an instance
abbrev pub number_told : ReferenceRecord → ℕ
number_told (Input n) = n
number_told (Earlier i) = i

abbrev pub unused_instance : InstanceRecord
unused_instance = record { type_number = 0; choice = 0; references = replicate 12 unused_reference }

-- the byte of a list choice
unfoldable pub choice_byte : Choice → ℕ
choice_byte exhaustive = 255
choice_byte no_faults = 0
choice_byte (list n) = n

unfoldable pub instance_record : Instance → InstanceRecord
instance_record i = record {
  type_number = i.type;
  choice = choice_byte i.choice;
  references = padded 12 unused_reference (map reference_record i.references);
}

abbrev pub unused_vector : VectorRecord
unused_vector = record { ones = 0; zeros = 0 }

-- input i, from 0, is bit i of the inputs at 1, and of those at 0
unfoldable pub vector_record : List Value → VectorRecord
vector_record v = record {
  ones = pack (length v) (λ (i : ℕ). is_at1 (get_or v i at_x));
  zeros = pack (length v) (λ (i : ℕ). is_at0 (get_or v i at_x));
}

unfoldable pub circuit_record : Circuit → CircuitRecord
circuit_record c = record {
  inputs = c.inputs;
  type_count = length c.types;
  types = padded most_types unused_type (map type_record c.types);
  bridge_count = length c.bridges;
  bridges = padded most_bridges unused_bridge (map bridge_record c.bridges);
  instance_count = length c.instances;
  instances = padded most_instances unused_instance (map instance_record c.instances);
  faults = fault_count c.types c.bridges c.instances;
  vector_count = length c.vectors;
  vectors = padded most_vectors unused_vector (map vector_record c.vectors);
}

-- the record beside a refusal
abbrev pub empty_circuit : Circuit
empty_circuit = record { inputs = 0; types = []; bridges = []; instances = []; vectors = [] }
