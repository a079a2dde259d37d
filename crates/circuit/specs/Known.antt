-- What is known of a circuit part of the way through its file, and what a field adds to it.
use Rattle.std.specs.Prelude.{ℕ, zero, suc, ◌+◌, ◌-◌, ◌*◌, ◌/◌, cond, List, [], ◌∷◌, ◌++◌, map, eqb, length, get_or, drop, set}
use Rattle.words.specs.Tables.{table}
use Rattle.switch.specs.Conduction.{Value, at0, at1, at_x, EdgeTag, by_position, stated, Edge, edges_for, channel_by, channel_of}
use Rattle.switch.specs.Modules.{ModuleType}
use Rattle.switch.specs.Bridges.{Bridge, nodes, input}
use Rattle.circuit.specs.Fields.{Field, two_bytes}
use Rattle.circuit.specs.Circuit.{Circuit, Instance, Listed, Reference, no_type}
use Rattle.circuit.specs.Numbers.{signed, choice_of, reference_of}
use Rattle.circuit.specs.Order.{Tag, inputs_tag, type_tag, edge_tag, bridge_tag, instance_tag, vector_tag, no_tag, tag_of, is_kind}
use Rattle.circuit.specs.Order.{Previous, start_of_file, after_tag}

-- what stands before the next field; the offset of the latest type's field; the circuit so far
pub record Known : Type 0 where
  pub previous : Previous
  pub type_at : ℕ
  pub circuit : Circuit

abbrev pub start : Known
start = record {
  previous = start_of_file;
  type_at = 0;
  circuit = record { inputs = 0; types = []; bridges = []; instances = []; vectors = [] };
}

-- ---- what a body says

unfoldable pub type_in : List ℕ → ModuleType
type_in body = record { highest = get_or body 0 0; output = get_or body 1 0; labels = get_or body 2 0; edges = [] }

-- how many edges a field with a body of this length tells: one for each byte behind its two nodes, or one
unfoldable pub edges_told : EdgeTag → ℕ → ℕ
edges_told by_position size = size - 2
edges_told stated size = 1

-- of an edge field, in a type with the output node o. Tag 3: one edge for each label, in order (02, "No more grouped transistors"), all
-- between the same two nodes, with the channel of their position. Tag 7: one edge, two nodes, its channel and its label (02, "Pass
-- transistors")
unfoldable pub edges_in : EdgeTag → ℕ → List ℕ → List Edge
edges_in by_position o body =
    let a = get_or body 0 0 in let b = get_or body 1 0 in edges_for a b (channel_of o a b) (drop 2 body)
edges_in stated o body =
    record {
      first = get_or body 0 0;
      second = get_or body 1 0;
      channel = channel_by (get_or body 2 0);
      label = get_or body 3 0;
      tag = stated;
    } ∷ []

-- kind 0 joins two nodes, kind 1 a node and a label
unfoldable pub bridge_of : ℕ → ℕ → ℕ → Bridge
bridge_of zero first second = nodes first second
bridge_of (suc kind) first second = input first second

unfoldable pub listed_in : List ℕ → Listed
listed_in body = record { list = get_or body 0 0; bridge = bridge_of (get_or body 1 0) (get_or body 2 0) (get_or body 3 0) }

-- one reference for each two bytes after the type number and the list choice
unfoldable pub references_in : List ℕ → List Reference
references_in body = table ((length body - 2) / 2) (λ (i : ℕ). reference_of (signed 32768 (two_bytes body (2 + 2 * i))))

unfoldable pub instance_in : List ℕ → Instance
instance_in body = record { type = get_or body 0 0; choice = choice_of (signed 128 (get_or body 1 0)); references = references_in body }

-- 0, 1 or X as ASCII 48, 49, 88
unfoldable pub letter_of : ℕ → Value
letter_of b = cond (eqb b 48) at0 (cond (eqb b 49) at1 at_x)

unfoldable pub vector_in : List ℕ → List Value
vector_in body = map letter_of body

-- ---- what a field adds

-- the latest type, with no edge where there is none
unfoldable pub latest : List ModuleType → ModuleType
latest types = get_or types (length types - 1) no_type

unfoldable pub with_edges : ModuleType → List Edge → ModuleType
with_edges t es = record { highest = t.highest; output = t.output; labels = t.labels; edges = t.edges ++ es }

unfoldable pub edges_added : List ModuleType → List Edge → List ModuleType
edges_added types es = set types (length types - 1) (with_edges (latest types) es)

unfoldable pub taken : Tag → Circuit → List ℕ → Circuit
taken inputs_tag c body =
    record { inputs = two_bytes body 0; types = c.types; bridges = c.bridges; instances = c.instances; vectors = c.vectors }
taken type_tag c body =
    record {
      inputs = c.inputs;
      types = c.types ++ (type_in body ∷ []);
      bridges = c.bridges;
      instances = c.instances;
      vectors = c.vectors;
    }
taken (edge_tag e) c body =
    record {
      inputs = c.inputs;
      types = edges_added c.types (edges_in e (latest c.types).output body);
      bridges = c.bridges;
      instances = c.instances;
      vectors = c.vectors;
    }
taken bridge_tag c body =
    record {
      inputs = c.inputs;
      types = c.types;
      bridges = c.bridges ++ (listed_in body ∷ []);
      instances = c.instances;
      vectors = c.vectors;
    }
taken instance_tag c body =
    record {
      inputs = c.inputs;
      types = c.types;
      bridges = c.bridges;
      instances = c.instances ++ (instance_in body ∷ []);
      vectors = c.vectors;
    }
taken vector_tag c body =
    record {
      inputs = c.inputs;
      types = c.types;
      bridges = c.bridges;
      instances = c.instances;
      vectors = c.vectors ++ (vector_in body ∷ []);
    }
taken no_tag c body = c

unfoldable pub type_at_after : Known → Field → ℕ
type_at_after known f = cond (is_kind type_tag (tag_of f.tag)) f.at known.type_at

unfoldable pub known_after : Known → Field → Known
known_after known f = record {
  previous = after_tag (tag_of f.tag);
  type_at = type_at_after known f;
  circuit = taken (tag_of f.tag) known.circuit f.body;
}
