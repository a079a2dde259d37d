-- An edge field of a type: the verdict on it, the edges in it, and what becomes of the type's record.
use Rattle.std.specs.Prelude.{ℕ, suc, ◌+◌, ◌<◌, ◌≤◌, ◌≡◌, List, [], ◌∷◌, map, length, get_or, set, Some, Result, Ok, Err}
use Rattle.switch.specs.Conduction.{EdgeTag, stated, channel_by, Edge}
use Rattle.switch.specs.Modules.{most_edges}
use Rattle.switch.specs.Records.{edge_record}
use Rattle.switch.specs.declared.Edge.{Edge as EdgeRecord}
use Rattle.switch.specs.declared.ModuleType.{ModuleType as TypeRecord}
use Rattle.circuit.specs.Order.{tag_of, edge_tag_of}
use Rattle.circuit.specs.Known.{edges_in}
use Rattle.circuit.specs.Table.{Verdict, passes, first_of, edge_tests_of}
use Rattle.circuit.specs.Refusals.{verdict_of}
use Rattle.circuit.specs.declared.refusal.Refusal.{Refusal}
use Rattle.read_fields.specs.declared.Field.{Field as FieldRecord}

-- the tag of an edge field
abbrev pub edge_tag_told : FieldRecord → EdgeTag
edge_tag_told f = edge_tag_of (tag_of f.tag)

-- the verdict on a field with this tag, in a type as far as it is read
abbrev pub verdict_as : EdgeTag → TypeRecord → FieldRecord → Verdict
verdict_as tag t f = first_of (edge_tests_of tag t.highest t.output t.labels t.count f.at f.body.now)

-- the edges in it, as the code keeps them
abbrev pub edges_as : EdgeTag → TypeRecord → FieldRecord → List EdgeRecord
edges_as tag t f = map edge_record (edges_in tag t.output f.body.now)

-- the edge of a pass transistor, whichever node is its type's output
abbrev pub pass_edge : List ℕ → Edge
pass_edge body = record {
  first = get_or body 0 0;
  second = get_or body 1 0;
  channel = channel_by (get_or body 2 0);
  label = get_or body 3 0;
  tag = stated;
}

-- records stored one behind the other, from a place on
unfoldable pub placed : List EdgeRecord → ℕ → List EdgeRecord → List EdgeRecord
placed places at [] = places
placed places at (e ∷ es) = placed (set places at e) (suc at) es

-- a type's record with edges behind its own
unfoldable pub with_placed : TypeRecord → List EdgeRecord → TypeRecord
with_placed t es = record {
  highest = t.highest;
  output = t.output;
  labels = t.labels;
  count = t.count + length es;
  edges = placed t.edges t.count es;
}

-- a type whose edges have room in their codes and in its places
pub record HasRoom (t : TypeRecord) : Type 0 where
  pub nodes : t.highest < 32
  pub labels : t.labels ≤ 12
  pub places : t.count ≤ most_edges

-- a field with this tag judged: it is refused with the verdict of its tests, or its edges stand behind those that the type had
abbrev pub EdgesAdded : EdgeTag → FieldRecord → TypeRecord → TypeRecord → Result (Unit {0}) Refusal → Type 0
EdgesAdded tag f old new (Ok done) = (verdict_as tag old f ≡ passes) × (new ≡ with_placed old (edges_as tag old f))
EdgesAdded tag f old new (Err why) = verdict_as tag old f ≡ verdict_of (Some why)
