-- The code's records in the words of Conduction and Modules: an edge record, a module type, planes of labels, and what a record must be to
-- be one of 01's.
use Rattle.std.specs.Prelude.{ℕ, zero, suc, ◌+◌, ◌-◌, ◌*◌, ◌/◌, ◌%◌, ◌^◌, ◌≤◌, Bool, true, false, List, map, T}
use Rattle.std.specs.Prelude.{length, take, get_or, replicate}
use Rattle.words.specs.Bits.{bit}
use Rattle.switch.specs.Conduction.{Value, at0, at1, at_x, Channel, channel_p, channel_n, channel_bit, channel_by, Switching}
use Rattle.switch.specs.Conduction.{EdgeTag, by_position, stated, Edge}
use Rattle.switch.specs.Modules.{ModuleType, most_edges, in_range}
use Rattle.switch.specs.declared.Edge.{Edge as EdgeRecord}
use Rattle.switch.specs.declared.ModuleType.{ModuleType as TypeRecord}

-- the gate of an edge, what switches it, as one number below 32: its label, which is 0 to 11, and 16 more in a p-channel edge
unfoldable pub gate_of : Edge → ℕ
gate_of e = e.label + 16 * channel_bit e.channel

-- the bit that tells the tag of an edge, and the tag that a bit tells
unfoldable pub tag_bit : EdgeTag → ℕ
tag_bit by_position = 0
tag_bit stated = 1

unfoldable pub tag_by : ℕ → EdgeTag
tag_by zero = by_position
tag_by (suc b) = stated

-- an edge is one number, from its lowest bit: five bits for the first node, five for the second, five for the gate, one for the tag
unfoldable pub edge_record : Edge → EdgeRecord
edge_record e = record { code = e.first + 32 * e.second + 1024 * gate_of e + 32768 * tag_bit e.tag }

abbrev pub first_node_in : EdgeRecord → ℕ
first_node_in r = r.code % 32

abbrev pub second_node_in : EdgeRecord → ℕ
second_node_in r = r.code / 32 % 32

abbrev pub gate_in : EdgeRecord → ℕ
gate_in r = r.code / 1024 % 32

abbrev pub label_in : EdgeRecord → ℕ
label_in r = gate_in r % 16

abbrev pub channel_in : EdgeRecord → Channel
channel_in r = channel_by (gate_in r / 16)

abbrev pub tag_in : EdgeRecord → EdgeTag
tag_in r = tag_by (r.code / 32768)

-- the edge of a record
unfoldable pub edge_of : EdgeRecord → Edge
edge_of r = record { first = first_node_in r; second = second_node_in r; channel = channel_in r; label = label_in r; tag = tag_in r }

-- what stands in the places of a type that no edge fills, and past the end of a list of edge records. It is no edge of a file: its ends are
-- equal
abbrev pub no_edge : EdgeRecord
no_edge = record { code = 0 }

-- what stands in the unused places for types
abbrev pub unused_type : TypeRecord
unused_type = record { highest = 0; output = 0; labels = 0; count = 0; edges = replicate most_edges no_edge }

unfoldable pub edges_of : List EdgeRecord → List Edge
edges_of rs = map edge_of rs

-- the module type of a record: of its places for edges the first `count` are used
unfoldable pub type_of : TypeRecord → ModuleType
type_of r = record { highest = r.highest; output = r.output; labels = r.labels; edges = edges_of (take r.count r.edges) }

-- the module type of three numbers, highest node, output and labels, and of a list of edge records
unfoldable pub type_with : ℕ → ℕ → ℕ → List EdgeRecord → ModuleType
type_with h o k rs = record { highest = h; output = o; labels = k; edges = edges_of rs }

-- counts within the places, numbers within 01's ranges; refusals 8 and 9 are not asked
pub record TypeGiven (r : TypeRecord) : Type 0 where
  pub places : r.count ≤ most_edges
  pub ranges : T (in_range (type_of r))

-- the same of three numbers and a list of edge records
pub record EdgesGiven (h o k : ℕ) (rs : List EdgeRecord) : Type 0 where
  pub places : length rs ≤ most_edges
  pub ranges : T (in_range (type_with h o k rs))

-- a value from its bit in the known-1 plane and in the known-0 plane. No file gives both; taken as 1, every pair of bits has a meaning
unfoldable pub value_of : ℕ → ℕ → Value
value_of (suc b) other = at1
value_of zero (suc b) = at0
value_of zero zero = at_x

-- a bit as a truth value
unfoldable pub is_set : ℕ → Bool
is_set zero = false
is_set (suc b) = true

-- a word with each of its 64 bits turned
abbrev pub complement : ℕ → ℕ
complement w = (2 ^ 64 - 1) - w

-- what two planes of the labels switch on under vector v, each plane read alone: p where the known-0 plane has a 1, n where the known-1
-- plane has. Any two planes will do: where both have a 1, both are on
unfoldable pub by_planes : List ℕ → List ℕ → ℕ → Switching
by_planes ones zeros v channel_p l = is_set (bit (get_or zeros l 0) v)
by_planes ones zeros v channel_n l = is_set (bit (get_or ones l 0) v)
