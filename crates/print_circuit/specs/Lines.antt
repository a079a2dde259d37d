-- docs/SHOW.md: the lines of a listing. A line is a word and then its fields, each behind one space; it ends with byte 10.
use Rattle.std.specs.Prelude.{ℕ, zero, suc, List, ◌++◌, map}
use Rattle.print_lines.specs.Ascii.{bytes_of}
use Rattle.print_lines.specs.Decimal.{decimal}
use Rattle.print_lines.specs.Lines.{space, newline}
use Rattle.switch.specs.Conduction.{Value, at0, at1, at_x, Channel, channel_p, channel_n, EdgeTag, by_position, stated, Edge}
use Rattle.switch.specs.Modules.{ModuleType}
use Rattle.switch.specs.Bridges.{Bridge, nodes, input}
use Rattle.circuit.specs.Circuit.{Reference, primary, output_of, Choice, exhaustive, no_faults, list, Instance, Listed, join_lists}

-- a number behind a space
unfoldable pub spaced : ℕ → List ℕ
spaced n = space ++ decimal n

-- inputs P
unfoldable pub inputs_line : ℕ → List ℕ
inputs_line inputs = bytes_of "inputs" ++ spaced inputs ++ newline

-- type N h o k
unfoldable pub type_line : ℕ → ModuleType → List ℕ
type_line number t = bytes_of "type" ++ spaced number ++ spaced t.highest ++ spaced t.output ++ spaced t.labels ++ newline

-- p for p-channel, n for n-channel
unfoldable pub channel_text : Channel → List ℕ
channel_text channel_p = bytes_of " p"
channel_text channel_n = bytes_of " n"

-- edge A B L, of an edge that came with tag 3
-- pass A B n L or pass A B p L, of one that came with tag 7, which states the channel
unfoldable pub edge_line_by : EdgeTag → Edge → List ℕ
edge_line_by by_position e = bytes_of "edge" ++ spaced e.first ++ spaced e.second ++ spaced e.label ++ newline
edge_line_by stated e =
    bytes_of "pass" ++ spaced e.first ++ spaced e.second ++ channel_text e.channel ++ spaced e.label ++ newline

unfoldable pub edge_line : Edge → List ℕ
edge_line e = edge_line_by e.tag e

-- n for kind 0, i for kind 1
unfoldable pub kind_text : ℕ → List ℕ
kind_text zero = bytes_of " n"
kind_text (suc kind) = bytes_of " i"

-- a bridge between two nodes is of kind 0, one between a node and a label of kind 1
unfoldable pub ends_text : Bridge → List ℕ
ends_text (nodes a b) = kind_text 0 ++ spaced a ++ spaced b
ends_text (input m l) = kind_text 1 ++ spaced m ++ spaced l

-- bridge N and its ends
unfoldable pub bridge_line : Listed → List ℕ
bridge_line b = bytes_of "bridge" ++ spaced b.list ++ ends_text b.bridge ++ newline

-- -1 the exhaustive list, 0 no faults, else the list's number
unfoldable pub choice_text : Choice → List ℕ
choice_text exhaustive = bytes_of " -1"
choice_text no_faults = bytes_of " 0"
choice_text (list n) = spaced n

-- R a primary input, -I the output of instance I
unfoldable pub reference_text : Reference → List ℕ
reference_text (primary n) = spaced n
reference_text (output_of i) = bytes_of " -" ++ decimal i

-- instance N T C R ..
unfoldable pub instance_line : ℕ → Instance → List ℕ
instance_line number i =
    bytes_of "instance" ++ spaced number ++ spaced i.type ++ choice_text i.choice ++ join_lists (map reference_text i.references)
    ++ newline

-- the letter of a value: 0, 1 or X
unfoldable pub value_letter : Value → ℕ
value_letter at0 = 48
value_letter at1 = 49
value_letter at_x = 88

-- vector N V
unfoldable pub vector_line : ℕ → List Value → List ℕ
vector_line number v = bytes_of "vector" ++ spaced number ++ space ++ map value_letter v ++ newline
