-- Circuit files put together field by field (01, "The circuit file"), for the known results and for the wrong graders.
use Rattle.std.specs.Prelude.{ℕ, ◌+◌, ◌-◌, ◌/◌, ◌%◌, List, [], ◌∷◌, ◌++◌, map, length, replicate}
use Prim.Native.String.{String}
use Rattle.words.specs.Tables.{table}
use Rattle.print_lines.specs.Ascii.{bytes_of}
use Rattle.switch.specs.Bridges.{Bridge, nodes, input}
use Rattle.circuit.specs.Circuit.{Reference, primary, output_of, Choice, exhaustive, no_faults, list, join_lists}
use Rattle.circuit.specs.Records.{choice_byte}

-- two bytes, high byte first
abbrev pub two_bytes_of : ℕ → List ℕ
two_bytes_of n = n / 256 ∷ n % 256 ∷ []

abbrev pub field_bytes : ℕ → List ℕ → List ℕ
field_bytes tag body = tag ∷ two_bytes_of (length body) ++ body

abbrev pub inputs_field : ℕ → List ℕ
inputs_field inputs = field_bytes 1 (two_bytes_of inputs)

abbrev pub type_field : ℕ → ℕ → ℕ → List ℕ
type_field h o k = field_bytes 2 (h ∷ o ∷ k ∷ [])

abbrev pub edge_field : ℕ → ℕ → List ℕ → List ℕ
edge_field a b labels = field_bytes 3 (a ∷ b ∷ labels)

-- 02, "Pass transistors": channel 0 n, 1 p
abbrev pub pass_field : ℕ → ℕ → ℕ → ℕ → List ℕ
pass_field a b channel label = field_bytes 7 (a ∷ b ∷ channel ∷ label ∷ [])

abbrev pub bridge_field : ℕ → Bridge → List ℕ
bridge_field number (nodes a b) = field_bytes 4 (number ∷ 0 ∷ a ∷ b ∷ [])
bridge_field number (input m l) = field_bytes 4 (number ∷ 1 ∷ m ∷ l ∷ [])

-- numbers below zero in two's complement
abbrev pub reference_bytes : Reference → List ℕ
reference_bytes (primary n) = two_bytes_of n
reference_bytes (output_of i) = two_bytes_of (65536 - i)

abbrev pub instance_field : ℕ → Choice → List Reference → List ℕ
instance_field type choice references = field_bytes 5 (type ∷ choice_byte choice ∷ join_lists (map reference_bytes references))

-- a vector as a text of 0, 1 and X
abbrev pub vector_field : String → List ℕ
vector_field vector = field_bytes 6 (bytes_of vector)

abbrev pub vector_fields : List String → List ℕ
vector_fields vectors = join_lists (map vector_field vectors)

-- fields that stand in a file so many times
abbrev pub times : ℕ → List ℕ → List ℕ
times n fields = join_lists (replicate n fields)

-- ---- 01's types

-- h=2, o=2, k=1; edges 1-2 and 0-2, label 0
abbrev pub inverter_fields : List ℕ
inverter_fields = type_field 2 2 1 ++ edge_field 1 2 (0 ∷ []) ++ edge_field 0 2 (0 ∷ [])

-- h=3, o=2, k=2; edge 1-2 with labels 0 and 1; edge 2-3 label 0; edge 3-0 label 1
abbrev pub nand_fields : List ℕ
nand_fields = type_field 3 2 2 ++ edge_field 1 2 (0 ∷ 1 ∷ []) ++ edge_field 2 3 (0 ∷ []) ++ edge_field 3 0 (1 ∷ [])

-- a NOR: h=3, o=3, k=2; edge 1-2 label 0; edge 2-3 label 1; edge 0-3 with labels 0 and 1
abbrev pub nor_fields : List ℕ
nor_fields = type_field 3 3 2 ++ edge_field 1 2 (0 ∷ []) ++ edge_field 2 3 (1 ∷ []) ++ edge_field 0 3 (0 ∷ 1 ∷ [])

-- a NAND of three: h=4, o=2, k=3; from ground up 0-4 label 2; 3-4 label 1; 2-3 label 0; then 1-2 with labels 0, 1 and 2
abbrev pub nand3_fields : List ℕ
nand3_fields =
    type_field 4 2 3 ++ edge_field 0 4 (2 ∷ []) ++ edge_field 3 4 (1 ∷ []) ++ edge_field 2 3 (0 ∷ []) ++ edge_field 1 2 (0 ∷ 1 ∷ 2 ∷ [])

-- two branches from supply to the output: h=5, o=4, k=4; edges 1-2 label 0, 2-4 label 1; 1-3 label 2, 3-4 label 3;
-- then 4-5 with labels 0 and 1, 5-0 with labels 2 and 3
abbrev pub branches_fields : List ℕ
branches_fields =
    type_field 5 4 4 ++ edge_field 1 2 (0 ∷ []) ++ edge_field 2 4 (1 ∷ []) ++ edge_field 1 3 (2 ∷ []) ++ edge_field 3 4 (3 ∷ [])
    ++ edge_field 4 5 (0 ∷ 1 ∷ []) ++ edge_field 5 0 (2 ∷ 3 ∷ [])

-- 02, "Pass transistors". A multiplexer of two inputs: h=4, o=4, k=3; label 0 is a, 1 is b, 2 is the select. An inverter of a, with its
-- output at node 2, and four pass transistors: two that bring b to node 3, from supply where b is 1 and from ground where it is 0; and one
-- from each of the nodes 2 and 3 to the output, n-channel from 2, so that it is on where the select is 1, and p-channel from 3. A node
-- drives no gate, so the complement of a label is had by the channel alone
abbrev pub mux_fields : List ℕ
mux_fields =
    type_field 4 4 3 ++ edge_field 1 2 (0 ∷ []) ++ pass_field 0 2 0 0 ++ pass_field 1 3 0 1 ++ pass_field 0 3 1 1
    ++ pass_field 2 4 0 2 ++ pass_field 3 4 1 2

-- that multiplexer with a transmission gate in place of each of the last two transistors, and the select's complement as label 3: h=4, o=4,
-- k=4. Nothing says that label 3 is the complement: where it equals label 2 both gates conduct, and join supply to ground where a = b
abbrev pub gated_mux_fields : List ℕ
gated_mux_fields =
    type_field 4 4 4 ++ edge_field 1 2 (0 ∷ []) ++ pass_field 0 2 0 0 ++ pass_field 1 3 0 1 ++ pass_field 0 3 1 1
    ++ pass_field 2 4 0 2 ++ pass_field 2 4 1 3 ++ pass_field 3 4 0 3 ++ pass_field 3 4 1 2

-- an inverter of label 0 at node 2, and from there to the output 4 two transmission gates in a row, through node 3. Both transistors of a
-- gate have label 1, so that one of them is on: h=4, o=4, k=2
abbrev pub gates_fields : List ℕ
gates_fields =
    type_field 4 4 2 ++ pass_field 1 2 1 0 ++ pass_field 0 2 0 0 ++ pass_field 2 3 0 1 ++ pass_field 2 3 1 1 ++ pass_field 3 4 0 1
    ++ pass_field 3 4 1 1

-- an inverter, and beside it two transistors from supply to ground through node 3, of these channels, all at label 0: h=3, o=2, k=1. With
-- two different channels they are never on at once; with two equal ones they are under one setting
abbrev pub beside_fields : ℕ → ℕ → List ℕ
beside_fields upper lower =
    type_field 3 2 1 ++ edge_field 1 2 (0 ∷ []) ++ edge_field 0 2 (0 ∷ []) ++ pass_field 1 3 upper 0 ++ pass_field 3 0 lower 0

-- the edges of an inverter, by tag 7
abbrev pub pass_inverter_fields : List ℕ
pass_inverter_fields = pass_field 1 2 1 0 ++ pass_field 0 2 0 0

-- the output follows label 0: n-channel from supply, p-channel from ground
abbrev pub follower_fields : List ℕ
follower_fields = type_field 2 2 1 ++ pass_field 1 2 0 0 ++ pass_field 0 2 1 0

-- ---- files with one instance, or two

-- one instance of a type, each label on an input of its own; with the exhaustive list, or with the user list 1 of some bridges
abbrev pub one_under : ℕ → List ℕ → List String → List ℕ
one_under inputs type vectors =
    inputs_field inputs ++ type ++ instance_field 1 exhaustive (table inputs (λ (l : ℕ). primary (l + 1))) ++ vector_fields vectors

abbrev pub one_listed : ℕ → List ℕ → List Bridge → List String → List ℕ
one_listed inputs type bridges vectors =
    inputs_field inputs ++ type ++ join_lists (map (bridge_field 1) bridges)
    ++ instance_field 1 (list 1) (table inputs (λ (l : ℕ). primary (l + 1)))
    ++ vector_fields vectors

abbrev pub inverter_under : List String → List ℕ
inverter_under vectors = one_under 1 inverter_fields vectors

-- 01's example
abbrev pub inverter : List ℕ
inverter = inverter_under ("0" ∷ "1" ∷ "X" ∷ [])

abbrev pub inverter_listed : List Bridge → List String → List ℕ
inverter_listed bridges vectors = one_listed 1 inverter_fields bridges vectors

abbrev pub nand_under : List String → List ℕ
nand_under vectors = one_under 2 nand_fields vectors

abbrev pub nand_listed : List Bridge → List String → List ℕ
nand_listed bridges vectors = one_listed 2 nand_fields bridges vectors

abbrev pub nor_under : List String → List ℕ
nor_under vectors = one_under 2 nor_fields vectors

-- document 002's example: the nodes 2 and 3 of the two branches, and label 3; each with both rails, and node 2 with the two others
abbrev pub branches : List ℕ
branches =
    one_listed 4 branches_fields
    (nodes 0 2 ∷ nodes 1 2 ∷ nodes 0 3 ∷ nodes 1 3 ∷ nodes 2 3 ∷ input 0 3 ∷ input 1 3 ∷ input 2 3 ∷ [])
    ("0101" ∷ "1001" ∷ "0110" ∷ "1110" ∷ [])

-- an inverter from input a, then a NAND of a and the inverter's output; the NAND has the exhaustive list
abbrev pub inverter_then_nand : List String → List ℕ
inverter_then_nand vectors =
    inputs_field 1 ++ inverter_fields ++ nand_fields ++ instance_field 1 no_faults (primary 1 ∷ [])
    ++ instance_field 2 exhaustive (primary 1 ∷ output_of 1 ∷ []) ++ vector_fields vectors

-- both labels of a NAND on input 1
abbrev pub nand_of_one : List String → List ℕ
nand_of_one vectors = inputs_field 1 ++ nand_fields ++ instance_field 1 exhaustive (primary 1 ∷ primary 1 ∷ []) ++ vector_fields vectors

-- a type of h=2, o=2, k=2 with these edges, and an instance of it
abbrev pub one_type : List ℕ → List ℕ
one_type edges = one_under 2 (type_field 2 2 2 ++ edges) ("00" ∷ [])

-- each rail hangs on a label of its own: not complementary
abbrev pub split_rails : List ℕ
split_rails = one_type (edge_field 1 2 (0 ∷ []) ++ edge_field 0 2 (1 ∷ []))

-- inverters, one for each of these references
abbrev pub inverters_of : List Reference → List ℕ
inverters_of references =
    inputs_field 1 ++ inverter_fields ++ join_lists (map (λ (r : Reference). instance_field 1 exhaustive (r ∷ [])) references)
    ++ vector_field "0"

-- an inverter with a choice
abbrev pub inverter_choosing : Choice → List ℕ
inverter_choosing choice = inputs_field 1 ++ inverter_fields ++ instance_field 1 choice (primary 1 ∷ []) ++ vector_field "0"

-- two inverters, then a NAND of the first and input 1 and a NAND of both; bridges of two lists in turn, written from either end
abbrev pub four_instances : List String → List ℕ
four_instances vectors =
    inputs_field 2 ++ inverter_fields ++ nand_fields
    ++ bridge_field 2 (nodes 3 2) ++ bridge_field 1 (nodes 2 0) ++ bridge_field 2 (nodes 0 3)
    ++ bridge_field 2 (input 3 0) ++ bridge_field 1 (input 2 0) ++ bridge_field 2 (input 3 1)
    ++ instance_field 1 no_faults (primary 2 ∷ []) ++ instance_field 1 (list 1) (output_of 1 ∷ [])
    ++ instance_field 2 (list 2) (output_of 1 ∷ primary 1 ∷ []) ++ instance_field 2 (list 2) (output_of 1 ∷ output_of 2 ∷ [])
    ++ vector_fields vectors

-- two inverters, the second behind the first, with these bridge fields and choices
abbrev pub two_inverters : List ℕ → Choice → Choice → List String → List ℕ
two_inverters bridges driver fed vectors =
    inputs_field 1 ++ inverter_fields ++ bridges ++ instance_field 1 driver (primary 1 ∷ []) ++ instance_field 1 fed (output_of 1 ∷ [])
    ++ vector_fields vectors

-- the same short to ground twice: at the output of the driver, and at the input that it feeds
abbrev pub driver_and_input : List String → List ℕ
driver_and_input vectors = two_inverters (bridge_field 1 (nodes 0 2) ++ bridge_field 2 (input 0 0)) (list 1) (list 2) vectors

-- two shorts, the driver's output to ground and 0-1: the first at the driver, at the driver and again at the input that it feeds, at the
-- input alone
abbrev pub at_driver : List ℕ
at_driver = two_inverters (bridge_field 1 (nodes 0 2) ++ bridge_field 2 (nodes 0 1)) (list 1) (list 2) ("0" ∷ [])

abbrev pub at_both : List ℕ
at_both =
    two_inverters (bridge_field 1 (nodes 0 2) ++ bridge_field 2 (nodes 0 1) ++ bridge_field 2 (input 0 0)) (list 1) (list 2) ("0" ∷ [])

abbrev pub at_input : List ℕ
at_input = two_inverters (bridge_field 1 (nodes 0 1) ++ bridge_field 2 (input 0 0)) (list 1) (list 2) ("0" ∷ [])

-- two NANDs with their labels exchanged, each with a bridge from its inner node to ground
abbrev pub two_nands : List String → List ℕ
two_nands vectors =
    inputs_field 2 ++ nand_fields ++ bridge_field 1 (nodes 0 3) ++ instance_field 1 (list 1) (primary 1 ∷ primary 2 ∷ [])
    ++ instance_field 1 (list 1) (primary 2 ∷ primary 1 ∷ []) ++ vector_fields vectors

-- two NANDs with the same labels, each with its inner node, its output and its first label to ground
abbrev pub twin_nands : List String → List ℕ
twin_nands vectors =
    inputs_field 2 ++ nand_fields ++ bridge_field 1 (nodes 0 3) ++ bridge_field 1 (nodes 0 2) ++ bridge_field 1 (input 0 0)
    ++ instance_field 1 (list 1) (primary 1 ∷ primary 2 ∷ []) ++ instance_field 1 (list 1) (primary 1 ∷ primary 2 ∷ [])
    ++ vector_fields vectors

-- 16 instances with 128 bridges each, 2,048 faults in all, and then some with one more
abbrev pub many_faults : ℕ → List ℕ
many_faults more =
    inputs_field 1 ++ inverter_fields ++ join_lists (replicate 128 (bridge_field 1 (nodes 0 1))) ++ bridge_field 2 (nodes 0 1)
    ++ join_lists (replicate 16 (instance_field 1 (list 1) (primary 1 ∷ [])))
    ++ join_lists (replicate more (instance_field 1 (list 2) (primary 1 ∷ [])))
    ++ vector_field "0"

-- ---- 01's report

-- 01, "The report": of `inverter`, in full, with the line of 02, "How many rounds joining takes"
abbrev pub inverter_lines : List String
inverter_lines =
    "vectors 3 faults 6 classes 6 found 6"
    ∷ "1 n 0 1 1 111 3 1"
    ∷ "1 n 0 2 2 100 1 1"
    ∷ "1 n 1 2 3 010 1 2"
    ∷ "1 i 0 0 4 010 1 2"
    ∷ "1 i 1 0 5 100 1 1"
    ∷ "1 i 2 0 6 110 2 1"
    ∷ "rounds 1"
    ∷ []

-- ---- deep types

-- an inverter whose transistors to ground stand in a row through all other nodes: h, o=2, k=1; edges 1-2, 2-3, 3-4 and so on to h, and h-0,
-- all at label 0
abbrev pub chain_fields : ℕ → List ℕ
chain_fields h =
    type_field h 2 1 ++ edge_field 1 2 (0 ∷ []) ++ join_lists (table (h - 2) (λ (i : ℕ). edge_field (i + 2) (i + 3) (0 ∷ [])))
    ++ edge_field h 0 (0 ∷ [])

-- one with the highest node that there may be, with a choice, under 1
abbrev pub chain_choosing : Choice → List ℕ
chain_choosing choice = inputs_field 1 ++ chain_fields 31 ++ instance_field 1 choice (primary 1 ∷ []) ++ vector_field "1"

-- a NAND with two ways from supply to the output: h=4, o=3, k=2; edge 1-3 label 0; edges 1-2 and 2-3 label 1; edges 3-4 label 0 and 4-0
-- label 1
abbrev pub detour_fields : List ℕ
detour_fields =
    type_field 4 3 2 ++ edge_field 1 3 (0 ∷ []) ++ edge_field 1 2 (1 ∷ []) ++ edge_field 2 3 (1 ∷ []) ++ edge_field 3 4 (0 ∷ [])
    ++ edge_field 4 0 (1 ∷ [])

-- a NAND without faults, then an inverter with the exhaustive list
abbrev pub nand_then_inverter : List String → List ℕ
nand_then_inverter vectors =
    inputs_field 2 ++ inverter_fields ++ nand_fields ++ instance_field 2 no_faults (primary 1 ∷ primary 2 ∷ [])
    ++ instance_field 1 exhaustive (primary 1 ∷ []) ++ vector_fields vectors

-- ---- types with many edges

-- a file with one input, up to the type that these edge fields follow; and the whole file of an inverter with them
abbrev pub of_edges : List ℕ → List ℕ
of_edges fields = inputs_field 1 ++ type_field 2 2 1 ++ fields

abbrev pub inverter_of : List ℕ → List ℕ
inverter_of fields = one_under 1 (type_field 2 2 1 ++ fields) ("0" ∷ [])

abbrev pub one_label : List ℕ
one_label = 0 ∷ []

abbrev pub four_labels : List ℕ
four_labels = 0 ∷ 0 ∷ 0 ∷ 0 ∷ []
