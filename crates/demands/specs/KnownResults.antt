-- 01, "Known results": all of them, those marked P first, then the whole example of "The report" and more of both kinds; and the classes of
-- 02, "One wire, one short". They stand in one table under one statement, `AllKnown`; those of 02 on edges have a table of their own, those
-- on pass transistors are in PassResults. What a line says is in specs/Claims; the proof, by computation, is in proofs/KnownProof.
use Rattle.std.specs.Prelude.{◌-◌, ◌^◌, List, [], ◌∷◌, ◌++◌, replicate}
use Prim.Native.String.{String}
use Rattle.switch.specs.Bridges.{nodes, input}
use Rattle.circuit.specs.Circuit.{primary, output_of, exhaustive, no_faults, list, join_lists}
use Rattle.grading.specs.Buffers.{buffers_of, room_for}
use Rattle.demands.specs.Files.{field_bytes, inputs_field, type_field, edge_field, instance_field, times, inverter_fields}
use Rattle.demands.specs.Files.{inverter, inverter_lines, inverter_under}
use Rattle.demands.specs.Files.{inverter_listed, inverter_choosing, nand_under, nor_under, branches, inverter_then_nand}
use Rattle.demands.specs.Files.{nand_of_one, one_type, split_rails, inverters_of, four_instances}
use Rattle.demands.specs.Files.{two_inverters, driver_and_input, two_nands}
use Rattle.demands.specs.Files.{twin_nands, many_faults, of_edges, inverter_of, one_label, four_labels}
use Rattle.demands.specs.Claims.{Claim, reads, floats, refuses, short, sizes, leaves, grades, turns, reports, AllHold}

-- ---- vectors

abbrev pub all_four : List String
all_four = "00" ∷ "01" ∷ "10" ∷ "11" ∷ []

-- every vector of two inputs
abbrev pub nine : List String
nine = "00" ∷ "01" ∷ "10" ∷ "11" ∷ "0X" ∷ "1X" ∷ "X0" ∷ "X1" ∷ "XX" ∷ []

-- ---- the table: 01's sentences, each with its lines, then more

abbrev pub known_results : List Claim
known_results =
    -- P: bridge 2-3 reads 0100; 0-3 reads 0010; 1-3 reads 0101
    reads (nand_under all_four) 1 (nodes 2 3) "0100"
    ∷ reads (nand_under all_four) 1 (nodes 0 3) "0010"
    ∷ reads (nand_under all_four) 1 (nodes 1 3) "0101"
    -- P: under 00 node 3 is joined to neither rail
    ∷ floats (nand_under all_four) 1 3 1
    -- P: 0X marks 0-2; 1X does not mark 2-3
    ∷ reads (nand_under ("0X" ∷ [])) 1 (nodes 0 2) "1"
    ∷ reads (nand_under ("1X" ∷ [])) 1 (nodes 2 3) "0"
    -- P: bridge 0-1 is marked under every vector, XX included
    ∷ reads (nand_under nine) 1 (nodes 0 1) "111111111"
    -- P: an inverter from input a, then a NAND of a and the inverter's output: X for a does not mark the NAND's 0-2, although both fillings
    -- do
    ∷ reads (inverter_then_nand ("0" ∷ "1" ∷ "X" ∷ [])) 2 (nodes 0 2) "110"
    -- P: document 002's example: supply 1010 and ground 0100 at one end, 1100 and 0011 at the other, gives 0110.
    -- The ends are nodes 2 and 3. A node's bridge to ground reads where it is joined to supply, that to supply where it is joined to ground
    ∷ reads branches 1 (nodes 0 2) "1010"
    ∷ reads branches 1 (nodes 1 2) "0100"
    ∷ reads branches 1 (nodes 0 3) "1100"
    ∷ reads branches 1 (nodes 1 3) "0011"
    ∷ reads branches 1 (nodes 2 3) "0110"
    -- P: its input short: label 1100, supply 1010, ground 0100, gives 0110.
    -- The node is 2 and the label is 3. A label's bridge to ground reads where it is 1, that to supply where it is 0
    ∷ reads branches 1 (input 0 3) "1100"
    ∷ reads branches 1 (input 1 3) "0011"
    ∷ reads branches 1 (input 2 3) "0110"
    -- P: h=2, o=2, k=2, edges 1-2 label 0 and 0-2 label 1: refusal 9. No edges: 9
    ∷ refuses split_rails 9 5
    ∷ refuses (one_type []) 9 5
    -- NAND with both references 1: 14 rows, 10 classes
    ∷ sizes (nand_of_one ("0" ∷ [])) 14 10
    -- in instance 2 a reference of −1 is good, −2 or 0 is 10; in instance 1 a reference of −1 is 10
    ∷ sizes (inverters_of (primary 1 ∷ output_of 1 ∷ [])) 12 9
    ∷ refuses (inverters_of (primary 1 ∷ output_of 2 ∷ [])) 10 30
    ∷ refuses (inverters_of (primary 1 ∷ primary 0 ∷ [])) 10 30
    ∷ refuses (inverters_of (output_of 1 ∷ [])) 10 23
    -- empty file: 14 at 0. One byte 1: 2 at 0
    ∷ refuses [] 14 0
    ∷ refuses (1 ∷ []) 2 0
    -- 64 vectors fill one word; the 65th is bit 0 of the next
    ∷ leaves (inverter_listed (nodes 0 1 ∷ []) (replicate 64 "0")) ((2 ^ 64 - 1) ∷ 0 ∷ 0 ∷ 0 ∷ [])
    ∷ leaves (inverter_listed (nodes 0 1 ∷ []) (replicate 65 "0")) ((2 ^ 64 - 1) ∷ 1 ∷ 0 ∷ 0 ∷ [])
    -- 2,048 faults pass, 2,049 are 13; 8,191 words for 2,048 faults is 15 with 8,192
    ∷ short (many_faults 0) (room_for 8192 2048) 0 0
    ∷ refuses (many_faults 1) 13 1038
    ∷ short (many_faults 0) (room_for 8191 2048) 15 8192
    -- "The report": one inverter, vectors 0, 1, X. The file is 42 bytes; 3 vectors, 6 faults, 6 classes, 6 found; classes 1 to 6;
    -- rows 111, 100, 010, 010, 100, 110
    ∷ grades inverter 42 (record { vectors = 3; faults = 6; classes = 6; found = 6; rounds = 1 })
    ("111" ∷ "100" ∷ "010" ∷ "010" ∷ "100" ∷ "110" ∷ []) (1 ∷ 2 ∷ 3 ∷ 4 ∷ 5 ∷ 6 ∷ [])
    -- its output in full
    ∷ reports inverter inverter_lines
    -- beyond 01's results: whole reports. NAND with both references 1: labels 0 and 1 are one class with each node
    ∷ reports (nand_of_one ("0" ∷ "1" ∷ "X" ∷ []))
    ("vectors 3 faults 14 classes 10 found 8"
    ∷ "1 n 0 1 1 111 3 1"
    ∷ "1 n 0 2 2 100 1 1"
    ∷ "1 n 0 3 3 000 0 0"
    ∷ "1 n 1 2 4 010 1 2"
    ∷ "1 n 1 3 5 010 1 2"
    ∷ "1 n 2 3 6 000 0 0"
    ∷ "1 i 0 0 7 010 1 2"
    ∷ "1 i 0 1 7 010 1 2"
    ∷ "1 i 1 0 8 100 1 1"
    ∷ "1 i 1 1 8 100 1 1"
    ∷ "1 i 2 0 9 110 2 1"
    ∷ "1 i 2 1 9 110 2 1"
    ∷ "1 i 3 0 10 010 1 2"
    ∷ "1 i 3 1 10 010 1 2"
    ∷ "rounds 2"
    ∷ [])
    -- the inverter without faults, and the NAND behind it: 0-2 reads 110
    ∷ reports (inverter_then_nand ("0" ∷ "1" ∷ "X" ∷ []))
    ("vectors 3 faults 14 classes 14 found 12"
    ∷ "2 n 0 1 1 111 3 1"
    ∷ "2 n 0 2 2 110 2 1"
    ∷ "2 n 0 3 3 010 1 2"
    ∷ "2 n 1 2 4 000 0 0"
    ∷ "2 n 1 3 5 100 1 1"
    ∷ "2 n 2 3 6 100 1 1"
    ∷ "2 i 0 0 7 010 1 2"
    ∷ "2 i 0 1 8 100 1 1"
    ∷ "2 i 1 0 9 100 1 1"
    ∷ "2 i 1 1 10 010 1 2"
    ∷ "2 i 2 0 11 100 1 1"
    ∷ "2 i 2 1 12 010 1 2"
    ∷ "2 i 3 0 13 000 0 0"
    ∷ "2 i 3 1 14 110 2 1"
    ∷ "rounds 2"
    ∷ [])
    -- X alone marks nothing but 0-1
    ∷ reports (inverter_under ("X" ∷ []))
    ("vectors 1 faults 6 classes 6 found 1"
    ∷ "1 n 0 1 1 1 1 1"
    ∷ "1 n 0 2 2 0 0 0"
    ∷ "1 n 1 2 3 0 0 0"
    ∷ "1 i 0 0 4 0 0 0"
    ∷ "1 i 1 0 5 0 0 0"
    ∷ "1 i 2 0 6 0 0 0"
    ∷ "rounds 0"
    ∷ [])
    -- no faults; and a refusal
    ∷ reports (inverter_choosing no_faults) ("vectors 1 faults 0 classes 0 found 0" ∷ "rounds 1" ∷ [])
    ∷ reports [] ("refused 14 at 0" ∷ [])
    -- 15 comes before 22, each with what is needed
    ∷ short inverter (room_for 23 6) 15 24
    ∷ short inverter (room_for 23 5) 15 24
    ∷ short inverter (room_for 0 0) 15 24
    ∷ short inverter (room_for 24 5) 22 6
    ∷ short inverter (room_for 24 6) 0 0
    -- two words more than it needs, one entry more: they keep their contents
    ∷ turns inverter (buffers_of (replicate 26 9) (replicate 7 9))
    (buffers_of
    (7 ∷ 0 ∷ 0 ∷ 0 ∷ 1 ∷ 0 ∷ 0 ∷ 0 ∷ 2 ∷ 0 ∷ 0 ∷ 0 ∷ 2 ∷ 0 ∷ 0 ∷ 0 ∷ 1 ∷ 0 ∷ 0 ∷ 0 ∷ 3 ∷ 0 ∷ 0 ∷ 0 ∷ 9 ∷ 9 ∷ [])
    (1 ∷ 2 ∷ 3 ∷ 4 ∷ 5 ∷ 6 ∷ 9 ∷ []))
    -- four instances, rows of three of them, in the order of their lists
    ∷ grades (four_instances ("00" ∷ "01" ∷ "10" ∷ "11" ∷ "X0" ∷ "0X" ∷ [])) 152
    (record { vectors = 6; faults = 10; classes = 10; found = 9; rounds = 2 })
    ("010100" ∷ "111110" ∷ "000100" ∷ "100000" ∷ "001000" ∷ "101100" ∷ "010100" ∷ "101010" ∷ "000000" ∷ "111110" ∷ [])
    (1 ∷ 2 ∷ 3 ∷ 4 ∷ 5 ∷ 6 ∷ 7 ∷ 8 ∷ 9 ∷ 10 ∷ [])
    -- the NAND's output is 1 under 00, 01 and 10, and 0 under 11
    ∷ reads (nand_under all_four) 1 (nodes 0 2) "1110"
    ∷ reads (nand_under all_four) 1 (nodes 1 2) "0001"
    -- a NOR, whose output is above node 2: what lies between supply and the output is p-channel
    ∷ reads (nor_under all_four) 1 (nodes 0 2) "1100"
    ∷ reads (nor_under all_four) 1 (nodes 1 2) "0010"
    ∷ reads (nor_under all_four) 1 (nodes 2 3) "0100"
    ∷ floats (nor_under all_four) 1 2 4
    -- one short listed three times, from either end: three rows of one class, ends as written
    ∷ reports (inverter_listed (nodes 2 0 ∷ nodes 0 2 ∷ nodes 2 0 ∷ []) ("0" ∷ "1" ∷ []))
    ("vectors 2 faults 3 classes 1 found 1"
    ∷ "1 n 2 0 1 10 1 1"
    ∷ "1 n 0 2 1 10 1 1"
    ∷ "1 n 2 0 1 10 1 1"
    ∷ "rounds 1"
    ∷ [])
    -- 02, "One wire, one short": a driver's output to ground, listed at the driver and again at the input that it feeds: one class with
    -- equal rows, of either kind
    ∷ reports (driver_and_input ("0" ∷ "1" ∷ "X" ∷ []))
    ("vectors 3 faults 2 classes 1 found 1"
    ∷ "1 n 0 2 1 100 1 1"
    ∷ "2 i 0 0 1 100 1 1"
    ∷ "rounds 1"
    ∷ [])
    -- two inverters with exhaustive lists: 0-1 is one class, the driver's output with each rail is that of the fed input
    ∷ reports (two_inverters [] exhaustive exhaustive ("0" ∷ "1" ∷ "X" ∷ []))
    ("vectors 3 faults 12 classes 9 found 9"
    ∷ "1 n 0 1 1 111 3 1"
    ∷ "1 n 0 2 2 100 1 1"
    ∷ "1 n 1 2 3 010 1 2"
    ∷ "1 i 0 0 4 010 1 2"
    ∷ "1 i 1 0 5 100 1 1"
    ∷ "1 i 2 0 6 110 2 1"
    ∷ "2 n 0 1 1 111 3 1"
    ∷ "2 n 0 2 7 010 1 2"
    ∷ "2 n 1 2 8 100 1 1"
    ∷ "2 i 0 0 2 100 1 1"
    ∷ "2 i 1 0 3 010 1 2"
    ∷ "2 i 2 0 9 110 2 1"
    ∷ "rounds 1"
    ∷ [])
    -- the inner nodes of two NANDs are two wires, though both are numbered 3
    ∷ reports (two_nands all_four)
    ("vectors 4 faults 2 classes 2 found 2"
    ∷ "1 n 0 3 1 0010 1 3"
    ∷ "2 n 0 3 2 0100 1 2"
    ∷ "rounds 2"
    ∷ [])
    -- two NANDs alike: outputs and inner nodes are two wires each, though their rows are equal; the input that feeds both is one
    ∷ reports (twin_nands all_four)
    ("vectors 4 faults 6 classes 5 found 5"
    ∷ "1 n 0 3 1 0010 1 3"
    ∷ "1 n 0 2 2 1110 3 1"
    ∷ "1 i 0 0 3 0011 2 3"
    ∷ "2 n 0 3 4 0010 1 3"
    ∷ "2 n 0 2 5 1110 3 1"
    ∷ "2 i 0 0 3 0011 2 3"
    ∷ "rounds 2"
    ∷ [])
    -- more refusals, so that each number is here: a file too long, tag 0, inputs twice, three bytes for the inputs, 65 inputs, a 17th type,
    -- an edge 2-2, a bridge of kind 2, choice -2, bridge 0-3 for an inverter, a list without bridges
    ∷ refuses (replicate 57345 0) 1 0
    ∷ refuses (0 ∷ 0 ∷ 0 ∷ []) 3 0
    ∷ refuses (inputs_field 1 ++ inputs_field 1) 4 5
    ∷ refuses (field_bytes 1 (0 ∷ 0 ∷ 1 ∷ [])) 5 0
    ∷ refuses (inputs_field 65) 7 0
    ∷ refuses (inputs_field 1 ++ join_lists (replicate 17 inverter_fields)) 6 293
    ∷ refuses (inputs_field 1 ++ type_field 2 2 1 ++ edge_field 2 2 (0 ∷ [])) 8 11
    ∷ refuses (inputs_field 1 ++ inverter_fields ++ field_bytes 4 (1 ∷ 2 ∷ 0 ∷ 1 ∷ [])) 7 23
    ∷ refuses (inputs_field 1 ++ inverter_fields ++ field_bytes 5 (1 ∷ 254 ∷ 0 ∷ 1 ∷ [])) 7 23
    ∷ refuses (inverter_listed (nodes 0 3 ∷ []) ("0" ∷ [])) 11 30
    ∷ refuses (inverter_choosing (list 1)) 12 23
    -- as many bytes as a file may have, and tag 0; a body one byte short; no inputs first; an edge 1-3 over the output 2
    ∷ refuses (replicate 57344 0) 3 0
    ∷ refuses (1 ∷ 0 ∷ 2 ∷ 1 ∷ []) 2 0
    ∷ refuses (type_field 2 2 1) 4 0
    ∷ refuses (inputs_field 1 ++ type_field 3 2 1 ++ edge_field 1 3 (0 ∷ [])) 8 11
    -- a type without edges: judged at the end of the file, or at a later field after 4 and before 5
    ∷ refuses (inputs_field 1 ++ type_field 2 2 1) 9 5
    ∷ refuses (inputs_field 1 ++ type_field 2 2 1 ++ inputs_field 1) 4 11
    ∷ refuses (inputs_field 1 ++ type_field 2 2 1 ++ field_bytes 5 []) 9 5
    -- an instance of no type, with a byte too many, with a reference too many, with an input too high, with a label too high in its list
    ∷ refuses (inputs_field 1 ++ instance_field 1 exhaustive (primary 1 ∷ [])) 7 5
    ∷ refuses (inputs_field 1 ++ inverter_fields ++ field_bytes 5 (1 ∷ 255 ∷ 0 ∷ 1 ∷ 0 ∷ [])) 5 23
    ∷ refuses (inputs_field 1 ++ inverter_fields ++ instance_field 1 exhaustive (primary 1 ∷ primary 1 ∷ [])) 10 23
    ∷ refuses (inverters_of (primary 2 ∷ [])) 10 23
    ∷ refuses (inverter_listed (input 0 1 ∷ []) ("0" ∷ [])) 11 30
    -- a vector byte 2; no instance; no vector
    ∷ refuses (inverter_under ("2" ∷ [])) 7 30
    ∷ refuses (inverters_of []) 14 27
    ∷ refuses (inverter_under []) 14 30
    ∷ []

-- all results of the table hold
abbrev pub AllKnown : Type 0
AllKnown = AllHold known_results

-- ---- 02, "No more grouped transistors": how many edges a type may have

-- 256 edges pass, in fields of one label or of four. A 257th is 6, after 5 and before 7 and 8, and so is a field of two labels behind 255.
-- The 65th field of one label is none too many
abbrev pub edge_results : List Claim
edge_results =
    sizes (inverter_of (times 128 (edge_field 1 2 one_label ++ edge_field 0 2 one_label))) 6 6
    ∷ sizes (inverter_of (times 32 (edge_field 1 2 four_labels ++ edge_field 0 2 four_labels))) 6 6
    ∷ refuses (of_edges (times 64 (edge_field 1 2 four_labels) ++ edge_field 1 2 one_label)) 6 587
    ∷ refuses (of_edges (times 64 (edge_field 1 2 four_labels) ++ field_bytes 3 (1 ∷ 2 ∷ []))) 5 587
    ∷ refuses (of_edges (times 64 (edge_field 1 2 four_labels) ++ edge_field 1 2 (1 ∷ []))) 6 587
    ∷ refuses (of_edges (times 64 (edge_field 1 2 four_labels) ++ edge_field 2 2 one_label)) 6 587
    ∷ refuses (of_edges (times 256 (edge_field 1 2 one_label) ++ edge_field 1 2 one_label)) 6 1547
    ∷ refuses (of_edges (times 255 (edge_field 1 2 one_label) ++ edge_field 1 2 (0 ∷ 0 ∷ []))) 6 1541
    ∷ refuses (of_edges (times 64 (edge_field 1 2 one_label) ++ edge_field 2 2 one_label)) 8 395
    ∷ []

abbrev pub EdgesKnown : Type 0
EdgesKnown = AllHold edge_results
