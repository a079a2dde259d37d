-- 02, "Pass transistors": known results on files with tag 7, and what it is refused by, in two tables under one statement, `PassesKnown`.
-- What a line says is in specs/Claims; the proof, by computation, is in proofs/PassKnownProof.
use Rattle.std.specs.Prelude.{ℕ, List, [], ◌∷◌, ◌++◌}
use Prim.Native.String.{String}
use Rattle.switch.specs.Bridges.{nodes}
use Rattle.circuit.specs.Circuit.{primary, exhaustive}
use Rattle.demands.specs.Files.{field_bytes, inputs_field, type_field, edge_field, pass_field, instance_field, times, one_under}
use Rattle.demands.specs.Files.{inverter_fields}
use Rattle.demands.specs.Files.{mux_fields, gated_mux_fields, gates_fields, beside_fields, pass_inverter_fields, follower_fields}
use Rattle.demands.specs.Files.{inverter_lines, of_edges, inverter_of, one_label, four_labels}
use Rattle.demands.specs.Claims.{Claim, reads, floats, refuses, sizes, reports, AllHold}

-- every vector of three inputs without X, one with an X that the select leaves out, and one with the select at X
abbrev pub mux_vectors : List String
mux_vectors = "000" ∷ "001" ∷ "010" ∷ "011" ∷ "100" ∷ "101" ∷ "110" ∷ "111" ∷ "0X1" ∷ "00X" ∷ []

-- 252 edges with tag 3, four in a field, and four with tag 7
abbrev pub full_of_both : List ℕ
full_of_both = times 63 (edge_field 1 2 four_labels) ++ times 4 (pass_field 1 2 1 0)

-- a file with one input and a type of the multiplexer's numbers, up to these edge fields
abbrev pub of_mux : List ℕ → List ℕ
of_mux fields = inputs_field 1 ++ type_field 4 4 1 ++ edge_field 1 2 one_label ++ fields

abbrev pub pass_results : List Claim
pass_results =
    -- the multiplexer of four pass transistors and an inverter, which mixes both tags: its output is not a where the select is 1, b where
    -- it is 0, and X where the select is X
    reports (one_under 3 mux_fields mux_vectors)
    ("vectors 10 faults 25 classes 25 found 24"
    ∷ "1 n 0 1 1 1111111111 10 1"
    ∷ "1 n 0 2 2 1111000011 6 1"
    ∷ "1 n 0 3 3 0011001100 4 3"
    ∷ "1 n 0 4 4 0111001010 5 2"
    ∷ "1 n 1 2 5 0000111100 4 5"
    ∷ "1 n 1 3 6 1100110001 5 1"
    ∷ "1 n 1 4 7 1000110100 4 1"
    ∷ "1 n 2 3 8 1100001101 5 1"
    ∷ "1 n 2 4 9 1000001000 2 1"
    ∷ "1 n 3 4 10 0100000100 2 2"
    ∷ "1 i 0 0 11 0000111100 4 5"
    ∷ "1 i 0 1 12 0011001100 4 3"
    ∷ "1 i 0 2 13 0101010110 5 2"
    ∷ "1 i 1 0 14 1111000011 6 1"
    ∷ "1 i 1 1 15 1100110001 5 1"
    ∷ "1 i 1 2 16 1010101000 4 1"
    ∷ "1 i 2 0 17 1111111111 10 1"
    ∷ "1 i 2 1 18 1100001101 5 1"
    ∷ "1 i 2 2 19 1010010100 4 1"
    ∷ "1 i 3 0 20 0011110000 4 3"
    ∷ "1 i 3 1 21 0000000000 0 0"
    ∷ "1 i 3 2 22 0110011000 4 2"
    ∷ "1 i 4 0 23 0111110110 7 2"
    ∷ "1 i 4 1 24 0100000100 2 2"
    ∷ "1 i 4 2 25 0010011100 4 3"
    ∷ "rounds 2"
    ∷ [])
    ∷ floats (one_under 3 mux_fields mux_vectors) 1 4 10
    -- with the select's complement as a label of its own it is refused
    ∷ refuses (one_under 4 gated_mux_fields ("0000" ∷ [])) 9 5
    -- a transmission gate between two inner nodes is on whatever its label is, as long as that is known: nodes 2 and 3 are never apart
    ∷ reads (one_under 2 gates_fields ("00" ∷ "01" ∷ "10" ∷ "11" ∷ "0X" ∷ [])) 1 (nodes 2 3) "00000"
    ∷ reads (one_under 2 gates_fields ("00" ∷ "01" ∷ "10" ∷ "11" ∷ "0X" ∷ [])) 1 (nodes 0 3) "11000"
    ∷ reads (one_under 2 gates_fields ("00" ∷ "01" ∷ "10" ∷ "11" ∷ "0X" ∷ [])) 1 (nodes 1 4) "00110"
    ∷ floats (one_under 2 gates_fields ("0X" ∷ [])) 1 3 1
    -- an edge 0-2, with the output at 4: by tag 3 it is 8; by tag 7, of either channel, it is taken, and the type is judged
    ∷ refuses (of_mux (edge_field 0 2 one_label)) 8 17
    ∷ refuses (of_mux (pass_field 0 2 0 0)) 9 5
    ∷ refuses (of_mux (pass_field 0 2 1 0)) 9 5
    -- two transistors from supply to ground beside an inverter: of equal channels they join the rails under one setting
    ∷ refuses (one_under 1 (beside_fields 0 0) ("0" ∷ [])) 9 5
    ∷ refuses (one_under 1 (beside_fields 1 1) ("0" ∷ [])) 9 5
    ∷ reads (one_under 1 (beside_fields 0 1) ("0" ∷ "1" ∷ "X" ∷ [])) 1 (nodes 0 3) "010"
    ∷ reads (one_under 1 (beside_fields 1 0) ("0" ∷ "1" ∷ "X" ∷ [])) 1 (nodes 0 3) "100"
    -- the inverter by tag 7 is 01's inverter; with its channels exchanged the output follows the input
    ∷ reports (one_under 1 (type_field 2 2 1 ++ pass_inverter_fields) ("0" ∷ "1" ∷ "X" ∷ [])) inverter_lines
    ∷ reports (one_under 1 follower_fields ("0" ∷ "1" ∷ "X" ∷ []))
    ("vectors 3 faults 6 classes 6 found 5"
    ∷ "1 n 0 1 1 111 3 1"
    ∷ "1 n 0 2 2 010 1 2"
    ∷ "1 n 1 2 3 100 1 1"
    ∷ "1 i 0 0 4 010 1 2"
    ∷ "1 i 1 0 5 100 1 1"
    ∷ "1 i 2 0 6 000 0 0"
    ∷ "rounds 1"
    ∷ [])
    ∷ []

-- what tag 7 is refused by
abbrev pub pass_refusals : List Claim
pass_refusals =
    -- a body of three bytes, or five; a node too high, at either end; a channel that is none; a label too high; equal ends
    refuses (of_edges (field_bytes 7 (1 ∷ 2 ∷ 1 ∷ []))) 5 11
    ∷ refuses (of_edges (field_bytes 7 (1 ∷ 2 ∷ 1 ∷ 0 ∷ 0 ∷ []))) 5 11
    ∷ refuses (of_edges (pass_field 3 2 1 0)) 7 11
    ∷ refuses (of_edges (pass_field 1 3 1 0)) 7 11
    ∷ refuses (of_edges (pass_field 1 2 2 0)) 7 11
    ∷ refuses (of_edges (pass_field 1 2 1 1)) 7 11
    ∷ refuses (of_edges (pass_field 2 2 1 0)) 7 11
    -- one between the rails is taken, and its type is never complementary
    ∷ refuses (of_edges (pass_field 0 1 1 0)) 9 5
    -- out of place: first, with no type before it, behind an instance; and tag 8 is none
    ∷ refuses (pass_field 1 2 1 0) 4 0
    ∷ refuses (inputs_field 1 ++ pass_field 1 2 1 0) 4 5
    ∷ refuses (inputs_field 1 ++ inverter_fields ++ instance_field 1 exhaustive (primary 1 ∷ []) ++ pass_field 1 2 1 0) 4 30
    ∷ refuses (of_edges (field_bytes 8 (1 ∷ 2 ∷ 1 ∷ 0 ∷ []))) 3 11
    -- 256 edges of both tags pass; one more of either is 6, after 5 and before 7
    ∷ sizes (inverter_of (times 31 (edge_field 1 2 four_labels ++ edge_field 0 2 four_labels) ++ times 4 pass_inverter_fields)) 6 6
    ∷ refuses (of_edges (full_of_both ++ pass_field 1 2 1 0)) 6 606
    ∷ refuses (of_edges (full_of_both ++ edge_field 1 2 one_label)) 6 606
    ∷ refuses (of_edges (full_of_both ++ pass_field 3 3 2 1)) 6 606
    ∷ refuses (of_edges (full_of_both ++ field_bytes 7 [])) 5 606
    ∷ []

pub record PassesKnown : Type 0 where
  pub results : AllHold pass_results
  pub refusals : AllHold pass_refusals
