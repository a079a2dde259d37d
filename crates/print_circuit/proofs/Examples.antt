-- docs/SHOW.md: listings of the 42-byte inverter, of one with a pass transistor and of refused files, and other lines. Each is computed.
use mathlib.Core.Path.{◌≡◌, refl}
use mathlib.Core.List.{List, [], ◌∷◌, ◌++◌, map}
use Prim.Native.Nat.{ℕ}
use Prim.Native.String.{String}
use Rattle.words.specs.Bits.{bit}
use Rattle.words.specs.Tables.{table}
use Rattle.switch.specs.Conduction.{at0, at1, at_x, channel_p, channel_n, by_position, stated, channel_by, n_end, n_ends, bad_ends, transistor_on, channel_of, p_ends, edge_on, edges_for, between, links}
use Rattle.switch.specs.Modules.{all_of, in_range, type_in_range, edge_in_range, links_of, setting_of, value_of_bit}
use Rattle.switch.specs.Bridges.{nodes, input}
use Rattle.switch.specs.Deciding.{joins, renamings, part_of_node, rename, all_below, one_rail, is_complementary}
use Rattle.print_lines.specs.Ascii.{bytes_of}
use Rattle.print_lines.specs.Decimal.{digits_of, length_in, decimal}
use Rattle.circuit.specs.Fields.{two_bytes, cut_in, cut_from}
use Rattle.circuit.specs.Circuit.{Circuit, primary, output_of, exhaustive, no_faults, list, join_lists, numbered, exhaustive_size, chosen_size, fault_count, user_list}
use Rattle.circuit.specs.Numbers.{signed, choice_of, choice_in_range, reference_of, reference_good}
use Rattle.circuit.specs.Order.{tag_of, is_kind, is_edge, may_follow}
use Rattle.circuit.specs.Known.{type_in, edges_told, edges_in, references_in, instance_in, letter_of, vector_in, latest, with_edges, edges_added, taken, type_at_after, known_after}
use Rattle.circuit.specs.Table.{first_of, unjudged, not_complementary, is_empty, list_unsuited, list_empty, is_letter, edges_in_range, pass_in_range, inputs_tests, type_tests, edge_tests, edge_tests_of, bridge_tests, instance_tests, instance_tests_of, vector_tests, body_tests, field_tests, end_tests}
use Rattle.circuit.specs.Reading.{accepted, unless, read_from, reading_with}
use Rattle.circuit.specs.Verdicts.{is_refused}
use Rattle.circuit.specs.Before.{types_before, finished, before_from, read_before}
use Rattle.print_lines.specs.Lines.{refusal_line}
use Rattle.print_circuit.specs.Lines.{spaced, inputs_line, type_line, channel_text, edge_line_by, edge_line, kind_text, ends_text, bridge_line, choice_text, reference_text, instance_line, value_letter, vector_line}
use Rattle.print_circuit.specs.Listing.{numbered_lines, grouped_lines, type_lines, inputs_lines, circuit_lines, refusal_lines, listing_of, listing_of_file}

-- the circuit that the inverter's file tells: circuit/proofs/Examples reads it
inverter : Circuit
inverter = record {
  inputs = 1;
  types = record { highest = 2; output = 2; labels = 1; edges = record { first = 1; second = 2; channel = channel_p; label = 0; tag = by_position } ∷ record { first = 0; second = 2; channel = channel_n; label = 0; tag = by_position } ∷ [] } ∷ [];
  bridges = [];
  instances = record { type = 1; choice = exhaustive; references = primary 1 ∷ [] } ∷ [];
  vectors = (at0 ∷ []) ∷ (at1 ∷ []) ∷ (at_x ∷ []) ∷ [];
}

lines_of : List String → List (List ℕ)
lines_of texts = map bytes_of texts

inverter_listing : listing_of inverter (accepted inverter)
    ≡ lines_of ("inputs 1\n" ∷ "type 1 2 2 1\n" ∷ "edge 1 2 0\n" ∷ "edge 0 2 0\n" ∷ "instance 1 1 -1 1\n" ∷ "vector 1 0\n" ∷ "vector 2 1\n" ∷ "vector 3 X\n" ∷ [])
unfolding inverter lines_of listing_of refusal_lines circuit_lines inputs_lines grouped_lines type_lines numbered_lines inputs_line type_line edge_line_by edge_line instance_line vector_line choice_text reference_text value_letter spaced join_lists decimal digits_of length_in
inverter_listing = refl

other_lines :
    (bridge_line (record { list = 7; bridge = nodes 0 12 }) ≡ bytes_of "bridge 7 n 0 12\n")
    × (bridge_line (record { list = 127; bridge = input 2 3 }) ≡ bytes_of "bridge 127 i 2 3\n")
    × (edge_line (record { first = 31; second = 2; channel = channel_n; label = 11; tag = by_position }) ≡ bytes_of "edge 31 2 11\n")
    × (edge_line (record { first = 2; second = 31; channel = channel_p; label = 11; tag = stated }) ≡ bytes_of "pass 2 31 p 11\n")
    × (instance_line 12 (record { type = 2; choice = no_faults; references = output_of 11 ∷ primary 64 ∷ [] }) ≡ bytes_of "instance 12 2 0 -11 64\n")
    × (instance_line 3 (record { type = 1; choice = list 5; references = output_of 2 ∷ [] }) ≡ bytes_of "instance 3 1 5 -2\n")
    × (vector_line 10 (at1 ∷ at_x ∷ at0 ∷ []) ≡ bytes_of "vector 10 1X0\n")
unfolding bridge_line ends_text kind_text channel_text edge_line_by edge_line instance_line vector_line choice_text reference_text value_letter spaced join_lists decimal digits_of length_in
other_lines = (refl, refl, refl, refl, refl, refl, refl)

-- ---- files

-- one input, and a type that has no edge yet
begin : List ℕ
begin = 1 ∷ 0 ∷ 2 ∷ 0 ∷ 1 ∷ 2 ∷ 0 ∷ 3 ∷ 2 ∷ 2 ∷ 1 ∷ []

edges : List ℕ
edges = 3 ∷ 0 ∷ 3 ∷ 1 ∷ 2 ∷ 0 ∷ 3 ∷ 0 ∷ 3 ∷ 0 ∷ 2 ∷ 0 ∷ []

-- the same transistors, the second with its channel stated
mixed-edges : List ℕ
mixed-edges = 3 ∷ 0 ∷ 3 ∷ 1 ∷ 2 ∷ 0 ∷ 7 ∷ 0 ∷ 4 ∷ 0 ∷ 2 ∷ 0 ∷ 0 ∷ []

-- a file that is accepted, with edges of both tags; refused ones: an instance with reference 2, of which there is no input; an edge at a
-- label that the type does not have; no file at all
file_listings :
    (listing_of_file (begin ++ mixed-edges ++ (5 ∷ 0 ∷ 4 ∷ 1 ∷ 255 ∷ 0 ∷ 1 ∷ 6 ∷ 0 ∷ 1 ∷ 48 ∷ []))
    ≡ lines_of ("inputs 1\n" ∷ "type 1 2 2 1\n" ∷ "edge 1 2 0\n" ∷ "pass 0 2 n 0\n" ∷ "instance 1 1 -1 1\n" ∷ "vector 1 0\n" ∷ []))
    × (listing_of_file (begin ++ edges ++ (5 ∷ 0 ∷ 4 ∷ 1 ∷ 255 ∷ 0 ∷ 2 ∷ []))
    ≡ lines_of ("inputs 1\n" ∷ "type 1 2 2 1\n" ∷ "edge 1 2 0\n" ∷ "edge 0 2 0\n" ∷ "refused 10 at 23\n" ∷ []))
    × (listing_of_file (begin ++ edges ++ (3 ∷ 0 ∷ 3 ∷ 0 ∷ 2 ∷ 1 ∷ [])) ≡ lines_of ("inputs 1\n" ∷ "refused 7 at 23\n" ∷ []))
    × (listing_of_file [] ≡ lines_of ("refused 14 at 0\n" ∷ []))
unfolding begin edges mixed-edges lines_of listing_of refusal_lines circuit_lines inputs_lines grouped_lines type_lines numbered_lines inputs_line type_line channel_text edge_line_by edge_line instance_line vector_line choice_text reference_text value_letter refusal_line spaced join_lists decimal digits_of length_in is_refused types_before finished before_from read_before n_end n_ends bad_ends reading_with read_from unless field_tests end_tests first_of body_tests inputs_tests type_tests edge_tests edge_tests_of bridge_tests instance_tests instance_tests_of vector_tests is_kind is_edge may_follow unjudged not_complementary is_empty list_unsuited list_empty is_letter tag_of type_in edges_told edges_in references_in instance_in letter_of vector_in latest with_edges edges_added taken type_at_after known_after signed choice_of choice_in_range reference_of reference_good two_bytes cut_in cut_from numbered exhaustive_size chosen_size fault_count user_list bit table joins renamings part_of_node rename all_below one_rail is_complementary all_of in_range type_in_range edge_in_range links_of setting_of value_of_bit transistor_on channel_of p_ends edge_on edges_for channel_by edges_in_range pass_in_range between links
file_listings = (refl, refl, refl, refl)
