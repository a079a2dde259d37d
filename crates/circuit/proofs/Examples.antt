-- 01's examples of reading, computed on the definitions: the inverter's 42 bytes, the empty file, a broken field, references to instances, bridges.
use Prim.Native.Nat.{ℕ}
use mathlib.Core.Path.{◌≡◌, refl}
use mathlib.Core.List.{List, [], ◌∷◌, ◌++◌}
use lib.ListN.{length}
use Rattle.switch.specs.Conduction.{at0, at1, at_x, channel_p, channel_n, by_position, n_end, n_ends, bad_ends, transistor_on, channel_of, p_ends, edge_on, edges_for, between, links}
use Rattle.switch.specs.Modules.{all_of, in_range, type_in_range, edge_in_range, links_of, setting_of, value_of_bit}
use Rattle.switch.specs.Deciding.{joins, renamings, part_of_node, rename, all_below, one_rail, is_complementary}
use Rattle.words.specs.Bits.{bit}
use Rattle.words.specs.Tables.{table}
use Rattle.circuit.specs.Fields.{two_bytes, cut_in, cut_from}
use Rattle.circuit.specs.Circuit.{primary, output_of, exhaustive, no_faults, numbered, exhaustive_size, chosen_size, fault_count, user_list}
use Rattle.circuit.specs.Numbers.{signed, choice_of, choice_in_range, reference_of, reference_good}
use Rattle.circuit.specs.Order.{tag_of, is_kind, is_edge, may_follow}
use Rattle.circuit.specs.Known.{type_in, edges_told, edges_in, references_in, instance_in, letter_of, vector_in, latest, with_edges, edges_added, taken, type_at_after, known_after, bridge_of}
use Rattle.circuit.specs.Table.{first_of, unjudged, not_complementary, is_empty, list_unsuited, list_empty, is_letter, bridge_good, listed_good, bridge_in_range, edges_in_range, inputs_tests, type_tests, edge_tests, edge_tests_of, bridge_tests, instance_tests, instance_tests_of, vector_tests, body_tests, field_tests, end_tests}
use Rattle.circuit.specs.Reading.{accepted, refusal, unless, read_from, reading_with, reading_of}

inverter : List ℕ
inverter = 1 ∷ 0 ∷ 2 ∷ 0 ∷ 1 ∷ 2 ∷ 0 ∷ 3 ∷ 2 ∷ 2 ∷ 1 ∷ 3 ∷ 0 ∷ 3 ∷ 1 ∷ 2 ∷ 0 ∷ 3 ∷ 0 ∷ 3 ∷ 0 ∷ 2 ∷ 0 ∷ 5 ∷ 0 ∷ 4 ∷ 1 ∷ 255 ∷ 0 ∷ 1 ∷ 6 ∷ 0 ∷ 1 ∷ 48 ∷ 6 ∷ 0 ∷ 1 ∷ 49 ∷ 6 ∷ 0 ∷ 1 ∷ 88 ∷ []

size : length inverter ≡ 42
unfolding inverter
size = refl

read-inverter : reading_of inverter ≡ accepted (record {
  inputs = 1;
  types = record { highest = 2; output = 2; labels = 1; edges = record { first = 1; second = 2; channel = channel_p; label = 0; tag = by_position } ∷ record { first = 0; second = 2; channel = channel_n; label = 0; tag = by_position } ∷ [] } ∷ [];
  bridges = [];
  instances = record { type = 1; choice = exhaustive; references = primary 1 ∷ [] } ∷ [];
  vectors = (at0 ∷ []) ∷ (at1 ∷ []) ∷ (at_x ∷ []) ∷ [];
})
unfolding inverter n_end n_ends bad_ends reading_with read_from unless field_tests end_tests first_of body_tests inputs_tests type_tests edge_tests edge_tests_of bridge_tests instance_tests instance_tests_of vector_tests is_kind is_edge may_follow unjudged not_complementary is_empty list_unsuited list_empty is_letter tag_of type_in edges_told edges_in references_in instance_in letter_of vector_in latest with_edges edges_added taken type_at_after known_after signed choice_of choice_in_range reference_of reference_good two_bytes cut_in cut_from numbered exhaustive_size chosen_size fault_count user_list bit table joins renamings part_of_node rename all_below one_rail is_complementary all_of in_range type_in_range edge_in_range links_of setting_of value_of_bit transistor_on channel_of p_ends edge_on edges_for edges_in_range between links
read-inverter = refl

read-empty : reading_of [] ≡ refusal 14 0
unfolding reading_with read_from unless end_tests first_of unjudged cut_in cut_from is_empty
read-empty = refl

read-one-byte : reading_of (1 ∷ []) ≡ refusal 2 0
unfolding reading_with read_from unless cut_in cut_from two_bytes
read-one-byte = refl

-- ---- references to instances

-- one input, and the inverter's type; its fields end at byte 23
begin : List ℕ
begin = 1 ∷ 0 ∷ 2 ∷ 0 ∷ 1 ∷ 2 ∷ 0 ∷ 3 ∷ 2 ∷ 2 ∷ 1 ∷ 3 ∷ 0 ∷ 3 ∷ 1 ∷ 2 ∷ 0 ∷ 3 ∷ 0 ∷ 3 ∷ 0 ∷ 2 ∷ 0 ∷ []

-- an instance of that type without faults, and the two bytes of its reference
instance_with : ℕ → ℕ → List ℕ
instance_with high low = 5 ∷ 0 ∷ 4 ∷ 1 ∷ 0 ∷ high ∷ low ∷ []

vector : List ℕ
vector = 6 ∷ 0 ∷ 1 ∷ 48 ∷ []

-- a file whose second instance has this reference; its field stands at byte 30
with_second : ℕ → ℕ → List ℕ
with_second high low = begin ++ instance_with 0 1 ++ instance_with high low ++ vector

-- in instance 2 a reference of -1 is good, -2 or 0 is 10; in instance 1 a reference of -1 is 10
read-references : (reading_of (with_second 255 255) ≡ accepted (record {
  inputs = 1;
  types = record { highest = 2; output = 2; labels = 1; edges = record { first = 1; second = 2; channel = channel_p; label = 0; tag = by_position } ∷ record { first = 0; second = 2; channel = channel_n; label = 0; tag = by_position } ∷ [] } ∷ [];
  bridges = [];
  instances = record { type = 1; choice = no_faults; references = primary 1 ∷ [] } ∷ record { type = 1; choice = no_faults; references = output_of 1 ∷ [] } ∷ [];
  vectors = (at0 ∷ []) ∷ [];
}))
    × ((reading_of (with_second 255 254) ≡ refusal 10 30)
    × ((reading_of (with_second 0 0) ≡ refusal 10 30)
    × (reading_of (begin ++ instance_with 255 255 ++ vector) ≡ refusal 10 23)))
unfolding begin instance_with vector with_second n_end n_ends bad_ends reading_with read_from unless field_tests end_tests first_of body_tests inputs_tests type_tests edge_tests edge_tests_of bridge_tests instance_tests instance_tests_of vector_tests is_kind is_edge may_follow unjudged not_complementary is_empty list_unsuited list_empty is_letter tag_of type_in edges_told edges_in references_in instance_in letter_of vector_in latest with_edges edges_added taken type_at_after known_after signed choice_of choice_in_range reference_of reference_good two_bytes cut_in cut_from numbered exhaustive_size chosen_size fault_count user_list bit table joins renamings part_of_node rename all_below one_rail is_complementary all_of in_range type_in_range edge_in_range links_of setting_of value_of_bit transistor_on channel_of p_ends edge_on edges_for edges_in_range between links
read-references = (refl, (refl, (refl, refl)))

-- ---- bridges

-- a kind 0 bridge with equal ends is 7, and so is one of a third kind
read-bridges : (reading_of (begin ++ (4 ∷ 0 ∷ 4 ∷ 1 ∷ 0 ∷ 2 ∷ 2 ∷ [])) ≡ refusal 7 23)
    × (reading_of (begin ++ (4 ∷ 0 ∷ 4 ∷ 1 ∷ 2 ∷ 2 ∷ 0 ∷ [])) ≡ refusal 7 23)
unfolding begin n_end n_ends bad_ends reading_with read_from unless field_tests end_tests first_of body_tests inputs_tests type_tests edge_tests edge_tests_of bridge_tests bridge_in_range listed_good bridge_good bridge_of instance_tests instance_tests_of vector_tests is_kind is_edge may_follow unjudged not_complementary is_empty list_unsuited list_empty is_letter tag_of type_in edges_told edges_in references_in instance_in letter_of vector_in latest with_edges edges_added taken type_at_after known_after signed choice_of choice_in_range reference_of reference_good two_bytes cut_in cut_from numbered exhaustive_size chosen_size fault_count user_list bit table joins renamings part_of_node rename all_below one_rail is_complementary all_of in_range type_in_range edge_in_range links_of setting_of value_of_bit transistor_on channel_of p_ends edge_on edges_for edges_in_range between links
read-bridges = (refl, refl)
