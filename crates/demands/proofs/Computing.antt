-- What a file's grading computes with. A proof that says `unfolding computing` may compute readings, matrices, classes and counts of concrete files; with
-- `grader_computing` also what a grader answers. Assumes nothing.
use Prim.Native.Nat.{ℕ}
use mathlib.Core.List.{List}
use lib.ListN.{replicate}
use Rattle.words.specs.Bits.{bit, pack, word, sum_to, greatest_to}
use Rattle.words.specs.Tables.{table, up_to}
use Rattle.words.specs.Rows.{row_of}
use Rattle.switch.specs.Conduction.{channel_bit, channel_by, between, p_ends, n_end, n_ends, bad_ends, channel_of, transistor_on, edges_for, edge_on, links}
use Rattle.switch.specs.Modules.{all_of, any_of, type_in_range, edge_in_range, links_of, value_of_bit, setting_of}
use Rattle.switch.specs.Bridges.{to_label, closing}
use Rattle.switch.specs.Deciding.{rename, part_of_node, renamings, joins, all_below, one_rail, is_complementary, level_in, is_marked}
use Rattle.switch.specs.Depth.{is_among, handed_over, next_nodes, nodes_within, all_joined_among, reaches_all, least_from, depth, deepest}
use Rattle.circuit.specs.Fields.{two_bytes, cut_in, cut_from}
use Rattle.circuit.specs.Circuit.{Circuit, numbered, join_lists, node_pairs, node_inputs, exhaustive_list, exhaustive_size, user_list, chosen, chosen_size, faults_of, fault_count}
use Rattle.circuit.specs.Numbers.{signed, choice_of, choice_in_range, reference_of, reference_good}
use Rattle.circuit.specs.Order.{tag_of, is_kind, is_edge, may_follow}
use Rattle.circuit.specs.Known.{type_in, edges_told, edges_in, bridge_of, listed_in, references_in, instance_in, letter_of, vector_in, latest, with_edges, edges_added, taken, type_at_after, known_after}
use Rattle.circuit.specs.Records.{choice_byte, empty_circuit}
use Rattle.circuit.specs.Table.{first_of, unjudged, not_complementary, bridge_good, listed_good, bridge_in_range, bridge_suits, is_empty, list_unsuited, list_empty, is_letter, edges_in_range, pass_in_range, inputs_tests, type_tests, edge_tests_of, edge_tests, bridge_tests, instance_tests, instance_tests_of, vector_tests, body_tests, field_tests, end_tests}
use Rattle.circuit.specs.Reading.{Reading, accepted, refusal, unless, read_from, reading_with, reading_of}
use Rattle.grading.specs.Buffers.{Buffers, buffers_of}
use Rattle.grading.specs.Values.{value_at, label_values, outputs_after, outputs_of}
use Rattle.grading.specs.Rows.{rows_of_instance, rows_from, rows_of, row_values, cell, mark_of, row_words, matrix_of}
use Rattle.grading.specs.Wires.{node_wire, reference_wire, label_wire, wire_at, carried, leaks}
use Rattle.grading.specs.Classes.{wire_sort, wire_owner, wire_node, same_wire, same_pair, same_class, class_among_by, largest, classes_after_by, classes_by, has_mark_by, class_found_by, found_by, found_count}
use Rattle.grading.specs.Rounds.{type_at, values_at, links_at, instance_rounds, rounds_of}
use Rattle.grading.specs.Grading.{counts_of_circuit, grading_of_circuit, after_reading, grading_of, counts_in, number_in, place_in, over, buffers_after}
use Rattle.demands.specs.Graders.{refusal_of, refusing, outcome_of, grades_by, work_by, marks_by, right_work, rightly, read_taking, taking_and_testing}

-- to unfold a definition is to unfold what its line names
unfoldable pub computing : Unit {0}
unfolding bit pack word sum_to greatest_to table up_to row_of choice_byte
    channel_bit channel_by between p_ends n_end n_ends bad_ends channel_of transistor_on edges_for edge_on links all_of any_of type_in_range edge_in_range links_of value_of_bit setting_of
    to_label closing rename part_of_node renamings joins all_below one_rail is_complementary level_in is_marked is_among handed_over next_nodes nodes_within all_joined_among reaches_all least_from depth deepest
    two_bytes cut_in cut_from numbered join_lists node_pairs node_inputs exhaustive_list exhaustive_size user_list chosen chosen_size faults_of fault_count
    signed choice_of choice_in_range reference_of reference_good
    tag_of is_kind is_edge may_follow type_in edges_told edges_in bridge_of listed_in references_in instance_in letter_of vector_in latest with_edges edges_added taken type_at_after known_after
    type_at values_at links_at instance_rounds rounds_of
    first_of unjudged not_complementary bridge_good listed_good bridge_in_range bridge_suits is_empty list_unsuited list_empty is_letter edges_in_range pass_in_range
    inputs_tests type_tests edge_tests_of edge_tests bridge_tests instance_tests instance_tests_of vector_tests body_tests field_tests end_tests
    unless read_from reading_with value_at label_values outputs_after outputs_of rows_of_instance rows_from rows_of row_values cell mark_of row_words matrix_of
    node_wire reference_wire label_wire wire_at carried leaks wire_sort wire_owner wire_node same_wire same_pair same_class class_among_by largest classes_after_by classes_by has_mark_by class_found_by found_by found_count
    counts_of_circuit grading_of_circuit after_reading grading_of counts_in number_in place_in over buffers_after
computing = tt

-- and what a grader of specs/Graders does
unfoldable pub grader_computing : Unit {0}
unfolding computing
    refusal_of refusing outcome_of grades_by work_by marks_by right_work rightly read_taking taking_and_testing
grader_computing = tt

-- the circuit that a file tells
unfoldable pub told_by : Reading → Circuit
told_by (accepted c) = c
told_by (refusal number place) = empty_circuit

abbrev pub circuit_of : List ℕ → Circuit
circuit_of file = told_by (reading_of file)

-- buffers that hold zeros, enough for 16 rows
abbrev pub blank : Buffers
blank = buffers_of (replicate 64 0) (replicate 16 0)
