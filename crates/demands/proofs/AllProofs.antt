-- All statements, proved: each field of AllProved by the theorem of its name.
use Rattle.demands.specs.Proved.{AllProved}
use Rattle.circuit.proofs.GatheredLaws.{gathered_is_before, before_is_circuit}
use Rattle.print_lines.proofs.PieceLaws.{one_piece, pieces_join, piece_moves}
use Rattle.print_report.proofs.ReportLaws.{report_is_lines, lines_fit}
use Rattle.print_report.proofs.HeldIsReport.{rows_are_held}
use Rattle.print_circuit.proofs.ToldLaws.{told_is_reading, told_is_listing, accepted_listing}
use Rattle.demands.proofs.OneProof.{one_holds, grading_keeps_the_rest}
use Rattle.demands.proofs.RightProof.{promise_can_be_met, rightly_is_right}
use Rattle.demands.proofs.Outcomes.{one_outcome_only}
use Rattle.demands.proofs.SettledValues.{values_are_paths}
use Rattle.demands.proofs.Cells.{cell_is_path}
use Rattle.demands.proofs.Floating.{floating_never_marks}
use Rattle.demands.proofs.Columns.{column_is_of_its_vector}
use Rattle.demands.proofs.ClassCounts.{classes_count_once}
use Rattle.demands.proofs.NamedAgain.{naming_again_adds_nothing, other_end_adds_nothing}
use Rattle.demands.proofs.WireTies.{wires_are_ties, classes_are_ties}
use Rattle.demands.proofs.WiresBefore.{ends_are_two_wires, in_one_instance_as_before}
use Rattle.demands.proofs.SharedShorts.{shared_shorts_are_at_a_rail}
use Rattle.demands.proofs.OneWireProof.{one_wire_one_level, marks_are_of_wires, one_short_one_mark, rows_of_one_class_are_equal}
use Rattle.demands.proofs.WireExamples.{shorts_named_elsewhere}
use Rattle.demands.proofs.ShortsCounted.{more_shorts_count_no_fewer, same_shorts_count_alike}
use Rattle.demands.proofs.Refining.{three_holds, marks_hold_under_every_filling}
use Rattle.demands.proofs.NoConverseProof.{no_converse}
use Rattle.demands.proofs.AlikeFilesProof.{alike_files_read_alike, finer_files_read_refined, rows_are_of_the_head, column_is_of_its_field}
use Rattle.demands.proofs.AlikeFilesProof.{three_holds_of_files, marks_hold_in_every_filled_file}
use Rattle.demands.proofs.Fillings.{fillings_are_accepted, fillings_are_graded, refinements_are_graded}
use Rattle.demands.proofs.OtherVectors.{other_vectors_are_accepted}
use Rattle.demands.proofs.FileSplits.{accepted_is_split, split_once}
use Rattle.demands.proofs.AlikeFilesExamples.{not_any_head, nand_refined}
use Rattle.demands.proofs.Determines.{demands_leave_one_outcome, demands_are_the_promise}
use Rattle.demands.proofs.CodeCallsProof.{grade_is_kept, entry_is_kept, numbers_are_kept}
use Rattle.demands.proofs.CircuitCallsProof.{circuit_is_graded_as_file, circuit_answers_as_file, grade_circuit_is_kept}
use Rattle.demands.proofs.CircuitCallsProof.{circuits_meet_two, circuit_column_is_of_its_vector, circuits_meet_three}
use Rattle.demands.proofs.UniqueProof.{unique}
use Rattle.demands.proofs.MetProof.{met_by_every_file}
use Rattle.demands.proofs.KnownProof.{all_known, edges_known}
use Rattle.demands.proofs.PassKnownProof.{passes_known}
use Rattle.demands.proofs.RoundsKnownProof.{rounds_known}
use Rattle.demands.proofs.RoundsProof.{rounds_are_the_greatest_distance, steps_count_the_rounds, joining_counts_distances}
use Rattle.demands.proofs.RoundsProof.{rounds_are_few, rounds_ask_for_no_faults, more_vectors_no_fewer_rounds, filling_may_lower_rounds}
use Rattle.demands.proofs.WrongRoundsProof.{wrong_rounds_are_wrong}
use Rattle.demands.proofs.PassTransistorsProof.{types_are_fields, ends_keep_the_rules, rails_apart_in_files, numbers_of_edges}
use Rattle.demands.proofs.TagsGraded.{tags_change_no_answer}
use Rattle.demands.proofs.PassesBefore.{only_passes_change}
use Rattle.demands.proofs.WrongPasses.{pass_fields_read, wrong_passes_are_wrong}
use Rattle.switch.proofs.Blocks.{blocks_tell}
use Rattle.switch.proofs.Tags.{tags_conduct_nothing}
use Rattle.switch.proofs.Depths.{one_greatest, depth_is_distance, rounds_add_nodes}
use Rattle.switch.proofs.DepthBounds.{rounds_are_distances, at_most_below_highest}
use Rattle.grading.proofs.RoundLaws.{rounds_tell}
use Rattle.switch.proofs.Groups.{groups_link_alike}
use Rattle.demands.proofs.ModuleCheckProof.{nine_as_before, wrong_checks_are_wrong}
use Rattle.demands.proofs.SingleTransistorsProof.{answered_as_before, accepted_as_before}
use Rattle.demands.proofs.WrongEdges.{grouped_fields_read, wrong_edges_are_wrong}
use Rattle.demands.proofs.WrongProof.{refuses_every_is_wrong, skips_nine_is_wrong, skips_fourteen_is_wrong, marks_all_is_wrong, marks_never_is_wrong, leaves_matrix_is_wrong}
use Rattle.demands.proofs.WrongProof.{first_word_only_is_wrong, invents_found_is_wrong, sweeps_once_is_wrong, one_plane_is_wrong, marks_floating_is_wrong, counts_rows_is_wrong}
use Rattle.demands.proofs.WrongProof.{spills_is_wrong, wraps_is_wrong, goes_on_is_wrong, watches_outputs_is_wrong, holds_levels_is_wrong, counts_twice_is_wrong}
use Rattle.demands.proofs.WrongProof.{counts_labels_is_wrong, reads_x_as_zero_is_wrong, keeps_apart_is_wrong, mixes_inner_is_wrong, splits_inputs_is_wrong, writes_past_is_wrong, clears_first_is_wrong}
use Rattle.demands.proofs.MeetsProof.{rightly_meets_all, meet_demand_one, meet_cell_clause, meet_demand_three}
use Rattle.demands.proofs.BreaksProof.{break_demand_one, break_demand_two, break_demand_three}

pub all_proved : AllProved
all_proved = record {
  one_holds = one_holds;
  promise_can_be_met = promise_can_be_met;
  one_outcome_only = one_outcome_only;
  grading_keeps_the_rest = grading_keeps_the_rest;
  values_are_paths = values_are_paths;
  cell_is_path = cell_is_path;
  floating_never_marks = floating_never_marks;
  column_is_of_its_vector = column_is_of_its_vector;
  classes_count_once = classes_count_once;
  naming_again_adds_nothing = naming_again_adds_nothing;
  other_end_adds_nothing = other_end_adds_nothing;
  wires_are_ties = wires_are_ties;
  classes_are_ties = classes_are_ties;
  ends_are_two_wires = ends_are_two_wires;
  in_one_instance_as_before = in_one_instance_as_before;
  shared_shorts_are_at_a_rail = shared_shorts_are_at_a_rail;
  one_wire_one_level = one_wire_one_level;
  marks_are_of_wires = marks_are_of_wires;
  one_short_one_mark = one_short_one_mark;
  rows_of_one_class_are_equal = rows_of_one_class_are_equal;
  more_shorts_count_no_fewer = more_shorts_count_no_fewer;
  same_shorts_count_alike = same_shorts_count_alike;
  shorts_named_elsewhere = shorts_named_elsewhere;
  three_holds = three_holds;
  marks_hold_under_every_filling = marks_hold_under_every_filling;
  no_converse = no_converse;
  alike_files_read_alike = alike_files_read_alike;
  finer_files_read_refined = finer_files_read_refined;
  rows_are_of_the_head = rows_are_of_the_head;
  column_is_of_its_field = column_is_of_its_field;
  three_holds_of_files = three_holds_of_files;
  marks_hold_in_every_filled_file = marks_hold_in_every_filled_file;
  fillings_are_accepted = fillings_are_accepted;
  fillings_are_graded = fillings_are_graded;
  refinements_are_graded = refinements_are_graded;
  other_vectors_are_accepted = other_vectors_are_accepted;
  accepted_is_split = accepted_is_split;
  split_once = split_once;
  not_any_head = not_any_head;
  nand_refined = nand_refined;
  demands_leave_one_outcome = demands_leave_one_outcome;
  demands_are_the_promise = demands_are_the_promise;
  blocks_tell = blocks_tell;
  nine_as_before = nine_as_before;
  wrong_checks_are_wrong = wrong_checks_are_wrong;
  groups_link_alike = groups_link_alike;
  answered_as_before = answered_as_before;
  accepted_as_before = accepted_as_before;
  grouped_fields_read = grouped_fields_read;
  edges_known = edges_known;
  wrong_edges_are_wrong = wrong_edges_are_wrong;
  types_are_fields = types_are_fields;
  ends_keep_the_rules = ends_keep_the_rules;
  rails_apart_in_files = rails_apart_in_files;
  tags_conduct_nothing = tags_conduct_nothing;
  tags_change_no_answer = tags_change_no_answer;
  only_passes_change = only_passes_change;
  numbers_of_edges = numbers_of_edges;
  pass_fields_read = pass_fields_read;
  passes_known = passes_known;
  wrong_passes_are_wrong = wrong_passes_are_wrong;
  one_greatest = one_greatest;
  depth_is_distance = depth_is_distance;
  rounds_add_nodes = rounds_add_nodes;
  rounds_are_distances = rounds_are_distances;
  at_most_below_highest = at_most_below_highest;
  rounds_tell = rounds_tell;
  rounds_are_the_greatest_distance = rounds_are_the_greatest_distance;
  steps_count_the_rounds = steps_count_the_rounds;
  joining_counts_distances = joining_counts_distances;
  rounds_are_few = rounds_are_few;
  rounds_ask_for_no_faults = rounds_ask_for_no_faults;
  more_vectors_no_fewer_rounds = more_vectors_no_fewer_rounds;
  filling_may_lower_rounds = filling_may_lower_rounds;
  rounds_known = rounds_known;
  wrong_rounds_are_wrong = wrong_rounds_are_wrong;
  grade_is_kept = grade_is_kept;
  entry_is_kept = entry_is_kept;
  numbers_are_kept = numbers_are_kept;
  grade_circuit_is_kept = grade_circuit_is_kept;
  circuit_is_graded_as_file = circuit_is_graded_as_file;
  circuit_answers_as_file = circuit_answers_as_file;
  circuits_meet_two = circuits_meet_two;
  circuit_column_is_of_its_vector = circuit_column_is_of_its_vector;
  circuits_meet_three = circuits_meet_three;
  unique = unique;
  met_by_every_file = met_by_every_file;
  one_piece = one_piece;
  pieces_join = pieces_join;
  piece_moves = piece_moves;
  report_is_lines = report_is_lines;
  lines_fit = lines_fit;
  rows_are_held = rows_are_held;
  told_is_reading = told_is_reading;
  told_is_listing = told_is_listing;
  accepted_listing = accepted_listing;
  gathered_is_before = gathered_is_before;
  before_is_circuit = before_is_circuit;
  all_known = all_known;
  rightly_is_right = rightly_is_right;
  refuses_every_is_wrong = refuses_every_is_wrong;
  skips_nine_is_wrong = skips_nine_is_wrong;
  skips_fourteen_is_wrong = skips_fourteen_is_wrong;
  marks_all_is_wrong = marks_all_is_wrong;
  marks_never_is_wrong = marks_never_is_wrong;
  leaves_matrix_is_wrong = leaves_matrix_is_wrong;
  first_word_only_is_wrong = first_word_only_is_wrong;
  invents_found_is_wrong = invents_found_is_wrong;
  sweeps_once_is_wrong = sweeps_once_is_wrong;
  one_plane_is_wrong = one_plane_is_wrong;
  marks_floating_is_wrong = marks_floating_is_wrong;
  counts_rows_is_wrong = counts_rows_is_wrong;
  spills_is_wrong = spills_is_wrong;
  wraps_is_wrong = wraps_is_wrong;
  goes_on_is_wrong = goes_on_is_wrong;
  watches_outputs_is_wrong = watches_outputs_is_wrong;
  holds_levels_is_wrong = holds_levels_is_wrong;
  counts_twice_is_wrong = counts_twice_is_wrong;
  counts_labels_is_wrong = counts_labels_is_wrong;
  reads_x_as_zero_is_wrong = reads_x_as_zero_is_wrong;
  keeps_apart_is_wrong = keeps_apart_is_wrong;
  mixes_inner_is_wrong = mixes_inner_is_wrong;
  splits_inputs_is_wrong = splits_inputs_is_wrong;
  writes_past_is_wrong = writes_past_is_wrong;
  clears_first_is_wrong = clears_first_is_wrong;
  rightly_meets_all = rightly_meets_all;
  meet_demand_one = meet_demand_one;
  meet_cell_clause = meet_cell_clause;
  meet_demand_three = meet_demand_three;
  break_demand_one = break_demand_one;
  break_demand_two = break_demand_two;
  break_demand_three = break_demand_three;
}
