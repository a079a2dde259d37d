-- No two outcomes of a call meet the contract of a public function. A field for each public function of each library, save those that
-- docs/OPEN.md lists with what they leave open; .ci/parts/7-statements holds the names together. No clause is repeated here: a field speaks
-- of the contract that the kit makes of the function's own `requires` and `ensures` (CodeCalls), so the kernel compares.
use Rattle.std.specs.Prelude.{ℕ, ◌≡◌, Option, Some, None}
use contract.Lifetimes.{Lfts}
use denote.Triple.Entry.{Args, Res}
use denote.Triple.Clauses.{Ended, at_exit}
use Rattle.read_fields.specs.declared.Field.{Field}
use Rattle.read_fields.specs.declared.Step.{Step}
use Rattle.read_fields.specs.declared.Step.TheVariants.{Whole, Broken, End}
use Rattle.demands.specs.CodeCalls.{AskedBy, ToldBy, AsksNothing, AtReturn}
use Rattle.words.specs.contracts.marks as words_marks
use Rattle.words.proofs.marks.Reads as words_marks_reads
use Rattle.words.specs.contracts.first_mark as words_first_mark
use Rattle.words.proofs.first_mark.Reads as words_first_mark_reads
use Rattle.words.specs.contracts.first_ones as words_first_ones
use Rattle.words.proofs.first_ones.Reads as words_first_ones_reads
use Rattle.print_lines.specs.contracts.put_byte as print_lines_put_byte
use Rattle.print_lines.proofs.put_byte.Reads as print_lines_put_byte_reads
use Rattle.print_lines.specs.contracts.put_bytes as print_lines_put_bytes
use Rattle.print_lines.proofs.put_bytes.Reads as print_lines_put_bytes_reads
use Rattle.print_lines.specs.contracts.put_number as print_lines_put_number
use Rattle.print_lines.proofs.put_number.Reads as print_lines_put_number_reads
use Rattle.print_lines.specs.contracts.give as print_lines_give
use Rattle.print_lines.proofs.give.Reads as print_lines_give_reads
use Rattle.print_lines.specs.contracts.refusal_line as print_lines_refusal_line
use Rattle.print_lines.proofs.refusal_line.Reads as print_lines_refusal_line_reads
use Rattle.switch.specs.contracts.Edge.new as switch_edge_new
use Rattle.switch.proofs.Edge.new.Reads as switch_edge_new_reads
use Rattle.switch.specs.contracts.Edge.first as switch_edge_first
use Rattle.switch.proofs.Edge.first.Reads as switch_edge_first_reads
use Rattle.switch.specs.contracts.Edge.second as switch_edge_second
use Rattle.switch.proofs.Edge.second.Reads as switch_edge_second_reads
use Rattle.switch.specs.contracts.Edge.label as switch_edge_label
use Rattle.switch.proofs.Edge.label.Reads as switch_edge_label_reads
use Rattle.switch.specs.contracts.Edge.gate as switch_edge_gate
use Rattle.switch.proofs.Edge.gate.Reads as switch_edge_gate_reads
use Rattle.switch.specs.contracts.Edge.is_p as switch_edge_is_p
use Rattle.switch.proofs.Edge.is_p.Reads as switch_edge_is_p_reads
use Rattle.switch.specs.contracts.Edge.is_stated as switch_edge_is_stated
use Rattle.switch.proofs.Edge.is_stated.Reads as switch_edge_is_stated_reads
use Rattle.switch.specs.contracts.EdgeDefault.default as switch_edge_default
use Rattle.switch.proofs.EdgeDefault.default.Reads as switch_edge_default_reads
use Rattle.switch.specs.contracts.ModuleTypeDefault.default as switch_module_type_default
use Rattle.switch.proofs.ModuleTypeDefault.default.Reads as switch_module_type_default_reads
use Rattle.join_nodes.specs.contracts.complementary.complementary as join_nodes_complementary
use Rattle.join_nodes.proofs.complementary.complementary.Reads as join_nodes_complementary_reads
use Rattle.join_nodes.specs.contracts.complementary.check_type as join_nodes_check_type
use Rattle.join_nodes.proofs.complementary.check_type.Reads as join_nodes_check_type_reads
use Rattle.join_nodes.specs.contracts.rails.joining as join_nodes_joining
use Rattle.join_nodes.proofs.rails.joining.Reads as join_nodes_joining_reads
use Rattle.join_nodes.specs.contracts.rails.join_type as join_nodes_join_type
use Rattle.join_nodes.proofs.rails.join_type.Reads as join_nodes_join_type_reads
use Rattle.join_nodes.specs.contracts.rails.output_planes as join_nodes_output_planes
use Rattle.join_nodes.proofs.rails.output_planes.Reads as join_nodes_output_planes_reads
use Rattle.circuit.specs.contracts.order.states_channel as circuit_states_channel
use Rattle.circuit.proofs.order.states_channel.Reads as circuit_states_channel_reads
use Rattle.circuit.specs.contracts.order.KindFromU8.from as circuit_kind_from
use Rattle.circuit.proofs.order.KindFromU8.from.Reads as circuit_kind_from_reads
use Rattle.circuit.specs.contracts.refusal.Refusal.number as circuit_refusal_number
use Rattle.circuit.proofs.refusal.Refusal.number.Reads as circuit_refusal_number_reads
use Rattle.circuit.specs.contracts.refusal.Refusal.place as circuit_refusal_place
use Rattle.circuit.proofs.refusal.Refusal.place.Reads as circuit_refusal_place_reads
use Rattle.circuit.specs.contracts.BridgeDefault.default as circuit_bridge_default
use Rattle.circuit.proofs.BridgeDefault.default.Reads as circuit_bridge_default_reads
use Rattle.circuit.specs.contracts.ReferenceDefault.default as circuit_reference_default
use Rattle.circuit.proofs.ReferenceDefault.default.Reads as circuit_reference_default_reads
use Rattle.circuit.specs.contracts.InstanceDefault.default as circuit_instance_default
use Rattle.circuit.proofs.InstanceDefault.default.Reads as circuit_instance_default_reads
use Rattle.circuit.specs.contracts.VectorDefault.default as circuit_vector_default
use Rattle.circuit.proofs.VectorDefault.default.Reads as circuit_vector_default_reads
use Rattle.read_fields.specs.contracts.Field.byte as read_fields_field_byte
use Rattle.read_fields.proofs.Field.byte.Reads as read_fields_field_byte_reads
use Rattle.read_fields.specs.contracts.Field.two_bytes as read_fields_field_two_bytes
use Rattle.read_fields.proofs.Field.two_bytes.Reads as read_fields_field_two_bytes_reads
use Rattle.read_fields.specs.contracts.Step.of_kind as read_fields_step_of_kind
use Rattle.read_fields.proofs.Step.of_kind.Reads as read_fields_step_of_kind_reads
use Rattle.read_fields.specs.contracts.cursor.Reader.new as read_fields_reader_new
use Rattle.read_fields.proofs.cursor.Reader.new.Reads as read_fields_reader_new_reads
use Rattle.read_fields.specs.contracts.cursor.Reader.step as read_fields_reader_step
use Rattle.read_fields.proofs.cursor.Reader.step.Reads as read_fields_reader_step_reads
use Rattle.read_fields.specs.contracts.cursor.Reader.next_of as read_fields_reader_next_of
use Rattle.read_fields.proofs.cursor.Reader.next_of.Reads as read_fields_reader_next_of_reads
use Rattle.read_types.specs.contracts.types.read_types as read_types_read_types
use Rattle.read_types.proofs.types.read_types.Reads as read_types_read_types_reads
use Rattle.read_bridges.specs.contracts.lists.lists_of as read_bridges_lists_of
use Rattle.read_bridges.proofs.lists.lists_of.Reads as read_bridges_lists_of_reads
use Rattle.read_bridges.specs.contracts.lists.ListSumDefault.default as read_bridges_list_sum_default
use Rattle.read_bridges.proofs.lists.ListSumDefault.default.Reads as read_bridges_list_sum_default_reads
use Rattle.read_bridges.specs.contracts.read_bridges as read_bridges_read_bridges
use Rattle.read_bridges.proofs.read_bridges.Reads as read_bridges_read_bridges_reads
use Rattle.read_instances.specs.contracts.read_instances as read_instances_read_instances
use Rattle.read_instances.proofs.read_instances.Reads as read_instances_read_instances_reads
use Rattle.read_vectors.specs.contracts.read_vectors as read_vectors_read_vectors
use Rattle.read_vectors.proofs.read_vectors.Reads as read_vectors_read_vectors_reads
use Rattle.read_file.specs.contracts.read.read_stages as read_file_read_stages
use Rattle.read_file.proofs.read.read_stages.Reads as read_file_read_stages_reads
use Rattle.read_file.specs.contracts.read.read as read_file_read
use Rattle.read_file.proofs.read.read.Reads as read_file_read_reads
use Rattle.grading.specs.contracts.Ungraded.number as grading_ungraded_number
use Rattle.grading.proofs.Ungraded.number.Reads as grading_ungraded_number_reads
use Rattle.grading.specs.contracts.Ungraded.place as grading_ungraded_place
use Rattle.grading.proofs.Ungraded.place.Reads as grading_ungraded_place_reads
use Rattle.grading.specs.contracts.CountsDefault.default as grading_counts_default
use Rattle.grading.proofs.CountsDefault.default.Reads as grading_counts_default_reads
use Rattle.grading.specs.contracts.UngradedFromRefusal.from as grading_ungraded_from
use Rattle.grading.proofs.UngradedFromRefusal.from.Reads as grading_ungraded_from_reads
use Rattle.grading.specs.contracts.answers.number_of as grading_number_of
use Rattle.grading.proofs.answers.number_of.Reads as grading_number_of_reads
use Rattle.grading.specs.contracts.answers.place_of as grading_place_of
use Rattle.grading.proofs.answers.place_of.Reads as grading_place_of_reads
use Rattle.grading.specs.contracts.answers.counts_of as grading_counts_of
use Rattle.grading.proofs.answers.counts_of.Reads as grading_counts_of_reads
use Rattle.grading.specs.contracts.codes.pack as grading_pack
use Rattle.grading.proofs.codes.pack.Reads as grading_pack_reads
use Rattle.grading.specs.contracts.codes.instance_in as grading_instance_in
use Rattle.grading.proofs.codes.instance_in.Reads as grading_instance_in_reads
use Rattle.grading.specs.contracts.codes.kind_in as grading_kind_in
use Rattle.grading.proofs.codes.kind_in.Reads as grading_kind_in_reads
use Rattle.grading.specs.contracts.codes.first_in as grading_first_in
use Rattle.grading.proofs.codes.first_in.Reads as grading_first_in_reads
use Rattle.grading.specs.contracts.codes.second_in as grading_second_in
use Rattle.grading.proofs.codes.second_in.Reads as grading_second_in_reads
use Rattle.grade_rows.specs.contracts.list_rows as grade_rows_list_rows
use Rattle.grade_rows.proofs.list_rows.Reads as grade_rows_list_rows_reads
use Rattle.grade_rows.specs.contracts.rows_of as grade_rows_rows_of
use Rattle.grade_rows.proofs.rows_of.Reads as grade_rows_rows_of_reads
use Rattle.grade_inputs.specs.contracts.put_signals as grade_inputs_put_signals
use Rattle.grade_inputs.proofs.put_signals.Reads as grade_inputs_put_signals_reads
use Rattle.grade_marks.specs.contracts.instance.mark_instance as grade_marks_mark_instance
use Rattle.grade_marks.proofs.instance.mark_instance.Reads as grade_marks_mark_instance_reads
use Rattle.grade_classes.specs.contracts.write_keys as grade_classes_write_keys
use Rattle.grade_classes.proofs.write_keys.Reads as grade_classes_write_keys_reads
use Rattle.grade_classes.specs.contracts.class_rows as grade_classes_class_rows
use Rattle.grade_classes.proofs.class_rows.Reads as grade_classes_class_rows_reads
use Rattle.grade_file.specs.contracts.grade.grade_circuit as grade_file_grade_circuit
use Rattle.grade_file.proofs.grade.grade_circuit.Reads as grade_file_grade_circuit_reads
use Rattle.grade_file.specs.contracts.grade.grade_read as grade_file_grade_read
use Rattle.grade_file.proofs.grade.grade_read.Reads as grade_file_grade_read_reads
use Rattle.grade_file.specs.contracts.grade.grade as grade_file_grade
use Rattle.grade_file.proofs.grade.grade.Reads as grade_file_grade_reads
use Rattle.print_report.specs.contracts.first_line as print_report_first_line
use Rattle.print_report.proofs.first_line.Reads as print_report_first_line_reads
use Rattle.print_report.specs.contracts.row_line as print_report_row_line
use Rattle.print_report.proofs.row_line.Reads as print_report_row_line_reads
use Rattle.print_report.specs.contracts.rounds_line as print_report_rounds_line
use Rattle.print_report.proofs.rounds_line.Reads as print_report_rounds_line_reads
use Rattle.print_report.specs.contracts.report_piece as print_report_report_piece
use Rattle.print_report.proofs.report_piece.Reads as print_report_report_piece_reads
use Rattle.program_io.specs.contracts.output.OutputDefault.default as program_io_output_default
use Rattle.program_io.proofs.output.OutputDefault.default.Reads as program_io_output_default_reads
use Rattle.print_circuit.specs.contracts.show_piece as print_circuit_show_piece
use Rattle.print_circuit.proofs.show_piece.Reads as print_circuit_show_piece_reads
use Rattle.togyamiru.specs.contracts.togyamiru_grade as togyamiru_grade
use Rattle.togyamiru.proofs.togyamiru_grade.Reads as togyamiru_grade_reads
use Rattle.togyamiru.specs.contracts.togyamiru_grade_numbers as togyamiru_grade_numbers
use Rattle.togyamiru.proofs.togyamiru_grade_numbers.Reads as togyamiru_grade_numbers_reads
use Rattle.togyamiru.specs.contracts.togyamiru_rows as togyamiru_rows
use Rattle.togyamiru.proofs.togyamiru_rows.Reads as togyamiru_rows_reads
use Rattle.bench_check.specs.contracts.bench_check as bench_check
use Rattle.bench_check.proofs.bench_check.Reads as bench_check_reads

abbrev pub OneOutcome : (F : Ended) → AskedBy F → ToldBy F → Type 0
OneOutcome F Asked Told =
    (κs : Lfts F.signature.lifetimes) (a : Args F.signature κs) → Asked κs a → (one other : AtReturn F κs a)
    → Told κs a one.0 (at_exit F κs a one.1) → Told κs a other.0 (at_exit F κs a other.1) → one ≡ other

-- a function that asks nothing
pub record Sole (F : Ended) (Asked : AskedBy F) (Told : ToldBy F) : Type 0 where
  pub asks_nothing : AsksNothing F Asked
  pub one_outcome : OneOutcome F Asked Told

-- a function with a `requires`: some arguments meet it, so that its one outcome says something. Met says more of those that ask for what
-- was read or graded
pub record SoleWhereMet (F : Ended) (Asked : AskedBy F) (Told : ToldBy F) : Type 0 where
  pub can_be_met : (κs : Lfts F.signature.lifetimes) → (a : Args F.signature κs) × Asked κs a
  pub one_outcome : OneOutcome F Asked Told

-- ---- what is handed out of what was lent

-- where a slice lies: a block, and a place in it
abbrev pub Address : Type 0
Address = ℕ × ℕ

-- a field whose body lies at another address; and so what the reader tells
abbrev pub field_at : Address → Field → Field
field_at p f = record { at = f.at; tag = f.tag; body = record { ref_ptr = p; now = f.body.now } }

abbrev pub step_at : Address → Step → Step
step_at p (Whole f) = Whole (field_at p f)
step_at p Broken = Broken
step_at p End = End

abbrev pub found_at : Address → Option Field → Option Field
found_at p (Some f) = Some (field_at p f)
found_at p None = None

-- a function that asks nothing and hands out a slice, of which no clause says where it lies: one outcome is the other with its slice at
-- some address
pub record SoleButForAddress (F : Ended) (Asked : AskedBy F) (Told : ToldBy F)
    (moved : (κs : Lfts F.signature.lifetimes) → Address → Res F.signature κs → Res F.signature κs) : Type 0 where
  pub asks_nothing : AsksNothing F Asked
  pub one_outcome : (κs : Lfts F.signature.lifetimes) (a : Args F.signature κs) → Asked κs a → (one other : AtReturn F κs a)
      → Told κs a one.0 (at_exit F κs a one.1) → Told κs a other.0 (at_exit F κs a other.1)
      → (p : Address) × (one ≡ (moved κs p other.0, other.1))

pub record Unique : Type 0 where
  pub words_marks : Sole words_marks.ended words_marks_reads.Asked words_marks_reads.Learnt
  pub words_first_mark : Sole words_first_mark.ended words_first_mark_reads.Asked words_first_mark_reads.Learnt
  pub words_first_ones : Sole words_first_ones.ended words_first_ones_reads.Asked words_first_ones_reads.Learnt
  pub print_lines_put_byte : SoleWhereMet print_lines_put_byte.ended print_lines_put_byte_reads.Asked print_lines_put_byte_reads.Learnt
  pub print_lines_put_bytes : SoleWhereMet print_lines_put_bytes.ended print_lines_put_bytes_reads.Asked print_lines_put_bytes_reads.Learnt
  pub print_lines_put_number :
      SoleWhereMet print_lines_put_number.ended print_lines_put_number_reads.Asked print_lines_put_number_reads.Learnt
  pub print_lines_give : Sole print_lines_give.ended print_lines_give_reads.Asked print_lines_give_reads.Learnt
  pub print_lines_refusal_line :
      Sole print_lines_refusal_line.ended print_lines_refusal_line_reads.Asked print_lines_refusal_line_reads.Learnt
  pub switch_edge_new : SoleWhereMet switch_edge_new.ended switch_edge_new_reads.Asked switch_edge_new_reads.Learnt
  pub switch_edge_first : Sole switch_edge_first.ended switch_edge_first_reads.Asked switch_edge_first_reads.Learnt
  pub switch_edge_second : Sole switch_edge_second.ended switch_edge_second_reads.Asked switch_edge_second_reads.Learnt
  pub switch_edge_label : Sole switch_edge_label.ended switch_edge_label_reads.Asked switch_edge_label_reads.Learnt
  pub switch_edge_gate : Sole switch_edge_gate.ended switch_edge_gate_reads.Asked switch_edge_gate_reads.Learnt
  pub switch_edge_is_p : Sole switch_edge_is_p.ended switch_edge_is_p_reads.Asked switch_edge_is_p_reads.Learnt
  pub switch_edge_is_stated : Sole switch_edge_is_stated.ended switch_edge_is_stated_reads.Asked switch_edge_is_stated_reads.Learnt
  pub switch_edge_default : Sole switch_edge_default.ended switch_edge_default_reads.Asked switch_edge_default_reads.Learnt
  pub switch_module_type_default :
      Sole switch_module_type_default.ended switch_module_type_default_reads.Asked switch_module_type_default_reads.Learnt
  pub join_nodes_complementary :
      SoleWhereMet join_nodes_complementary.ended join_nodes_complementary_reads.Asked join_nodes_complementary_reads.Learnt
  pub join_nodes_check_type : SoleWhereMet join_nodes_check_type.ended join_nodes_check_type_reads.Asked join_nodes_check_type_reads.Learnt
  pub join_nodes_joining : SoleWhereMet join_nodes_joining.ended join_nodes_joining_reads.Asked join_nodes_joining_reads.Learnt
  pub join_nodes_join_type : SoleWhereMet join_nodes_join_type.ended join_nodes_join_type_reads.Asked join_nodes_join_type_reads.Learnt
  pub join_nodes_output_planes :
      Sole join_nodes_output_planes.ended join_nodes_output_planes_reads.Asked join_nodes_output_planes_reads.Learnt
  pub circuit_states_channel : Sole circuit_states_channel.ended circuit_states_channel_reads.Asked circuit_states_channel_reads.Learnt
  pub circuit_kind_from : Sole circuit_kind_from.ended circuit_kind_from_reads.Asked circuit_kind_from_reads.Learnt
  pub circuit_refusal_number : Sole circuit_refusal_number.ended circuit_refusal_number_reads.Asked circuit_refusal_number_reads.Learnt
  pub circuit_refusal_place : Sole circuit_refusal_place.ended circuit_refusal_place_reads.Asked circuit_refusal_place_reads.Learnt
  pub circuit_bridge_default : Sole circuit_bridge_default.ended circuit_bridge_default_reads.Asked circuit_bridge_default_reads.Learnt
  pub circuit_reference_default :
      Sole circuit_reference_default.ended circuit_reference_default_reads.Asked circuit_reference_default_reads.Learnt
  pub circuit_instance_default :
      Sole circuit_instance_default.ended circuit_instance_default_reads.Asked circuit_instance_default_reads.Learnt
  pub circuit_vector_default : Sole circuit_vector_default.ended circuit_vector_default_reads.Asked circuit_vector_default_reads.Learnt
  pub read_fields_field_byte : Sole read_fields_field_byte.ended read_fields_field_byte_reads.Asked read_fields_field_byte_reads.Learnt
  pub read_fields_field_two_bytes :
      Sole read_fields_field_two_bytes.ended read_fields_field_two_bytes_reads.Asked read_fields_field_two_bytes_reads.Learnt
  pub read_fields_step_of_kind :
      Sole read_fields_step_of_kind.ended read_fields_step_of_kind_reads.Asked read_fields_step_of_kind_reads.Learnt
  pub read_fields_reader_new : Sole read_fields_reader_new.ended read_fields_reader_new_reads.Asked read_fields_reader_new_reads.Learnt
  pub read_fields_reader_step :
      SoleButForAddress read_fields_reader_step.ended read_fields_reader_step_reads.Asked read_fields_reader_step_reads.Learnt
      (λ κs. step_at)
  pub read_fields_reader_next_of :
      SoleButForAddress read_fields_reader_next_of.ended read_fields_reader_next_of_reads.Asked read_fields_reader_next_of_reads.Learnt
      (λ κs. found_at)
  pub read_types_read_types : SoleWhereMet read_types_read_types.ended read_types_read_types_reads.Asked read_types_read_types_reads.Learnt
  pub read_bridges_lists_of : SoleWhereMet read_bridges_lists_of.ended read_bridges_lists_of_reads.Asked read_bridges_lists_of_reads.Learnt
  pub read_bridges_list_sum_default :
      Sole read_bridges_list_sum_default.ended read_bridges_list_sum_default_reads.Asked read_bridges_list_sum_default_reads.Learnt
  pub read_bridges_read_bridges :
      SoleWhereMet read_bridges_read_bridges.ended read_bridges_read_bridges_reads.Asked read_bridges_read_bridges_reads.Learnt
  pub read_instances_read_instances :
      SoleWhereMet read_instances_read_instances.ended read_instances_read_instances_reads.Asked read_instances_read_instances_reads.Learnt
  pub read_vectors_read_vectors :
      SoleWhereMet read_vectors_read_vectors.ended read_vectors_read_vectors_reads.Asked read_vectors_read_vectors_reads.Learnt
  pub read_file_read_stages : Sole read_file_read_stages.ended read_file_read_stages_reads.Asked read_file_read_stages_reads.Learnt
  pub read_file_read : Sole read_file_read.ended read_file_read_reads.Asked read_file_read_reads.Learnt
  pub grading_ungraded_number : Sole grading_ungraded_number.ended grading_ungraded_number_reads.Asked grading_ungraded_number_reads.Learnt
  pub grading_ungraded_place : Sole grading_ungraded_place.ended grading_ungraded_place_reads.Asked grading_ungraded_place_reads.Learnt
  pub grading_counts_default : Sole grading_counts_default.ended grading_counts_default_reads.Asked grading_counts_default_reads.Learnt
  pub grading_ungraded_from : Sole grading_ungraded_from.ended grading_ungraded_from_reads.Asked grading_ungraded_from_reads.Learnt
  pub grading_number_of : Sole grading_number_of.ended grading_number_of_reads.Asked grading_number_of_reads.Learnt
  pub grading_place_of : Sole grading_place_of.ended grading_place_of_reads.Asked grading_place_of_reads.Learnt
  pub grading_counts_of : Sole grading_counts_of.ended grading_counts_of_reads.Asked grading_counts_of_reads.Learnt
  pub grading_pack : SoleWhereMet grading_pack.ended grading_pack_reads.Asked grading_pack_reads.Learnt
  pub grading_instance_in : Sole grading_instance_in.ended grading_instance_in_reads.Asked grading_instance_in_reads.Learnt
  pub grading_kind_in : Sole grading_kind_in.ended grading_kind_in_reads.Asked grading_kind_in_reads.Learnt
  pub grading_first_in : Sole grading_first_in.ended grading_first_in_reads.Asked grading_first_in_reads.Learnt
  pub grading_second_in : Sole grading_second_in.ended grading_second_in_reads.Asked grading_second_in_reads.Learnt
  pub grade_rows_list_rows : SoleWhereMet grade_rows_list_rows.ended grade_rows_list_rows_reads.Asked grade_rows_list_rows_reads.Learnt
  pub grade_rows_rows_of : SoleWhereMet grade_rows_rows_of.ended grade_rows_rows_of_reads.Asked grade_rows_rows_of_reads.Learnt
  pub grade_inputs_put_signals :
      SoleWhereMet grade_inputs_put_signals.ended grade_inputs_put_signals_reads.Asked grade_inputs_put_signals_reads.Learnt
  pub grade_marks_mark_instance :
      SoleWhereMet grade_marks_mark_instance.ended grade_marks_mark_instance_reads.Asked grade_marks_mark_instance_reads.Learnt
  pub grade_classes_write_keys :
      SoleWhereMet grade_classes_write_keys.ended grade_classes_write_keys_reads.Asked grade_classes_write_keys_reads.Learnt
  pub grade_classes_class_rows :
      SoleWhereMet grade_classes_class_rows.ended grade_classes_class_rows_reads.Asked grade_classes_class_rows_reads.Learnt
  pub grade_file_grade_circuit :
      SoleWhereMet grade_file_grade_circuit.ended grade_file_grade_circuit_reads.Asked grade_file_grade_circuit_reads.Learnt
  pub grade_file_grade_read : SoleWhereMet grade_file_grade_read.ended grade_file_grade_read_reads.Asked grade_file_grade_read_reads.Learnt
  pub grade_file_grade : Sole grade_file_grade.ended grade_file_grade_reads.Asked grade_file_grade_reads.Learnt
  pub print_report_first_line : Sole print_report_first_line.ended print_report_first_line_reads.Asked print_report_first_line_reads.Learnt
  pub print_report_row_line : Sole print_report_row_line.ended print_report_row_line_reads.Asked print_report_row_line_reads.Learnt
  pub print_report_rounds_line :
      Sole print_report_rounds_line.ended print_report_rounds_line_reads.Asked print_report_rounds_line_reads.Learnt
  pub print_report_report_piece :
      Sole print_report_report_piece.ended print_report_report_piece_reads.Asked print_report_report_piece_reads.Learnt
  pub program_io_output_default :
      Sole program_io_output_default.ended program_io_output_default_reads.Asked program_io_output_default_reads.Learnt
  pub print_circuit_show_piece :
      Sole print_circuit_show_piece.ended print_circuit_show_piece_reads.Asked print_circuit_show_piece_reads.Learnt
  pub togyamiru_grade : Sole togyamiru_grade.ended togyamiru_grade_reads.Asked togyamiru_grade_reads.Learnt
  pub togyamiru_grade_numbers :
      Sole togyamiru_grade_numbers.ended togyamiru_grade_numbers_reads.Asked togyamiru_grade_numbers_reads.Learnt
  pub togyamiru_rows : Sole togyamiru_rows.ended togyamiru_rows_reads.Asked togyamiru_rows_reads.Learnt
  pub bench_check : Sole bench_check.ended bench_check_reads.Asked bench_check_reads.Learnt
