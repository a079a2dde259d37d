-- No two outcomes meet the contract of a public function: `unique`. Most contracts tell by equations; the others are taken apart.
use Prim.Native.Nat.{ℕ}
use mathlib.Core.Path.{◌≡◌, refl, sym, ap, ◌∙◌}
use mathlib.Core.Bool.{Bool, true, false, cond}
use mathlib.Core.List.{List, [], ◌∷◌}
use native.Mathlib.Omega.{arith}
use lib.ListN.{replicate}
use Rattle.std.specs.Prelude.{Option}
use Rattle.switch.specs.Conduction.{channel_p, channel_n, by_position, stated}
use Rattle.circuit.specs.Kinds.{of_kind}
use Rattle.circuit.specs.Reading.{reading_of}
use Rattle.circuit.specs.Records.{unused_instance, unused_vector}
use Rattle.circuit.proofs.AnswerLaws.{answers_unique}
use Rattle.grading.specs.Buffers.{Buffers}
use Rattle.grading.specs.Grading.{Grading}
use Rattle.print_lines.specs.Given.{LineGiven}
use Rattle.print_lines.proofs.PieceLaws.{one_piece}
use Rattle.togyamiru.specs.Entry.{EntryMeets}
use Rattle.togyamiru.specs.NumbersEntry.{NumbersMeet}
use Rattle.togyamiru.proofs.RowsLaws.{rows_once}
use Rattle.demands.specs.Unique.{Unique}
use Rattle.read_types.proofs.TypesOnce.{types_once}
use Rattle.read_bridges.proofs.BridgesOnce.{bridges_once}
use Rattle.read_instances.proofs.InstancesOnce.{instances_once}
use Rattle.read_vectors.proofs.VectorsOnce.{vectors_once}
use Rattle.read_file.proofs.StagesOnce.{stages_once}
use Rattle.demands.proofs.Outcomes.{same_counts, answered_once}
use Rattle.demands.proofs.StepsOnce.{stepped_once, sought_once}
use Rattle.demands.proofs.CanBeMet.{lent, lent_mut, bare_type, edges-given, type_given, bridges-listed, codes_fit, codes_of_none}
use Rattle.demands.proofs.CanBeMet.{held_none, held-at-none, no_signals, first_input, instance-given}
use Rattle.demands.proofs.CanBeMet.{reading_of_none, none_read, circuit-given}

both : {A B : Type 0} {one other : A × B} → one.0 ≡ other.0 → one.1 ≡ other.1 → one ≡ other
both p q i = (p i, q i)

-- lines given into a buffer: a count, and the buffer at exit
given_once : {line out x y : List ℕ} {r s : Option ℕ} → LineGiven line out r x → LineGiven line out s y → (r ≡ s) × (x ≡ y)
given_once g h = (g.count_is ∙ sym h.count_is, g.after_is ∙ sym h.after_is)

-- outcomes of the entries for C that grade: six numbers, or as many as have room, and the buffers at exit
entry_once : {g : Grading} {before after after' : Buffers} {r s : List ℕ}
    → EntryMeets g before r after → EntryMeets g before s after' → (r ≡ s) × (after ≡ after')
entry_once g h = (g.answer_at_exit ∙ sym h.answer_at_exit, g.buffers_at_exit ∙ sym h.buffers_at_exit)

numbers_once : {g : Grading} {before after after' : Buffers} {room r s : List ℕ}
    → NumbersMeet g before room r after → NumbersMeet g before room s after' → (r ≡ s) × (after ≡ after')
numbers_once g h = (g.numbers_at_exit ∙ sym h.numbers_at_exit, g.buffers_at_exit ∙ sym h.buffers_at_exit)

-- a flag is told by the channel, or by the tag, that it stands for
channel_once : (a b : Bool) → cond a channel_p channel_n ≡ cond b channel_p channel_n → a ≡ b
channel_once true true e = refl
channel_once true false e = let z : ◌≡◌ {A = ℕ} 0 1 = cc in absurd (omega arith)
channel_once false true e = let z : ◌≡◌ {A = ℕ} 0 1 = cc in absurd (omega arith)
channel_once false false e = refl

tag_once : (a b : Bool) → cond a stated by_position ≡ cond b stated by_position → a ≡ b
tag_once true true e = refl
tag_once true false e = let z : ◌≡◌ {A = ℕ} 0 1 = cc in absurd (omega arith)
tag_once false true e = let z : ◌≡◌ {A = ℕ} 0 1 = cc in absurd (omega arith)
tag_once false false e = refl

pub unique : Unique
unique = record {
  words_marks = record { asks_nothing = λ κs a. tt; one_outcome = λ κs a asked one other p q. both (p ∙ sym q) refl };
  words_first_mark = record { asks_nothing = λ κs a. tt; one_outcome = λ κs a asked one other p q. both (p ∙ sym q) refl };
  words_first_ones = record { asks_nothing = λ κs a. tt; one_outcome = λ κs a asked one other p q. both (p ∙ sym q) refl };
  print_lines_put_byte = record {
    can_be_met = λ κs. ((lent_mut (0 ∷ []), (0, (0, tt))), omega arith);
    one_outcome = λ κs a asked one other p q. both (p.0 ∙ sym q.0) (ap (λ x. (x, (tt, (tt, tt)))) (p.1 ∙ sym q.1));
  };
  print_lines_put_bytes = record {
    can_be_met = λ κs. ((lent_mut [], (0, (lent [], tt))), omega arith);
    one_outcome = λ κs a asked one other p q. both (p.0 ∙ sym q.0) (ap (λ x. (x, (tt, (tt, tt)))) (p.1 ∙ sym q.1));
  };
  print_lines_put_number = record {
    can_be_met = λ κs. ((lent_mut (replicate 20 0), (0, (0, tt))), omega arith);
    one_outcome = λ κs a asked one other p q. both (p.0 ∙ sym q.0) (ap (λ x. (x, (tt, (tt, tt)))) (p.1 ∙ sym q.1));
  };
  print_lines_give = record {
    asks_nothing = λ κs a. tt;
    one_outcome = λ κs a asked one other p q. let same = given_once p q in both same.0 (λ i. (tt, (same.1 i, tt)));
  };
  print_lines_refusal_line = record {
    asks_nothing = λ κs a. tt;
    one_outcome = λ κs a asked one other p q. let same = given_once p q in both same.0 (λ i. (tt, (tt, (same.1 i, tt))));
  };
  switch_edge_new = record {
    can_be_met = λ κs. ((0, (0, (0, (false, (false, tt))))), (omega arith, omega arith, omega arith));
    one_outcome = λ κs a asked one other p q. both (p ∙ sym q) refl;
  };
  switch_edge_first = record { asks_nothing = λ κs a. tt; one_outcome = λ κs a asked one other p q. both (p ∙ sym q) refl };
  switch_edge_second = record { asks_nothing = λ κs a. tt; one_outcome = λ κs a asked one other p q. both (p ∙ sym q) refl };
  switch_edge_label = record { asks_nothing = λ κs a. tt; one_outcome = λ κs a asked one other p q. both (p ∙ sym q) refl };
  switch_edge_gate = record { asks_nothing = λ κs a. tt; one_outcome = λ κs a asked one other p q. both (p ∙ sym q) refl };
  switch_edge_is_p = record {
    asks_nothing = λ κs a. tt;
    one_outcome = λ κs a asked one other p q. both (channel_once one.0 other.0 (p ∙ sym q)) refl;
  };
  switch_edge_is_stated = record {
    asks_nothing = λ κs a. tt;
    one_outcome = λ κs a asked one other p q. both (tag_once one.0 other.0 (p ∙ sym q)) refl;
  };
  switch_edge_default = record {
    asks_nothing = λ κs a. tt;
    one_outcome = λ κs a asked one other p q. both (λ i. record { code = (p ∙ sym q) i }) refl;
  };
  switch_module_type_default = record { asks_nothing = λ κs a. tt; one_outcome = λ κs a asked one other p q. both (p ∙ sym q) refl };
  join_nodes_complementary = record {
    can_be_met = λ κs. ((lent [], (2, (2, (1, tt)))), edges-given);
    one_outcome = λ κs a asked one other p q. both (p ∙ sym q) refl;
  };
  join_nodes_check_type = record {
    can_be_met = λ κs. ((bare_type, tt), type_given);
    one_outcome = λ κs a asked one other p q. both (p ∙ sym q) refl;
  };
  join_nodes_joining = record {
    can_be_met = λ κs. ((lent [], (2, (2, (1, (lent (replicate 48 0), (lent (replicate 48 0), tt)))))), edges-given);
    one_outcome = λ κs a asked one other p q. both (p ∙ sym q) refl;
  };
  join_nodes_join_type = record {
    can_be_met = λ κs. ((bare_type, (lent (replicate 48 0), (lent (replicate 48 0), tt))), type_given);
    one_outcome = λ κs a asked one other p q. both (p ∙ sym q) refl;
  };
  join_nodes_output_planes = record { asks_nothing = λ κs a. tt; one_outcome = λ κs a asked one other p q. both (p ∙ sym q) refl };
  circuit_states_channel = record {
    asks_nothing = λ κs a. tt;
    one_outcome = λ κs a asked one other p q. both (tag_once one.0 other.0 (p ∙ sym q)) refl;
  };
  circuit_kind_from = record { asks_nothing = λ κs a. tt; one_outcome = λ κs a asked one other p q. both (p ∙ sym q) refl };
  circuit_refusal_number = record { asks_nothing = λ κs a. tt; one_outcome = λ κs a asked one other p q. both (p ∙ sym q) refl };
  circuit_refusal_place = record { asks_nothing = λ κs a. tt; one_outcome = λ κs a asked one other p q. both (p ∙ sym q) refl };
  circuit_bridge_default = record {
    asks_nothing = λ κs a. tt;
    one_outcome = λ κs a asked one other p q.
        both
        (λ i. record {
          list = (p.0 ∙ sym q.0) i;
          kind = (p.1.0 ∙ sym q.1.0) i;
          first = (p.1.1.0 ∙ sym q.1.1.0) i;
          second = (p.1.1.1 ∙ sym q.1.1.1) i;
        })
        refl;
  };
  circuit_reference_default = record { asks_nothing = λ κs a. tt; one_outcome = λ κs a asked one other p q. both (p ∙ sym q) refl };
  circuit_instance_default = record { asks_nothing = λ κs a. tt; one_outcome = λ κs a asked one other p q. both (p ∙ sym q) refl };
  circuit_vector_default = record {
    asks_nothing = λ κs a. tt;
    one_outcome = λ κs a asked one other p q.
        both (λ i. record { ones = (p.0 ∙ sym q.0) i; zeros = (p.1 ∙ sym q.1) i }) refl;
  };
  read_fields_field_byte = record { asks_nothing = λ κs a. tt; one_outcome = λ κs a asked one other p q. both (p ∙ sym q) refl };
  read_fields_field_two_bytes = record { asks_nothing = λ κs a. tt; one_outcome = λ κs a asked one other p q. both (p ∙ sym q) refl };
  read_fields_step_of_kind = record { asks_nothing = λ κs a. tt; one_outcome = λ κs a asked one other p q. both (p ∙ sym q) refl };
  read_fields_reader_new = record {
    asks_nothing = λ κs a. tt;
    one_outcome = λ κs a asked one other p q. both (λ i. record { file = (p.0 ∙ sym q.0) i; at = (p.1 ∙ sym q.1) i }) refl;
  };
  read_fields_reader_step = record {
    asks_nothing = λ κs a. tt;
    one_outcome = λ κs a asked one other p q.
        let same = stepped_once one.0 other.0 p q in (same.0, both same.1 (λ i. (same.2 i, tt)));
  };
  read_fields_reader_next_of = record {
    asks_nothing = λ κs a. tt;
    one_outcome = λ κs a asked one other p q.
        let same = sought_once (of_kind a.1.0) one.0 other.0 p q in (same.0, both same.1 (λ i. (same.2 i, (tt, tt))));
  };
  read_types_read_types = record {
    can_be_met = λ κs. ((lent [], (0, tt)), omega arith);
    one_outcome = λ κs a asked one other p q. both (types_once a.0.now a.1.0 one.0 other.0 p q) refl;
  };
  read_bridges_lists_of = record {
    can_be_met = λ κs. ((lent [], tt), bridges-listed);
    one_outcome = λ κs a listed one other p q.
        both (p listed.bridges listed.within listed.ranges listed.are ∙ sym (q listed.bridges listed.within listed.ranges listed.are)) refl;
  };
  read_bridges_list_sum_default = record {
    asks_nothing = λ κs a. tt;
    one_outcome = λ κs a asked one other p q.
        both (λ i. record { count = (p.0 ∙ sym q.0) i; nodes = (p.1.0 ∙ sym q.1.0) i; labels = (p.1.1 ∙ sym q.1.1) i }) refl;
  };
  read_bridges_read_bridges = record {
    can_be_met = λ κs. ((lent [], (0, tt)), omega arith);
    one_outcome = λ κs a asked one other p q. both (bridges_once a.0.now a.1.0 one.0 other.0 p q) refl;
  };
  read_instances_read_instances = record {
    can_be_met = λ κs. ((lent [], (0, (held_none, tt))), (omega arith, (omega arith, held-at-none)));
    one_outcome = λ κs a asked one other p q. both (instances_once a.0.now a.1.0 a.1.1.0 asked.1.1 one.0 other.0 p q) refl;
  };
  read_vectors_read_vectors = record {
    can_be_met = λ κs. ((lent [], (0, (0, tt))), (omega arith, omega arith));
    one_outcome = λ κs a asked one other p q. both (vectors_once a.0.now a.1.0 a.1.1.0 one.0 other.0 p q) refl;
  };
  read_file_read_stages = record {
    asks_nothing = λ κs a. tt;
    one_outcome = λ κs a asked one other p q. both (stages_once a.1.0 a.0.now one.0 other.0 p q) refl;
  };
  read_file_read = record {
    asks_nothing = λ κs a. tt;
    one_outcome = λ κs a asked one other p q. both (answers_unique (reading_of a.0.now) one.0 other.0 p q) refl;
  };
  grading_ungraded_number = record { asks_nothing = λ κs a. tt; one_outcome = λ κs a asked one other p q. both (p ∙ sym q) refl };
  grading_ungraded_place = record { asks_nothing = λ κs a. tt; one_outcome = λ κs a asked one other p q. both (p ∙ sym q) refl };
  grading_counts_default = record {
    asks_nothing = λ κs a. tt;
    one_outcome = λ κs a asked one other p q.
        both
        (λ i. record {
          vectors = (p.0 ∙ sym q.0) i;
          faults = (p.1.0 ∙ sym q.1.0) i;
          classes = (p.1.1.0 ∙ sym q.1.1.0) i;
          found = (p.1.1.1.0 ∙ sym q.1.1.1.0) i;
          rounds = (p.1.1.1.1 ∙ sym q.1.1.1.1) i;
        })
        refl;
  };
  grading_ungraded_from = record { asks_nothing = λ κs a. tt; one_outcome = λ κs a asked one other p q. both (p ∙ sym q) refl };
  grading_number_of = record { asks_nothing = λ κs a. tt; one_outcome = λ κs a asked one other p q. both (p ∙ sym q) refl };
  grading_place_of = record { asks_nothing = λ κs a. tt; one_outcome = λ κs a asked one other p q. both (p ∙ sym q) refl };
  grading_counts_of = record {
    asks_nothing = λ κs a. tt;
    one_outcome = λ κs a asked one other p q. both (same_counts one.0 other.0 (p ∙ sym q)) refl;
  };
  grading_pack = record {
    can_be_met = λ κs. ((0, (0, (0, (0, tt)))), (omega arith, omega arith, omega arith, omega arith));
    one_outcome = λ κs a asked one other p q. both (p ∙ sym q) refl;
  };
  grading_instance_in = record { asks_nothing = λ κs a. tt; one_outcome = λ κs a asked one other p q. both (p ∙ sym q) refl };
  grading_kind_in = record { asks_nothing = λ κs a. tt; one_outcome = λ κs a asked one other p q. both (p ∙ sym q) refl };
  grading_first_in = record { asks_nothing = λ κs a. tt; one_outcome = λ κs a asked one other p q. both (p ∙ sym q) refl };
  grading_second_in = record { asks_nothing = λ κs a. tt; one_outcome = λ κs a asked one other p q. both (p ∙ sym q) refl };
  grade_rows_list_rows = record {
    can_be_met = λ κs. (
      (unused_instance, (bare_type, (lent [], (0, (lent_mut [], (0, tt)))))),
      ((omega arith, omega arith, omega arith), omega (arith, codes_of_none 2 1 [])),
    );
    one_outcome = λ κs a asked one other p q.
        both (p.end ∙ sym q.end) (ap (λ x. (tt, (tt, (tt, (tt, (x, (tt, tt))))))) (p.listed ∙ sym q.listed));
  };
  grade_rows_rows_of = record {
    can_be_met = λ κs. ((circuit-given.0, tt), circuit-given.1);
    one_outcome = λ κs a given one other p q. both (p given.circuit given.is given.good ∙ sym (q given.circuit given.is given.good)) refl;
  };
  grade_inputs_put_signals = record {
    can_be_met = λ κs. ((lent (replicate 256 unused_vector), (0, (lent_mut no_signals, tt))), (omega arith, (refl, refl)));
    one_outcome = λ κs a asked one other p q.
        both refl (λ i. (tt, (tt, (record { ones = (p.0 ∙ sym q.0) i; zeros = (p.1 ∙ sym q.1) i }, tt))));
  };
  grade_marks_mark_instance = record {
    can_be_met = λ κs. (
      (
        bare_type,
        (
          record { type_number = 0; choice = 0; references = first_input },
          (0, (0, (lent [], (lent_mut no_signals, (lent_mut [], tt))))),
        ),
      ),
      instance-given,
    );
    one_outcome = λ κs a asked one other p q.
        both (p.rounds_are ∙ sym q.rounds_are)
        (λ i. (tt, (tt, (tt, (tt, (tt, ((p.signals_are ∙ sym q.signals_are) i, ((p.rows_are ∙ sym q.rows_are) i, tt))))))));
  };
  grade_classes_write_keys = record {
    can_be_met = λ κs. (
      (lent_mut (replicate 2048 0), (0, (0, (0, (unused_instance, (0, tt)))))),
      ((omega arith, omega arith, omega arith), codes_fit (replicate 2048 0)),
    );
    one_outcome = λ κs a asked one other p q. both refl (λ i. ((p ∙ sym q) i, (tt, (tt, (tt, (tt, (tt, tt)))))));
  };
  grade_classes_class_rows = record {
    can_be_met = λ κs. ((lent [], (lent [], (lent_mut [], tt))), (omega arith, (omega arith, omega arith)));
    one_outcome = λ κs a asked one other p q.
        let classes = p.classes_are ∙ sym q.classes_are in
        let found : one.0.found ≡ other.0.found = p.found_is ∙ rw classes (sym q.found_is) in
        both (λ i. record { count = (p.count_is ∙ sym q.count_is) i; found = found i }) (λ i. (tt, (tt, (classes i, tt))));
  };
  grade_file_grade_circuit = record {
    can_be_met = λ κs. ((circuit-given.0, (lent_mut [], (lent_mut [], tt))), circuit-given.1);
    one_outcome = λ κs a given one other p q.
        let same = answered_once (p given.circuit given.is given.good) (q given.circuit given.is given.good) in
        both same.0 (λ i. (tt, ((same.1 i).matrix, ((same.1 i).classes, tt))));
  };
  grade_file_grade_read = record {
    can_be_met = λ κs. ((reading_of_none, (lent_mut [], (lent_mut [], tt))), none_read);
    one_outcome = λ κs a read one other p q.
        let same = answered_once (p read.file read.tells) (q read.file read.tells) in
        both same.0 (λ i. (tt, ((same.1 i).matrix, ((same.1 i).classes, tt))));
  };
  grade_file_grade = record {
    asks_nothing = λ κs a. tt;
    one_outcome = λ κs a asked one other p q.
        let same = answered_once p q in both same.0 (λ i. (tt, ((same.1 i).matrix, ((same.1 i).classes, tt))));
  };
  print_report_first_line = record {
    asks_nothing = λ κs a. tt;
    one_outcome = λ κs a asked one other p q. let same = given_once p q in both same.0 (λ i. (tt, (same.1 i, tt)));
  };
  print_report_row_line = record {
    asks_nothing = λ κs a. tt;
    one_outcome = λ κs a asked one other p q. let same = given_once p q in both same.0 (λ i. (tt, (tt, (tt, (same.1 i, tt)))));
  };
  print_report_rounds_line = record {
    asks_nothing = λ κs a. tt;
    one_outcome = λ κs a asked one other p q. let same = given_once p q in both same.0 (λ i. (tt, (same.1 i, tt)));
  };
  print_report_report_piece = record {
    asks_nothing = λ κs a. tt;
    one_outcome = λ κs a asked one other p q.
        let same = one_piece _ _ _ _ _ _ _ _ p.of_held q.of_held in both same.0 (λ i. (tt, (tt, (same.1 i, tt))));
  };
  program_io_output_default = record {
    asks_nothing = λ κs a. tt;
    one_outcome = λ κs a asked one other p q.
        both (λ i. record { is_lost = (p.0 ∙ sym q.0) i; has_report = (p.1 ∙ sym q.1) i }) refl;
  };
  print_circuit_show_piece = record {
    asks_nothing = λ κs a. tt;
    one_outcome = λ κs a asked one other p q.
        let same = one_piece _ _ _ _ _ _ _ _ p.given q.given in both same.0 (λ i. (tt, (tt, (same.1 i, tt))));
  };
  togyamiru_grade = record {
    asks_nothing = λ κs a. tt;
    one_outcome = λ κs a asked one other p q.
        let same = entry_once p q in both refl (λ i. (tt, ((same.1 i).matrix, ((same.1 i).classes, (same.0 i, tt)))));
  };
  togyamiru_grade_numbers = record {
    asks_nothing = λ κs a. tt;
    one_outcome = λ κs a asked one other p q.
        let same = numbers_once p q in both refl (λ i. (tt, ((same.1 i).matrix, ((same.1 i).classes, (same.0 i, tt)))));
  };
  bench_check = record { asks_nothing = λ κs a. tt; one_outcome = λ κs a asked one other p q. both (p ∙ sym q) refl };
  togyamiru_rows = record {
    asks_nothing = λ κs a. tt;
    one_outcome = λ κs a asked one other p q. let same = rows_once _ _ _ _ _ _ p q in both refl (λ i. (tt, (same.1 i, (same.0 i, tt))));
  };
}
