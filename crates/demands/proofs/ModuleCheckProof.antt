-- Number 9 by blocks of settings is number 9 of the table, at every field and at the end, so a grader that checks by blocks is the right one; the wrong checks
-- accept a file that the table refuses, which is computed. Assumes nothing.
use Prim.Native.Nat.{ℕ, ◌+◌}
use mathlib.Core.Path.{◌≡◌, refl}
use mathlib.Core.Bool.{Bool, true, not, ◌&&◌}
use mathlib.Core.List.{List, [], ◌∷◌, ◌++◌, map}
use lib.ListN.{length}
use Rattle.switch.specs.Modules.{ModuleType}
use Rattle.switch.specs.Blocks.{block_holds, running_verdict, by_blocks}
use Rattle.switch.proofs.Blocks.{blocks_tell}
use Rattle.circuit.specs.Fields.{Field, Cut, clean, broken, field, cut_from}
use Rattle.words.specs.Tables.{table}
use Rattle.circuit.specs.Circuit.{Circuit, primary, no_faults}
use Rattle.switch.specs.Conduction.{by_position, stated}
use Rattle.circuit.specs.Order.{Tag, inputs_tag, type_tag, edge_tag, bridge_tag, instance_tag, vector_tag, no_tag, tag_of, is_edge}
use Rattle.circuit.specs.Known.{Known, start, known_after, latest}
use Rattle.circuit.specs.Table.{unjudged, not_complementary, body_tests, field_tests, end_tests}
use Rattle.circuit.specs.Table.{inputs_tests, type_tests, edge_tests, edge_tests_of, bridge_tests, instance_tests, instance_tests_of, vector_tests}
use Rattle.circuit.specs.Reading.{read_from, reading_with}
use Rattle.grading.specs.Buffers.{Buffers}
use Rattle.grading.specs.Grading.{grading_of}
use Rattle.demands.specs.Graders.{grades_by, rightly, read_taking, taking_and_testing}
use Rattle.demands.specs.Files.{inputs_field, type_field, edge_field, instance_field, vector_field, one_under}
use Rattle.demands.specs.ModuleCheck.{rejudged, field_tests_by, end_tests_by, checks_by, NineAsBefore}
use Rattle.demands.specs.ModuleCheck.{stops_at_a_good_block, leaves_the_last_out, keeps_the_last_block, WrongChecksAreWrong}
use Rattle.demands.proofs.Computing.{grader_computing}
use Rattle.demands.proofs.RightProof.{as_rightly}
use Rattle.demands.proofs.WrongProof.{NumberDiffers, by_number}

-- ---- the tests

-- no other test has number 9
other_tests : (check : ModuleType → Bool) (asked : Bool) (known : Known) (tag : Tag) (c : Circuit) (at : ℕ) (body : List ℕ)
    → map (rejudged check asked known) (body_tests tag c at body) ≡ body_tests tag c at body
unfolding rejudged body_tests inputs_tests type_tests edge_tests edge_tests_of bridge_tests instance_tests instance_tests_of vector_tests
other_tests check asked known inputs_tag c at body = refl
other_tests check asked known type_tag c at body = refl
other_tests check asked known (edge_tag by_position) c at body = refl
other_tests check asked known (edge_tag stated) c at body = refl
other_tests check asked known bridge_tag c at body = refl
other_tests check asked known instance_tag c at body = refl
other_tests check asked known vector_tag c at body = refl
other_tests check asked known no_tag c at body = refl

at_a_field : (known : Known) (f : Field) → field_tests_by by_blocks known f ≡ field_tests known f
unfolding field_tests_by field_tests rejudged not_complementary
at_a_field known f =
    rw (blocks_tell.same_verdict (latest known.circuit.types), other_tests by_blocks (unjudged known.previous && not (is_edge (tag_of f.tag))) known (tag_of f.tag) known.circuit f.at f.body)

at_the_end : (known : Known) (size : ℕ) → end_tests_by by_blocks known size ≡ end_tests true known size
unfolding end_tests_by end_tests rejudged not_complementary
at_the_end known size = rw (blocks_tell.same_verdict (latest known.circuit.types))

-- ---- files

read_alike : (size : ℕ) (known : Known) (cut : Cut) → read_taking known_after (field_tests_by by_blocks) (end_tests_by by_blocks) size known cut ≡ read_from true size known cut
unfolding read_taking read_from
read_alike size known clean = rw (at_the_end known size)
read_alike size known (broken at) = refl
read_alike size known (field f rest) = rw (at_a_field known f, read_alike size (known_after known f) rest)

same_outcome : (file : List ℕ) (before : Buffers) → rightly file before ≡ checks_by by_blocks file before
unfolding taking_and_testing rightly grades_by grading_of reading_with
same_outcome file before = rw (read_alike (length file) start (cut_from file 0))

pub nine_as_before : NineAsBefore
nine_as_before = record {
  at_a_field = at_a_field;
  at_the_end = at_the_end;
  on_files = λ file before.
      as_rightly (checks_by by_blocks) file before (same_outcome file before);
}

-- ---- wrong checks

-- an inverter of 7 labels, so of two blocks of settings, with one edge more; its instance has no faults
abbrev seven_labels : List ℕ → List ℕ
seven_labels edge =
    inputs_field 7 ++ type_field 2 2 7 ++ edge_field 1 2 (0 ∷ []) ++ edge_field 0 2 (0 ∷ []) ++ edge
    ++ instance_field 1 no_faults (table 7 (λ (l : ℕ). primary (l + 1)))
    ++ vector_field "0000000"

-- label 6 at 1 joins the output to ground beside label 0, so under settings of the second block only
abbrev fails_in_the_second : List ℕ
fails_in_the_second = seven_labels (edge_field 0 2 (6 ∷ []))

-- label 6 at 0 joins it to supply, so under settings of the first block only
abbrev fails_in_the_first : List ℕ
fails_in_the_first = seven_labels (edge_field 1 2 (6 ∷ []))

-- with label 0 at 1, the last setting, the output floats
abbrev fails_at_the_last : List ℕ
fails_at_the_last = one_under 1 (type_field 2 2 1 ++ edge_field 1 2 (0 ∷ [])) ("0" ∷ [])

-- each of them is refused by 9, and graded by one of the wrong checks
record Computed : Type 0 where
  stops : NumberDiffers (checks_by stops_at_a_good_block) fails_in_the_second
  leaves : NumberDiffers (checks_by leaves_the_last_out) fails_at_the_last
  keeps : NumberDiffers (checks_by keeps_the_last_block) fails_in_the_first

computed : Computed
unfolding grader_computing block_holds running_verdict by_blocks rejudged field_tests_by end_tests_by stops_at_a_good_block leaves_the_last_out keeps_the_last_block
computed = record { stops = refl; leaves = refl; keeps = refl }

pub wrong_checks_are_wrong : WrongChecksAreWrong
wrong_checks_are_wrong = record {
  stops_at_a_good_block_lem = by_number (checks_by stops_at_a_good_block) fails_in_the_second computed.stops;
  leaves_the_last_out_lem = by_number (checks_by leaves_the_last_out) fails_at_the_last computed.leaves;
  keeps_the_last_block_lem = by_number (checks_by keeps_the_last_block) fails_in_the_first computed.keeps;
}
