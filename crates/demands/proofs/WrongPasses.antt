-- Wrong ways to take tag 7 (specs/PassTransistors), each refuted by a file, and how its fields are read: computed. Assumes nothing.
use Prim.Native.Nat.{ℕ}
use mathlib.Core.Path.{refl}
use mathlib.Core.List.{List, [], ◌∷◌, ◌++◌}
use Rattle.switch.specs.Records.{tag_bit}
use Rattle.switch.specs.Tags.{untagged, untagged_type}
use Rattle.switch.specs.Examples.{edge}
use Rattle.demands.specs.Files.{field_bytes, inputs_field, type_field, edge_field, pass_field, times, inverter_fields, follower_fields, one_under, inverter}
use Rattle.demands.specs.PassTransistors.{untagged_circuit, passed_inverter, PassFieldsRead, passes_taken, retested_pass, stated_count, position_for_all, channels_exchanged, judges_at_pass}
use Rattle.demands.specs.PassTransistors.{counts_its_own, takes_equal_ends, takes_more_labels, keeps_the_rule, WrongPassesAreWrong}
use Rattle.demands.proofs.Computing.{computing, grader_computing, told_by, circuit_of, blank}
use Rattle.demands.proofs.WrongProof.{NumberDiffers, WordDiffers, by_number, by_word}

pub pass_fields_read : PassFieldsRead
unfolding computing edge told_by untagged untagged_type untagged_circuit
pass_fields_read = record {
  both_tags_lem = refl;
  against_position = refl;
  but_for_tags = (circuit_of inverter, circuit_of passed_inverter, refl, refl, refl);
}

-- the output follows the input, so that 0-2, whose words are from the fifth on, is not marked under 0
abbrev follower : List ℕ
follower = one_under 1 follower_fields ("0" ∷ [])

-- the inverter and one field more, with tag 7
abbrev inverter_and : List ℕ → List ℕ
inverter_and body = one_under 1 (inverter_fields ++ field_bytes 7 body) ("0" ∷ [])

-- 256 edges of tag 3, and one of tag 7
abbrev one_more : List ℕ
one_more = inputs_field 1 ++ type_field 2 2 1 ++ times 64 (edge_field 1 2 (0 ∷ 0 ∷ 0 ∷ 0 ∷ [])) ++ pass_field 1 2 1 0

record Computed : Type 0 where
  position : WordDiffers position_for_all follower 4
  exchanged : WordDiffers channels_exchanged follower 4
  judges : NumberDiffers judges_at_pass follower
  counts : NumberDiffers counts_its_own one_more
  equal_ends : NumberDiffers takes_equal_ends (inverter_and (2 ∷ 2 ∷ 1 ∷ 0 ∷ []))
  labels : NumberDiffers takes_more_labels (inverter_and (1 ∷ 2 ∷ 1 ∷ 0 ∷ 0 ∷ []))
  rule : NumberDiffers keeps_the_rule follower

computed : Computed
unfolding grader_computing tag_bit passes_taken retested_pass stated_count
    position_for_all channels_exchanged judges_at_pass counts_its_own takes_equal_ends takes_more_labels keeps_the_rule
computed = record { position = refl; exchanged = refl; judges = refl; counts = refl; equal_ends = refl; labels = refl; rule = refl }

pub wrong_passes_are_wrong : WrongPassesAreWrong
wrong_passes_are_wrong = record {
  position_for_all_lem = by_word blank position_for_all follower 4 computed.position;
  channels_exchanged_lem = by_word blank channels_exchanged follower 4 computed.exchanged;
  judges_at_pass_lem = by_number judges_at_pass follower computed.judges;
  counts_its_own_lem = by_number counts_its_own one_more computed.counts;
  takes_equal_ends_lem = by_number takes_equal_ends (inverter_and (2 ∷ 2 ∷ 1 ∷ 0 ∷ [])) computed.equal_ends;
  takes_more_labels_lem = by_number takes_more_labels (inverter_and (1 ∷ 2 ∷ 1 ∷ 0 ∷ 0 ∷ [])) computed.labels;
  keeps_the_rule_lem = by_number keeps_the_rule follower computed.rule;
}
