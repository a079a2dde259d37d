-- Wrong ways to take the edges of a type (specs/SingleTransistors), each refuted by a file, and how grouped fields are read: computed. Assumes nothing.
use Prim.Native.Nat.{ℕ}
use mathlib.Core.Path.{refl}
use mathlib.Core.List.{List, [], ◌∷◌, ◌++◌}
use Rattle.switch.specs.Examples.{edge, nand}
use Rattle.demands.specs.Files.{inputs_field, type_field, edge_field, times, inverter_fields, nand_under, one_under}
use Rattle.demands.specs.SingleTransistors.{GroupedFieldsRead, retested, still_sixty_four, looks_when_full, refuses_groups, WrongEdgesAreWrong}
use Rattle.demands.proofs.Computing.{computing, grader_computing}
use Rattle.demands.proofs.WrongProof.{NumberDiffers, by_number}

pub grouped_fields_read : GroupedFieldsRead
unfolding computing edge nand
grouped_fields_read = record { nand_file = refl; repeated = refl }

-- the inverter with 63 edges more in parallel to its p-channel one
abbrev sixty_five : List ℕ
sixty_five = one_under 1 (inverter_fields ++ times 63 (edge_field 1 2 (0 ∷ []))) ("0" ∷ [])

-- a type of 255 edges, and a field of two labels
abbrev one_label_too_many : List ℕ
one_label_too_many = inputs_field 1 ++ type_field 2 2 1 ++ times 255 (edge_field 1 2 (0 ∷ [])) ++ edge_field 1 2 (0 ∷ 0 ∷ [])

record Computed : Type 0 where
  sixty_four : NumberDiffers still_sixty_four sixty_five
  when_full : NumberDiffers looks_when_full one_label_too_many
  groups : NumberDiffers refuses_groups (nand_under ("00" ∷ []))

computed : Computed
unfolding grader_computing retested still_sixty_four looks_when_full refuses_groups
computed = record { sixty_four = refl; when_full = refl; groups = refl }

pub wrong_edges_are_wrong : WrongEdgesAreWrong
wrong_edges_are_wrong = record {
  still_sixty_four_lem = by_number still_sixty_four sixty_five computed.sixty_four;
  looks_when_full_lem = by_number looks_when_full one_label_too_many computed.when_full;
  refuses_groups_lem = by_number refuses_groups (nand_under ("00" ∷ [])) computed.groups;
}
