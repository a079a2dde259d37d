-- The NAND is accepted, and its record is one that the code takes (specs/Examples), by computation: `is_complementary` decides (proofs/Deciding).
-- Assumes nothing.
use mathlib.Core.Path.{◌≡◌, refl, sym, subst}
use mathlib.Core.Bool.{true}
use native.Mathlib.Omega.{arith}
use lib.Dec.{T}
use Rattle.words.specs.Bits.{bit}
use Rattle.switch.specs.Conduction.{between, channel_bit, channel_by, transistor_on, edge_on, links}
use Rattle.switch.specs.Modules.{all_of, type_in_range, edge_in_range, in_range, links_of, value_of_bit, setting_of}
use Rattle.switch.specs.Deciding.{rename, part_of_node, renamings, joins, all_below, one_rail, is_complementary}
use Rattle.switch.specs.Records.{tag_bit, tag_by, gate_of, edge_record, edge_of, edges_of, type_of}
use Rattle.switch.specs.Examples.{edge, nand, nand_record, NandGiven}
use Rattle.switch.proofs.Deciding.{complementary_decides}

nand-complementary : is_complementary nand ≡ true
unfolding edge nand
    bit transistor_on edge_on links links_of value_of_bit setting_of
    rename part_of_node renamings joins all_below one_rail is_complementary
nand-complementary = refl

pub nand-given : NandGiven
unfolding edge nand nand_record
    between all_of type_in_range edge_in_range in_range channel_bit channel_by tag_bit tag_by gate_of edge_record edge_of edges_of type_of
nand-given = record {
  accepted = record { ranges = tt; complementary = (complementary_decides nand).1 (subst T (sym nand-complementary) tt) };
  given = record { places = omega arith; ranges = tt };
  its_type = refl;
}
