-- `join_nodes::complementary::TypeInParts::block_holds` meets its contract: the calls' words are those of the block's settings. Assumes
-- nothing.
use Rattle.join_nodes.proofs.Check.{block_verdict}
use Rattle.join_nodes.proofs.complementary.TypeInParts.block_holds.Goals as goal

pub returns : goal.returns
returns c =
    block_verdict
    c.args.self.now.given
    c.args.block
    c.settings_of.result
    c.first_ones-counted.result
    c.setting_ones.result
    c.setting_zeros.result
    _
    c.output_word-supply.result
    c.output_word-ground.result
    c.settings_of.ensures.0
    c.setting_ones.ensures
    c.setting_zeros.ensures
    c.gate_planes.ensures
    c.output_word-supply.ensures
    c.output_word-ground.ensures
    c.first_ones-counted.ensures
