-- An edge's record is the number of its parts, for either channel and either tag. Assumes nothing.
use Rattle.std.proofs.Common.{arith, ◌≡◌}
use Rattle.switch.specs.Conduction.{channel_bit}
use Rattle.switch.specs.Records.{tag_bit, gate_of, edge_record}
use Rattle.switch.proofs.Edge.new.Goals as goal

pub returns : goal.returns
unfolding edge_record gate_of channel_bit tag_bit
returns c = grind (arith)
