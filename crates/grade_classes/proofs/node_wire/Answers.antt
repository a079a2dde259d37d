-- `grade_classes::node_wire` meets its contract. Assumes nothing.
use Rattle.grade_classes.proofs.WireNumbers.{rail_number, output_number, inner_number}
use Rattle.grade_classes.proofs.node_wire.Goals as goal

pub returns-then-node-lt2 : goal.returns-then-node-lt2
returns-then-node-lt2 c = rail_number _ _ _ c.if-node-lt2.true

pub returns-then-node-output : goal.returns-then-node-output
returns-then-node-output c = output_number _ _ _ c.if-node-lt2.false c.if-node-output.true

pub returns : goal.returns
returns c = inner_number _ _ _ c.if-node-lt2.false c.if-node-output.false
