-- `join_nodes::conduction::gate_planes` meets its contract. The loop's invariant: the first `j` words of each plane stand in their places.
-- Assumes nothing.
use Rattle.join_nodes.proofs.GatePlanes.{FilledTo}
use Rattle.join_nodes.proofs.conduction.gate_planes.Given as goal

abbrev pub invariant-loop-j : goal.invariant-loop-j
invariant-loop-j g l = FilledTo l.ones l.zeros g.row.W l.planes l.j
