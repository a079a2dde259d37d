-- `join_nodes::edges::spread` meets its contract. The loop's invariant: the first `i` places hold the parts of the first `i` edges, and
-- the others are unused. Assumes nothing.
use Rattle.std.proofs.Common.{◌≡◌, ◌-◌, ◌++◌, take, map, replicate}
use Rattle.switch.specs.Modules.{most_edges}
use Rattle.join_nodes.specs.Model.{parts_of, unused_parts}
use Rattle.join_nodes.proofs.edges.spread.Given as goal

abbrev pub invariant-loop-i : goal.invariant-loop-i
invariant-loop-i l = l.parts ≡ map parts_of (take l.i l.edges) ++ replicate (most_edges - l.i) unused_parts
