-- `join_nodes::rounds::Network::round` meets its contract. The loop's invariant: `next` is the model's words after the edges so far.
-- Assumes nothing.
use mathlib.Core.Path.{◌≡◌}
use Rattle.join_nodes.specs.Model.{wide_round_to}
use Rattle.join_nodes.proofs.rounds.Network.round.Given as goal

abbrev pub invariant-loop-edge : goal.invariant-loop-edge
invariant-loop-edge g l = l.next ≡ wide_round_to l.self.edges.now l.self.planes.now g.row.W l.joined l.edge-index
