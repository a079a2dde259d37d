-- `join_nodes::rounds::Network::joined_to` meets its contract. The loop's invariant: for each word of a node, a node has a bit exactly
-- where a path of at most
-- `rounds` links joins it to the rail (`WideReached`); `rounds` is not above the greatest distance (`NotAbove`); so many rounds were made,
-- and each
-- added a node (`RoundsMade`); `next` is as `joined`. The measure: what is left of 32 rounds. Assumes nothing.
use mathlib.Core.Path.{◌≡◌}
use Prim.Native.Nat.{◌-◌}
use Rattle.join_nodes.proofs.WideRounds.{WideReached}
use Rattle.join_nodes.proofs.RoundCounts.{NotAbove, RoundsMade}
use Rattle.join_nodes.proofs.rounds.Network.joined_to.Given as goal

abbrev pub invariant-turns : goal.invariant-turns
invariant-turns g l =
    (l.next ≡ l.joined)
    × WideReached l.self.edges.now l.self.planes.now g.row.W l.rail l.rounds l.joined
    × NotAbove l.self.edges.now l.self.planes.now g.row.W l.rail l.rounds
    × RoundsMade l.self.edges.now l.self.planes.now g.row.W l.rail l.rounds l.joined

abbrev pub decreases-turns : goal.decreases-turns
decreases-turns g l = 32 - l.rounds
