-- `join_nodes::rails::joining` meets its contract: the rounds' words over the parts of the slice's edges, and how many rounds there were,
-- are those of its edges
-- without their tags. Assumes nothing.
use native.Mathlib.Omega.{arith}
use Rattle.switch.specs.Records.{type_with}
use Prim.Native.Nat.{◌+◌}
use lib.ListN.{length, take}
use Rattle.join_nodes.specs.Model.{PartsFit}
use Rattle.join_nodes.proofs.EdgeParts.{edges_told_lem, parts_fit}
use Rattle.join_nodes.proofs.RailWords.{rails_told}
use Rattle.join_nodes.proofs.rails.joining.Goals as goal

pub invariant_of-network-clause-fit : goal.invariant_of-network-clause-fit
invariant_of-network-clause-fit c =
    let a = c.args in
    rw c.spread-parts.ensures.front (parts_fit a.highest a.output a.labels a.edges.now c.requires)

pub returns : goal.returns
unfolding type_with
returns c =
    let a = c.args in
    let fit : PartsFit (take (length a.edges.now) c.spread-parts.result) (a.highest + 1)
    = rw c.spread-parts.ensures.front (parts_fit a.highest a.output a.labels a.edges.now c.requires) in
    rails_told _ fit c.gate_planes.ensures _ _ _ _ _ (omega arith) c.join_rail-to_supply.ensures c.join_rail-to_ground.ensures
    (type_with a.highest a.output a.labels a.edges.now) (rw c.spread-parts.ensures.front (edges_told_lem a.edges.now))
