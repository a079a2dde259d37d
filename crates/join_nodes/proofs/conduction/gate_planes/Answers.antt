-- `join_nodes::conduction::gate_planes` meets its contract. The loop's invariant: the first `j` words of each plane stand in their places.
-- Assumes nothing.
use mathlib.Core.Path.{◌≡◌}
use Prim.Native.Nat.{◌*◌}
use native.Mathlib.Numerals.{add-one}
use native.Mathlib.Omega.{arith}
use Rattle.join_nodes.proofs.GatePlanes.{filled_none, filled_more, filled_all}
use Rattle.join_nodes.proofs.conduction.gate_planes.Goals as goal

pub loop-j-init : goal.loop-j-init
loop-j-init g c = rw c.requires.planes_value (filled_none c.args.ones.now c.args.zeros.now g.row.W)

pub loop-j-preserved : goal.loop-j-preserved
loop-j-preserved g c =
    let a = c.args in
    rw add-one (filled_more a.ones.now a.zeros.now g.row.W c.loop-j.planes c.loop-j.j (omega arith) c.loop-j.invariant)

pub returns : goal.returns
returns g c =
    let a = c.args in
    let last : c.loop-j.j ≡ g.row.W * 12 = omega arith in
    filled_all a.ones.now a.zeros.now g.row.W _ (rw last at c.loop-j.invariant)
