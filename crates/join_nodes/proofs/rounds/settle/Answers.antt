-- `join_nodes::rounds::settle` meets its contract. The loop's invariant: the first `p` words are taken over, and `added` tells of them.
-- Assumes nothing.
use Prim.Native.Nat.{suc}
use mathlib.Core.Path.{◌≡◌}
use native.Mathlib.Numerals.{add-one}
use native.Mathlib.Omega.{arith}
use Rattle.join_nodes.proofs.WideRounds.{TakenTo, settled-none, settled_more, changed_lem}
use Rattle.join_nodes.proofs.rounds.settle.Goals as goal

pub loop-p-init : goal.loop-p-init
loop-p-init c = settled-none _ _

pub loop-p-preserved : goal.loop-p-preserved
loop-p-preserved c =
    let next : TakenTo c.args.joined.now c.args.next.now (suc c.loop-p.p) _ _ = settled_more (omega arith)
    (omega arith) c.loop-p.invariant in
    rw add-one next

pub returns : goal.returns
returns c =
    let last : c.loop-p.p ≡ c.args.places = omega arith in
    let all = rw last at c.loop-p.invariant in
    record { taken = all.taken; tells = changed_lem all }
