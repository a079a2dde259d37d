-- `read_bridges::lists::lists_of` meets its contract: each bridge more is added to the sum of its list. Assumes nothing.
use Prim.Native.Nat.{ℕ}
use mathlib.Core.Path.{ap, ◌∙◌}
use Rattle.std.proofs.Common.{rules}
use native.Mathlib.Numerals.{add-one}
use native.Mathlib.Omega.{arith}
use lib.ListN.{get_or, length, take, length-take, length-map}
use Rattle.circuit.specs.Records.{unused_bridge, bridge_record}
use Rattle.read_bridges.specs.ListSums.{ListedBridges}
use Rattle.read_bridges.specs.declared.lists.ListSum.{ListSum}
use Rattle.read_bridges.proofs.ListLaws.{ToldBy, BridgeAt, sums_none, bridge_at, taken_more, read_at, few, next_sums}
use Rattle.read_bridges.proofs.lists.lists_of.Goals as goal
use Rattle.read_bridges.proofs.lists.lists_of.Goals.{In-loop-b}

told : {records : _} (listed : ListedBridges records) → ToldBy records listed.bridges
told listed = record { within = listed.within; ranges = listed.ranges; are = listed.are }

-- the bridge at hand
at : (c : In-loop-b)
    → BridgeAt (get_or c.args.bridges.now c.loop-b.b-index unused_bridge)
    (bridge_at c.args.bridges.now c.requires.bridges (told c.requires) c.loop-b.b-index c.loop-b-test.true)
at c = read_at c.args.bridges.now c.requires.bridges (told c.requires) c.loop-b.b-index c.loop-b-test.true unused_bridge

pub loop-b-init : goal.loop-b-init
loop-b-init c bs t = sums_none c.default-lists.result (search rules)

pub bounds-lists-n : goal.bounds-lists-n
bounds-lists-n c = let r = at (goal.at.bounds-lists-n c).In-loop-b in omega (arith, r.list, r.small)

pub with-requires : goal.with-requires
with-requires c =
    let r = at (goal.at.with-requires c).In-loop-b in
    let bs = c.requires.bridges in
    let i = c.loop-b.b-index in
    let none : ListSum = record { count = 0; nodes = 0; labels = 0 } in
    let within = c.requires.within in
    let few = few (take i bs) c.loop-b.lists (c.loop-b.invariant bs (told c.requires)) _ _ r none in
    let long = ap length c.requires.are ∙ length-map bs bridge_record in
    (omega (arith, few, length-take i bs, c.loop-b-test.true, long), r.second)

pub bounds-lists-n-in-loop-b : goal.bounds-lists-n-in-loop-b
bounds-lists-n-in-loop-b c = let r = at (goal.at.bounds-lists-n-in-loop-b c).In-loop-b in omega (arith, r.list, r.small)

pub loop-b-preserved : goal.loop-b-preserved
loop-b-preserved c bs t =
    let records = c.args.bridges.now in
    let i : ℕ = c.loop-b.b-index in
    let taken = c.loop-b-test.true in
    rw (add-one i, taken_more records bs t i taken)
    (next_sums (take i bs) c.loop-b.lists (c.loop-b.invariant bs t) _ _ (read_at records bs t i taken unused_bridge) _
    c.with.result c.with.ensures)
