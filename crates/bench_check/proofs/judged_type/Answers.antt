-- `bench_check::judged_type` meets its contract: its edge is one that a record has room for. Assumes nothing.
use Prim.Native.Nat.{◌+◌, ◌%◌, ◌<◌}
use native.Mathlib.Nat.{mod-lt}
use native.Mathlib.Omega.{arith}
use Rattle.bench_check.proofs.judged_type.Goals as goal

pub new-edge-requires : goal.new-edge-requires
new-edge-requires c =
    let small : c.args.label % (1 + c.args.k % 12) < 1 + c.args.k % 12 = mod-lt c.args.label (omega arith) in
    (omega arith, omega arith, omega (arith, small))

pub returns : goal.returns
returns c = rw c.new-edge.ensures
