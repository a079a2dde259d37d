-- `join_nodes::complementary::settings_of` meets its contract: the shift loses no bit. Assumes nothing.
use Prim.Native.Nat.{◌^◌, ◌≤◌}
use native.Mathlib.Omega.{arith}
use lib.Pow.{pow_mono}
use Rattle.join_nodes.proofs.complementary.settings_of.Goals as goal

pub returns : goal.returns
returns c =
    let few : 2 ^ c.args.labels ≤ 4096 = pow_mono {i = c.args.labels} {j = 12} c.requires in
    (omega (arith, few), omega (arith, few))
