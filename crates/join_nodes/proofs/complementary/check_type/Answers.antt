-- `join_nodes::complementary::check_type` meets its contract: the used edges of the record are lent to `complementary`. Assumes nothing.
use mathlib.Core.Path.{◌≡◌, ap, ◌∙◌}
use native.Mathlib.Omega.{arith}
use lib.ListN.{length}
use Rattle.switch.specs.Deciding.{is_complementary}
use Rattle.join_nodes.proofs.Spreading.{front-type, front-given}
use Rattle.join_nodes.proofs.complementary.check_type.Goals as goal

pub complementary-requires : goal.complementary-requires
complementary-requires c =
    let long : length c.args.t.edges ≡ 256 = omega arith in
    front-given c.args.t c.requires long

pub returns : goal.returns
returns c = c.complementary.ensures ∙ ap is_complementary (front-type c.args.t)
