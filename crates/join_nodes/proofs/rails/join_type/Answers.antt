-- `join_nodes::rails::join_type` meets its contract: the used edges of the record are lent to `joining`. Assumes nothing.
use mathlib.Core.Path.{◌≡◌, ap, ◌∙◌}
use native.Mathlib.Omega.{arith}
use lib.ListN.{length}
use Rattle.switch.specs.Modules.{ModuleType}
use Rattle.switch.specs.Promises.{rails_of}
use Rattle.join_nodes.proofs.Spreading.{front-type, front-given}
use Rattle.join_nodes.proofs.rails.join_type.Goals as goal

pub joining-requires : goal.joining-requires
joining-requires c =
    let long : length c.args.t.edges ≡ 256 = omega arith in
    front-given c.args.t c.requires long

pub returns : goal.returns
returns c = c.joining.ensures ∙ ap (λ (t : ModuleType). rails_of t c.args.ones.now c.args.zeros.now) (front-type c.args.t)
