-- `read_types::passes::pass_in` meets its contract: the four bytes are its nodes, its channel and its label. Assumes nothing.
use mathlib.Core.Path.{◌≡◌, sym, subst, ◌∙◌}
use mathlib.Core.Bool.{true}
use native.Mathlib.Omega.{arith}
use lib.Dec.{T, leb→le}
use lib.ListN.{get_or}
use Rattle.std.proofs.lemmas.Grind.{common_steps}
use Rattle.circuit.specs.Known.{edges_told}
use Rattle.circuit.specs.Table.{first_of, edge_tests_of}
use Rattle.circuit.proofs.TypeLaws.{body_in_range, body-parts}
use Rattle.read_types.proofs.EdgeBytes.{stated_channel}
use Rattle.read_types.proofs.passes.pass_in.Goals as goal

pub returns : goal.returns
unfolding edge_tests_of edges_told first_of
returns c =
    let body = c.args.f.body.now in
    let t = c.args.t.now in
    let passed : body_in_range t.highest t.labels body ≡ true = sym c.pass_in_range.ensures ∙ c.if-not-pass_in_range.false in
    let channel = leb→le (get_or body 2 0) 1 (body-parts t.highest t.labels body (subst T (sym passed) tt)).channel_in_lem in
    (grind (arith, common_steps), c.new.ensures ∙ rw (stated_channel (get_or body 2 0) channel))
