-- `join_nodes::complementary::TypeInParts::is_complementary` meets its contract: all blocks are asked. Assumes nothing.
use Rattle.std.proofs.Common.{ℕ, refl, rules, tests, arith, ◌∙◌}
use Rattle.std.proofs.lemmas.Iterator.{YieldsList-from_range}
use Rattle.std.proofs.lemmas.Iterator.Search.{all_from_yields_List}
use Rattle.switch.specs.Blocks.{block_holds}
use Rattle.join_nodes.specs.Model.{type_in_parts}
use Rattle.join_nodes.proofs.Check.{all_asked}
use Rattle.join_nodes.proofs.complementary.TypeInParts.is_complementary.Goals as goal

pub returns : goal.returns
unfolding type_in_parts
returns c =
    let own = c.args.self.now in
    let t = type_in_parts own.highest own.output own.labels own.edges.now in
    let blocks : ℕ = c.div_ceil.result in
    let all = all_from_yields_List (block_holds t) _ _ c.all.result c.all.ensures.ran
    (YieldsList-from_range 0 blocks blocks refl (omega arith)) (λ x b q k. search (rules, tests)) in
    all ∙ all_asked t blocks (omega (arith, c.div_ceil.ensures, c.settings_of.ensures.0))
