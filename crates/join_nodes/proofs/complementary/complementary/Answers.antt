-- `join_nodes::complementary::complementary` meets its contract: the parts of the slice's edges tell them without their tags. Assumes
-- nothing.
use mathlib.Core.Path.{ap, ◌∙◌}
use mathlib.Core.List.{List}
use Rattle.switch.specs.Records.{type_with}
use Rattle.switch.specs.Deciding.{is_complementary}
use Rattle.switch.proofs.Blocks.{blocks_tell}
use Rattle.switch.proofs.Tags.{tags_conduct_nothing}
use Rattle.join_nodes.specs.Model.{type_in_parts}
use Rattle.join_nodes.specs.declared.edges.Parts.{Parts}
use Rattle.join_nodes.proofs.EdgeParts.{type_told, parts_given}
use Rattle.join_nodes.proofs.complementary.complementary.Goals as goal

pub invariant_of-is_complementary : goal.invariant_of-is_complementary
invariant_of-is_complementary c =
    let a = c.args in
    record { given = rw c.spread-parts.ensures.front (parts_given a.highest a.output a.labels a.edges.now c.requires) }

pub returns : goal.returns
returns c =
    let a = c.args in
    c.is_complementary.ensures
    ∙ blocks_tell.same_verdict _
    ∙ ap (λ (parts : List Parts). is_complementary (type_in_parts a.highest a.output a.labels parts)) c.spread-parts.ensures.front
    ∙ ap is_complementary (type_told a.highest a.output a.labels a.edges.now)
    ∙ tags_conduct_nothing.same_verdict (type_with a.highest a.output a.labels a.edges.now)
