-- `join_nodes::settings::setting_zeros` meets its contract: each plane is turned. Assumes nothing.
use Rattle.std.proofs.Common.{◌-◌, ◌^◌, ◌≡◌, rules, get_or, ◌∙◌}
use Rattle.words.proofs.Tables.{is-table}
use Rattle.join_nodes.specs.Model.{setting_zeros}
use Rattle.join_nodes.proofs.SettingBlocks.{zero_plane, plane-not}
use Rattle.join_nodes.proofs.settings.setting_zeros.Goals as goal

pub returns : goal.returns
unfolding setting_zeros
returns c =
    is-table 0 12 (zero_plane c.args.block) c.map.result c.map.ensures.items.long (λ l h.
    let turned = c.map.ensures.items.at l 0 0 h in
    let is : get_or c.map.result l 0 ≡ (2 ^ 64 - 1) - get_or c.setting_ones.result l 0 = search (rules, turned.2.met) in
    is ∙ rw c.setting_ones.ensures (plane-not c.args.block l h))
