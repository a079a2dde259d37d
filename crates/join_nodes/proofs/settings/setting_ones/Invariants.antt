-- `join_nodes::settings::setting_ones` meets its contract. The loop's invariant: the labels below `l` have their planes, and the others 0.
-- Assumes nothing.
use mathlib.Core.Path.{◌≡◌}
use Rattle.words.specs.Tables.{table, up_to}
use Rattle.join_nodes.proofs.SettingBlocks.{plane}
use Rattle.join_nodes.proofs.settings.setting_ones.Given as goal

abbrev pub invariant-loop-l : goal.invariant-loop-l
invariant-loop-l l = l.ones ≡ table 12 (up_to l.l (plane l.block))
