-- `join_nodes::settings::setting_ones` meets its contract. The loop's invariant: the labels below `l` have their planes, and the others 0.
-- Assumes nothing.
use mathlib.Core.Path.{◌≡◌, ap, ◌∙◌}
use mathlib.Core.List.{List}
use Prim.Native.Nat.{ℕ, ◌-◌, ◌^◌}
use native.Mathlib.Numerals.{add-one}
use native.Mathlib.Omega.{arith}
use lib.ListN.{set}
use Rattle.words.specs.Bits.{bit}
use Rattle.join_nodes.proofs.SettingBlocks.{low-planes, planes-one, planes-zero, settings_of_planes}
use Rattle.join_nodes.proofs.settings.setting_ones.Goals as goal
use Rattle.join_nodes.proofs.settings.setting_ones.Goals.{then-block-l-eq1, else-block-l-eq1}

pub loop-l-init : goal.loop-l-init
loop-l-init c = low-planes c.args.block

pub loop-l-preserved : goal.loop-l-preserved
unfolding bit
loop-l-preserved c =
    let l : ℕ = c.loop-l.l in
    let block : ℕ = c.args.block in
    let before = c.loop-l.invariant in
    rw add-one
    (elim c.if-block-l-eq1.branch [
      | then-block-l-eq1 w ↦
          w.ones-is ∙ ap (λ (ones : List ℕ). set ones l (2 ^ 64 - 1)) before
          ∙ planes-one block l (omega arith) (omega arith) w.if-block-l-eq1.true
      | else-block-l-eq1 w ↦ w.ones-is ∙ before ∙ planes-zero block l (omega arith) (omega arith) w.if-block-l-eq1.false
    ])

pub returns : goal.returns
returns c =
    let last : c.loop-l.l ≡ 12 = omega arith in
    c.loop-l.invariant ∙ rw last (settings_of_planes c.args.block)
