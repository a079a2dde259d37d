-- `grade_classes::key_of` meets its contract. Assumes nothing.
use Prim.Native.Nat.{ℕ}
use mathlib.Core.Path.{ap, ap₂, ◌∙◌}
use native.Mathlib.Omega.{arith}
use mir.Syntax.{w16}
use mir.Val.{Fits}
use lib.ListN.{get_or}
use borrow.Author.Rules.{rules}
use Rattle.grade_classes.specs.Model.{pair_key}
use Rattle.grade_classes.proofs.WireNumbers.{node-few}
use Rattle.grade_classes.proofs.ClassLaws.{key_nodes, key_labelled, label_there}
use Rattle.grade_classes.proofs.key_of.Goals as goal

pub pair_key-requires : goal.pair_key-requires
pair_key-requires c =
    let own = c.requires.1 in (
      rw c.node_wire-first.ensures (node-few _ _ _ own (omega (arith, c.first_in.ensures))),
      rw c.node_wire.ensures (node-few _ _ _ own (omega (arith, c.second_in-second.ensures))),
    )

pub returns-then-kind-eq0 : goal.returns-then-kind-eq0
returns-then-kind-eq0 c =
    c.pair_key.ensures
    ∙ ap₂ pair_key c.node_wire-first.ensures c.node_wire.ensures
    ∙ key_nodes _ _ _ _ _ _ _ c.first_in.ensures c.second_in-second.ensures c.kind_in-kind.ensures c.if-kind-eq0.true

pub bounds-labels-second : goal.bounds-labels-second
bounds-labels-second c =
    label_there c.args.instance c.args.output c.args.labels _ _ _ _ c.first_in.ensures c.second_in-second.ensures
    c.kind_in-kind.ensures c.requires.0 c.if-kind-eq0.false

pub pair_key-requires-2 : goal.pair_key-requires-2
pair_key-requires-2 c =
    let few : Fits w16 (get_or c.args.labels c.second_in-second.result 0) = search rules in (
      rw c.node_wire-first.ensures (node-few _ _ _ c.requires.1 (omega (arith, c.first_in.ensures))),
      omega arith,
    )

pub returns : goal.returns
returns c =
    let labels = c.args.labels in
    c.pair_key-2.ensures
    ∙ ap (λ (n : ℕ). pair_key n (get_or labels c.second_in-second.result 0)) c.node_wire-first.ensures
    ∙ key_labelled _ _ _ _ _ _ _ c.first_in.ensures c.second_in-second.ensures c.kind_in-kind.ensures c.if-kind-eq0.false
