-- `join_nodes::rounds::hand_on` meets its contract. The loop's invariant: the first `w` words are handed on. Assumes nothing.
use mathlib.Core.Path.{refl}
use native.Mathlib.Nat.{zero-add}
use native.Mathlib.Numerals.{add-one}
use Rattle.join_nodes.specs.Model.{added, handed_to}
use Rattle.join_nodes.proofs.rounds.hand_on.Goals as goal

pub loop-w-init : goal.loop-w-init
unfolding handed_to
loop-w-init g c = refl

pub loop-w-preserved : goal.loop-w-preserved
unfolding handed_to added
loop-w-preserved g c = rw (add-one, zero-add, c.loop-w.invariant)
