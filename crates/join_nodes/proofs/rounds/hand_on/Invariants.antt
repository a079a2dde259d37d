-- `join_nodes::rounds::hand_on` meets its contract. The loop's invariant: the first `w` words are handed on. Assumes nothing.
use mathlib.Core.Path.{◌≡◌}
use Rattle.join_nodes.specs.Model.{handed_to}
use Rattle.join_nodes.proofs.rounds.hand_on.Given as goal

abbrev pub invariant-loop-w : goal.invariant-loop-w
invariant-loop-w g l = l.to ≡ handed_to l.plane 0 l.from 0 l.initial.to 0 l.w
