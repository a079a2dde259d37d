-- `join_nodes::rounds::settle` meets its contract. The loop's invariant: the first `p` words are taken over, and `added` tells of them.
-- Assumes nothing.
use Rattle.join_nodes.proofs.WideRounds.{TakenTo}
use Rattle.join_nodes.proofs.rounds.settle.Given as goal

abbrev pub invariant-loop-p : goal.invariant-loop-p
invariant-loop-p l = TakenTo l.initial.joined l.next l.p l.joined l.added
