-- `join_nodes::rounds::begin` meets its contract. Assumes nothing.
use native.Mathlib.Omega.{arith}
use Rattle.join_nodes.proofs.WideRounds.{begun}
use Rattle.join_nodes.proofs.rounds.begin.Goals as goal

pub returns : goal.returns
returns g c =
    let a = c.args in
    begun g.row.W a.rail c.requires.0 _ a.words.now c.fill.new.self (omega arith) c.requires.1 (c.fill.ensures.after (λ y e. e))
